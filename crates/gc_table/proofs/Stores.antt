-- 18: a field or the value of an object is stored, whichever section made it.
use Rattle.mark_core.proofs.References.ReferencesNow.{the-roots, own-now}
use Rattle.mark_core.proofs.Lagging.{now-seat}
use Rattle.mark_core.specs.Variables.{roots_now}
use Rattle.mark_core.proofs.Writing.Ranges.{in-row}
use Rattle.std.proofs.Common.{ℕ, ◌≡◌, ◌≢◌, ◌+◌, ◌-◌, ◌*◌, ◌<◌, suc, List, set, get_or, length, arith, refl, sym, ap, ◌∙◌, subst, true, not, eqb, ◌&&◌, Option, Some, None, ◌⊎◌, inl, inr, ⊎_elim}
use Rattle.std.specs.Prelude.{IsTrue, slice_index, slice_index_or, nat_lt}
use Rattle.std.proofs.lemmas.Bool.{and_parts, not-true, eqb-false, ltb-true, cases_eq}
use Rattle.std.proofs.lemmas.List.{get_or-set_same, get_or-set_other, length-set}
use Rattle.plain_heap.specs.Paths.{Name}
use Rattle.mark_core.specs.Layout.{Words, words_of, region_sizes}
use Rattle.mark_core.specs.Bits.{cell_of}
use Rattle.mark_core.specs.Seats.{may_mutate}
use Rattle.mark_core.specs.Views.{makers}
use Rattle.mark_core.specs.Cells.{field}
use Rattle.mark_core.specs.Rules.HeapRules.{NamesInUse}
use Rattle.mark_core.specs.Steps.MutatorSteps.{in_variables, variable_or_nil, may_change, seat_variable as word_in}
use Rattle.mark_core.specs.Effects.{seat_after}
use Rattle.mark_core.specs.Steps.{Core}
use Rattle.mark_core.specs.Laws.{IsCore}
use Rattle.mark_core.proofs.Known.{found, words_left, seats_left}
use Rattle.mark_core.proofs.Blocks.BlocksStopped.{Taken, mine as own-fact}
use Rattle.mark_core.proofs.Writing.Places.{region-length}
use Rattle.mark_core.proofs.Pool.PoolPlaces.{same_place}
use Rattle.mark_core.proofs.References.ReferencesRoots.{Used, UsedAfter, seat-formed}
use Rattle.mark_core.proofs.Used.UsedSeats.{IsMadeBy}
use Rattle.mark_core.specs.declared.kinds.Step.{Step}
use Rattle.mark_core.specs.declared.kinds.Step.TheVariants.{ReadCount, StoreField, StoreValue}
use Rattle.mark_core.specs.declared.seat.SeatState.{SeatState}
use Rattle.gc_table.specs.RunWorlds.{World, WorldObject, WorldSection, section_of, variable_of, reference_of, replaced, no_object, with_object, with_reference, with_value, stored, name_at, referred, own_section}
use Rattle.gc_table.specs.Agreement.{HoldsObject, SeatAgrees, Agrees, AgreesIn, AgreesWith}
use Rattle.gc_table.proofs.Reading.{sections-kept, view-kept, object-inside, object-changed, object-other}
use Rattle.gc_table.proofs.Frame.{holds-on, Moves, moved, had-object, Mutates, mutates, looks, names, used-exists, not-making}

-- each variable of a mutator refers to what the heap has there
pub env-agrees : (c : Core) (i : ℕ) (s : SeatState) (step : Step) (world : World) (v : ℕ) → Taken c i s step → AgreesWith c world → Mutates c i s → v < 32 → referred (words_of c.shape c.words).identities (slice_index s.env v) ≡ variable_of world i v
env-agrees c i s step world v k a mu h =
    ap (referred (words_of c.shape c.words).identities) (sym (own-now c i s step v k mu.section mu.inside h)) ∙ a.roots_agree i v mu.inside h

-- what is stored in a field
pub stored-agrees : (c : Core) (i : ℕ) (s : SeatState) (step : Step) (world : World) (o : Option ℕ) → Taken c i s step → AgreesWith c world → Mutates c i s → in_variables o ≡ true → referred (words_of c.shape c.words).identities (variable_or_nil s o) ≡ stored world i o
stored-agrees c i s step world None k a mu h = refl
stored-agrees c i s step world (Some u) k a mu h = env-agrees c i s step world u k a mu (ltb-true u 32 h)

-- the object in cell y, to which variable v refers
pub record Refers (c : Core) (i : ℕ) (s : SeatState) (v : ℕ) (world : World) (y : ℕ) : Type 0 where
  pub cell : cell_of (word_in s v) ≡ y
  pub used : Used c y ≡ true
  pub exists : y < c.shape.cells
  pub variable : variable_of world i v ≡ Some (name_at (words_of c.shape c.words).identities y)
  pub holds : HoldsObject c.shape (words_of c.shape c.words).identities (words_of c.shape c.words).values (words_of c.shape c.words).fields world y

pub not-nil : (ids : List ℕ) (word y : ℕ) → word ≡ suc y → referred ids word ≡ Some (name_at ids y)
not-nil ids word y e = ap (referred ids) e

-- a variable whose object may change names a cell in use; nothing is asked of the object's section
pub refers : (c : Core) (i : ℕ) (s : SeatState) (step : Step) (v : ℕ) (world : World) → Taken c i s step → AgreesWith c world → Mutates c i s → v < 32 → may_change c.shape (words_of c.shape c.words).identities s v ≡ true → Refers c i s v world (word_in s v - 1)
refers c i s step v world k a mu hv e = record {
  cell = omega (arith, exists, k.core.formed.shaped.cells);
  used = used;
  exists = exists;
  variable = sym (env-agrees c i s step world v k a mu hv) ∙ not-nil w.identities word y next;
  holds = a.cells_agree y exists used;
}
  where
    w : Words
    w = words_of c.shape c.words

    word : ℕ
    word = word_in s v

    y : ℕ
    y = word - 1

    some : word ≡ 0 → ⊥
    some = eqb-false word 0 (not-true (eqb word 0) (and_parts (not (eqb word 0)) _ e).0)

    next : word ≡ suc y
    next = omega (arith, some)

    used : Used c y ≡ true
    used = names (Used c) word y next ((own-fact c i s step (NamesInUse w.allocs (makers c.seats)) k k.core.sound.references.seats_in_use).0 v 0 (omega (arith, hv, (seat-formed c i s step k).env)))

    exists : y < c.shape.cells
    exists = used-exists c k.core y used

-- what the words say of the object that changed, and of the other cells
pub record Rewrites (c : Core) (y : ℕ) (values fields : List ℕ) (object : WorldObject) : Type 0 where
  pub room : length object.refs ≡ c.shape.fields
  pub value : slice_index values y ≡ object.value
  pub each_field : (j : ℕ) → j < c.shape.fields → referred (words_of c.shape c.words).identities (field c.shape fields y j) ≡ reference_of object j
  pub other_values : (z : ℕ) → z ≢ y → slice_index values z ≡ slice_index (words_of c.shape c.words).values z
  pub other_fields : (z j : ℕ) → z ≢ y → j < c.shape.fields → field c.shape fields z j ≡ field c.shape (words_of c.shape c.words).fields z j

pub object-moves : (c : Core) (i : ℕ) (s : SeatState) (step : Step) (v : ℕ) (world : World) (y : ℕ) (values fields : List ℕ) (f : WorldObject → WorldObject) (owed : Option ℕ) → Taken c i s step → AgreesWith c world → ((z : ℕ) → IsMadeBy c.shape step z → ⊥)
    → (b : Refers c i s v world y) → Rewrites c y values fields (f b.holds.object)
    → Moves c i s step (record (words_of c.shape c.words) { values = values; fields = fields }) (record s { owes = owed }) world (with_object world (Some (name_at (words_of c.shape c.words).identities y)) f)
object-moves c i s step v world y values fields f owed k a none b r = record {
  sections = sections-kept world at g;
  variables = λ j h. view-kept (λ (x : WorldSection). length x.variables) world at j g inside refl;
  identities_kept = λ z u. refl;
  now_roots = the-roots c;
  now = now-seat w.roots c.seats i s (record s { owes = owed }) k.got refl refl;
  roots = λ j u h hu. a.roots_agree j u h hu ∙ sym (view-kept (λ (x : WorldSection). slice_index_or x.variables u None) world at j g inside refl);
  slots = λ j q h hq. a.slots_agree j q h hq ∙ sym (view-kept (λ (x : WorldSection). slice_index_or x.variables (32 + q) None) world at j g inside refl);
  cells = λ z h u. let before = had-object c i s step world z k a (none z) h u in cell z h before.0 before.1 (cases_eq z y);
  other_register = λ j d. register j;
  other_made = λ j d. made j;
  other_coming = λ j d. coming j;
  other_making = λ j o d g live z part e. r.other_values z (not-making c j o ReadCount z y part (looks c j o k.core g live) b.used e);
  own_seat =
      λ h live.
      let had : SeatAgrees c.shape w.identities w.values world i s = a.seats_agree i s k.got h k.live in
      record {
        register = had.register ∙ sym (register i);
        made = made i ∙ had.made;
        making = λ z part e l. r.other_values z (not-making c i s step z y part k b.used e) ∙ had.making z part e l ∙ sym (coming i);
        last = had.last;
      };
}
  where
    w : Words
    w = words_of c.shape c.words

    name : Name
    name = name_at w.identities y

    at : ℕ
    at = name.section

    g : WorldSection → WorldSection
    g = λ x. record x { objects = replaced x.objects name.number f }

    after : World
    after = with_object world (Some name) f

    inside : at < length world
    inside = object-inside world name b.holds.object b.holds.there

    register : (j : ℕ) → (section_of after j).register ≡ (section_of world j).register
    register j = view-kept (λ (x : WorldSection). x.register) world at j g inside refl

    made : (j : ℕ) → length (section_of after j).objects ≡ length (section_of world j).objects
    made j = view-kept (λ (x : WorldSection). length x.objects) world at j g inside (length-set (section_of world at).objects name.number (f (slice_index_or (section_of world at).objects name.number no_object)))

    coming : (j : ℕ) → (section_of after j).coming ≡ (section_of world j).coming
    coming j = view-kept (λ (x : WorldSection). x.coming) world at j g inside refl

    -- no other cell in use has the same name
    apart : (z : ℕ) → z < c.shape.cells → Used c z ≡ true → z ≢ y → (name_at w.identities z).section ≡ name.section → (name_at w.identities z).number ≢ name.number
    apart z h u d e same = d (k.core.sound.caches.distinct z h y b.exists u b.used (omega (arith, e, same)))

    cell : (z : ℕ) → z < c.shape.cells → Used c z ≡ true → HoldsObject c.shape w.identities w.values w.fields world z → (z ≡ y) ⊎ (z ≢ y) → HoldsObject c.shape w.identities values fields after z
    cell z h u before (inl e) = subst (λ j. HoldsObject c.shape w.identities values fields after j) (sym e)
        (record { object = f b.holds.object; there = object-changed world name f b.holds.object b.holds.there; room = r.room; value = r.value; each_field = r.each_field })
    cell z h u before (inr d) =
        holds-on c.shape w.identities w.identities w.values values w.fields fields world after z
        (record { identity = refl; value = r.other_values z d; each_field = λ j l. r.other_fields z j d l; targets = λ j l e q. refl; object = λ o e. object-other world name (name_at w.identities z) f inside (apart z h u d) ∙ e }) before

pub fields-length : (c : Core) → IsCore c → length (words_of c.shape c.words).fields ≡ c.shape.cells * c.shape.fields
fields-length c k = region-length (region_sizes c.shape) 11 c.words (omega (arith, k.formed.words))

pub values-length : (c : Core) → IsCore c → length (words_of c.shape c.words).values ≡ c.shape.cells
values-length c k = region-length (region_sizes c.shape) 10 c.words (omega (arith, k.formed.words))

pub field-rewrites : (c : Core) (i : ℕ) (s : SeatState) (v j y word : ℕ) (to : Option Name) (world : World) → y * c.shape.fields + j < length (words_of c.shape c.words).fields → j < c.shape.fields → (b : Refers c i s v world y) → referred (words_of c.shape c.words).identities word ≡ to
    → Rewrites c y (words_of c.shape c.words).values (set (words_of c.shape c.words).fields (y * c.shape.fields + j) word) (with_reference j to b.holds.object)
field-rewrites c i s v j y word to world inside hj b agrees = record {
  room = length-set b.holds.object.refs j to ∙ b.holds.room;
  value = b.holds.value;
  each_field = λ l hl. each l hl;
  other_values = λ z d. refl;
  other_fields = λ z l d hl. get_or-set_other fields (y * per_cell + j) (z * per_cell + l) word 0 (λ e. d (same_place per_cell z y l j hl hj e).0);
}
  where
    ids : List ℕ
    ids = (words_of c.shape c.words).identities

    fields : List ℕ
    fields = (words_of c.shape c.words).fields

    per_cell : ℕ
    per_cell = c.shape.fields

    each : (l : ℕ) → l < per_cell → referred ids (get_or (set fields (y * per_cell + j) word) (y * per_cell + l) 0) ≡ get_or (set b.holds.object.refs j to) l None
    each l hl =
        ⊎_elim
        (λ (e : l ≡ j). rw (e, get_or-set_same fields (y * per_cell + j) word 0 inside, get_or-set_same b.holds.object.refs j to None (omega (arith, b.holds.room, hj))) agrees)
        (λ (d : l ≢ j). rw (get_or-set_other fields (y * per_cell + j) (y * per_cell + l) word 0 (λ e. d (omega (arith, e))), get_or-set_other b.holds.object.refs j l to None d) (b.holds.each_field l hl))
        (cases_eq l j)

-- a field of an object to which a variable refers has a place
pub field-inside : (c : Core) (i : ℕ) (s : SeatState) (v j y : ℕ) (world : World) → IsCore c → j < c.shape.fields → Refers c i s v world y → y * c.shape.fields + j < length (words_of c.shape c.words).fields
field-inside c i s v j y world k hj b = subst (λ (l : ℕ). y * c.shape.fields + j < l) (sym (fields-length c k)) (in-row y c.shape.cells c.shape.fields j b.exists hj)

-- a reference is stored
pub store-field : (c : Core) (i : ℕ) (s : SeatState) (v j : ℕ) (o : Option ℕ) (world : World) → Taken c i s (StoreField v j o) → AgreesWith c world
    → AgreesIn c.shape (words_left c s (StoreField v j o)) (seats_left c i s (StoreField v j o)) (with_object world (variable_of world (own_section s) v) (with_reference j (stored world (own_section s) o)))
store-field c i s v j o world k a =
    let w : Words = words_of c.shape c.words in
    let step : Step = StoreField v j o in
    let b = and_parts (nat_lt v 32 && nat_lt j c.shape.fields && in_variables o) (may_mutate s) k.ok.0 in
    let d = and_parts (nat_lt v 32 && nat_lt j c.shape.fields) (in_variables o) b.0 in
    let e = and_parts (nat_lt v 32) (nat_lt j c.shape.fields) d.0 in
    let mu : Mutates c i s = mutates c i s step k b.1 in
    let y : ℕ = word_in s v - 1 in
    let there : Refers c i s v world y = refers c i s step v world k a mu (ltb-true v 32 e.0) k.ok.1.0 in
    let hj : j < c.shape.fields = ltb-true j c.shape.fields e.1 in
    let to : Option Name = stored world i o in
    let t : SeatState = seat_after c.shape s step (found c s step) in
    let P : ℕ → Option Name → Type 0 = λ cell name. Agrees c.shape (roots_now w.roots (set c.seats i t)) w.identities w.values (set w.fields (cell * c.shape.fields + j) (variable_or_nil s o)) (λ z. IsTrue (UsedAfter c i s step z)) (set c.seats i t) (with_object world name (with_reference j to)) in
    let base : P y (Some (name_at w.identities y)) =
    moved c i s step (record w { values = w.values; fields = set w.fields (y * c.shape.fields + j) (variable_or_nil s o) }) t world (with_object world (Some (name_at w.identities y)) (with_reference j to)) k a
    (object-moves c i s step v world y w.values (set w.fields (y * c.shape.fields + j) (variable_or_nil s o)) (with_reference j to) t.owes k a (λ z f. f) there (field-rewrites c i s v j y (variable_or_nil s o) to world (field-inside c i s v j y world k.core hj there) hj there (stored-agrees c i s step world o k a mu d.1))) in
    subst (λ (z : ℕ). AgreesIn c.shape (words_left c s step) (seats_left c i s step) (with_object world (variable_of world z v) (with_reference j (stored world z o)))) (sym mu.own)
    (subst (λ (z : ℕ). P z (variable_of world i v)) (sym there.cell) (subst (P y) (sym there.variable) base))

pub value-rewrites : (c : Core) (i : ℕ) (s : SeatState) (v n y : ℕ) (world : World) → IsCore c → (b : Refers c i s v world y) → Rewrites c y (set (words_of c.shape c.words).values y n) (words_of c.shape c.words).fields (with_value n b.holds.object)
value-rewrites c i s v n y world k b =
    let w : Words = words_of c.shape c.words in
    record {
      room = b.holds.room;
      value = get_or-set_same w.values y n 0 (omega (arith, b.exists, values-length c k));
      each_field = b.holds.each_field;
      other_values = λ z d. get_or-set_other w.values y z n 0 d;
      other_fields = λ z l d hl. refl;
    }

-- a value is stored
pub store-value : (c : Core) (i : ℕ) (s : SeatState) (v n : ℕ) (world : World) → Taken c i s (StoreValue v n) → AgreesWith c world
    → AgreesIn c.shape (words_left c s (StoreValue v n)) (seats_left c i s (StoreValue v n)) (with_object world (variable_of world (own_section s) v) (with_value n))
store-value c i s v n world k a =
    let w : Words = words_of c.shape c.words in
    let step : Step = StoreValue v n in
    let b = and_parts (nat_lt v 32) (may_mutate s) k.ok.0 in
    let mu : Mutates c i s = mutates c i s step k b.1 in
    let y : ℕ = word_in s v - 1 in
    let there : Refers c i s v world y = refers c i s step v world k a mu (ltb-true v 32 b.0) k.ok.1.0 in
    let P : ℕ → Option Name → Type 0 = λ cell name. Agrees c.shape (roots_now w.roots (set c.seats i s)) w.identities (set w.values cell n) w.fields (λ z. IsTrue (UsedAfter c i s step z)) (set c.seats i s) (with_object world name (with_value n)) in
    let base : P y (Some (name_at w.identities y)) =
    moved c i s step (record w { values = set w.values y n; fields = w.fields }) s world (with_object world (Some (name_at w.identities y)) (with_value n)) k a
    (object-moves c i s step v world y (set w.values y n) w.fields (with_value n) s.owes k a (λ z f. f) there (value-rewrites c i s v n y world k.core there)) in
    subst (λ (z : ℕ). AgreesIn c.shape (words_left c s step) (seats_left c i s step) (with_object world (variable_of world z v) (with_value n))) (sym mu.own)
    (subst (λ (z : ℕ). P z (variable_of world i v)) (sym there.cell) (subst (P y) (sym there.variable) base))
