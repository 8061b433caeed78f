-- 23: a part of a new cell is stored; with the last one there is one more object.
use Rattle.mark_core.proofs.References.ReferencesNow.{the-roots}
use Rattle.mark_core.proofs.Lagging.{now-seat}
use Rattle.mark_core.specs.Variables.{roots_now}
use Rattle.std.proofs.Common.{ℕ, ◌≡◌, ◌≢◌, ◌+◌, ◌*◌, ◌<◌, List, [], ◌∷◌, ◌++◌, set, length, replicate, arith, refl, sym, ap, ◌∙◌, subst, Bool, true, false, ◌&&◌, eqb, cond, Option, Some, None, ◌⊎◌, inl, inr, ⊎_elim}
use Rattle.std.specs.Prelude.{IsTrue, slice_get, slice_index, slice_index_or, nat_lt, nat_le, is_some, unwrap_or}
use Rattle.std.proofs.lemmas.Bool.{true≢false, false≢true, and_parts, eqb-true, ltb-true, ltb-false, le-leb, lt-leb, ne_eqb, eq-eqb, false_from_ne_true, cases_eq, cases_Bool}
use Rattle.std.proofs.lemmas.List.{get_or-set_same, get_or-set_other, get_or-replicate, length-replicate, length-append}
use Rattle.std.proofs.lemmas.Option.{slice_get_within}
use Rattle.plain_heap.specs.Paths.{Name}
use Rattle.mark_core.specs.Layout.{Words, words_of, put_word, region_sizes}
use Rattle.mark_core.specs.Numbers.{section_span, value_bound}
use Rattle.mark_core.specs.Seats.{free_in, makes, last_made, may_mutate}
use Rattle.mark_core.specs.Cells.{field}
use Rattle.mark_core.specs.Steps.MutatorSteps.{with_making, with_made}
use Rattle.mark_core.specs.Steps.{Core}
use Rattle.mark_core.specs.Laws.{IsCore}
use Rattle.mark_core.proofs.Known.{words_left, seats_left}
use Rattle.mark_core.proofs.Blocks.BlocksStopped.{Taken, mine as own-fact}
use Rattle.mark_core.proofs.Caches.CachesSeat.{all-facts, CacheFacts, next-free, next-makes}
use Rattle.mark_core.proofs.Caches.CachesSteps.{made_makes}
use Rattle.mark_core.proofs.Pool.PoolPlaces.{same_place}
use Rattle.mark_core.proofs.Writing.Places.{region-length}
use Rattle.mark_core.proofs.References.ReferencesFields.{new-fields}
use Rattle.mark_core.proofs.References.ReferencesRoots.{Used, UsedAfter, read-field, seat-formed}
use Rattle.mark_core.proofs.Used.UsedKept.{used-back}
use Rattle.mark_core.proofs.Used.UsedSeats.{IsMadeBy}
use Rattle.mark_core.specs.declared.kinds.Step.{Step}
use Rattle.mark_core.specs.declared.kinds.Step.TheVariants.{StoreNew}
use Rattle.mark_core.specs.declared.seat.SeatState.{SeatState}
use Rattle.mark_core.specs.declared.seat.CacheState.{CacheState}
use Rattle.gc_table.specs.RunWorlds.{World, WorldObject, WorldSection, section_of, object_of, in_section, with_new, with_part, name_at, referred, own_section}
use Rattle.gc_table.specs.Agreement.{HoldsObject, SeatAgrees, Agrees, AgreesIn, AgreesWith}
use Rattle.gc_table.proofs.Reading.{get-front, get-added, section-same, section-other, sections-kept, view-kept}
use Rattle.gc_table.proofs.Frame.{referred-on, IsLast, Stays, holds-on, Moves, moved, Mutates, mutates, names, got-used, root-used, free-not-used}
use Rattle.gc_table.proofs.Stores.{values-length}
use Rattle.gc_table.proofs.NewParts.{MakesPart, part_moves}

pub made_last : (o : Option CacheState) (x : ℕ) → free_in o x ≡ true → last_made (with_made o x) ≡ Some x
made_last None x e = absurd (false≢true e)
made_last (Some z) x e = refl

-- a section with one more object: those that it had, and the new one
pub before-new : (world : World) (i fields : ℕ) (name : Name) (o : WorldObject) → i < length world → object_of world name ≡ Some o → object_of (in_section world i (with_new fields)) name ≡ Some o
before-new world i fields name o inside e =
    ⊎_elim
    (λ (same : name.section ≡ i).
    let xs : List WorldObject = (section_of world i).objects in
    let here : slice_get xs name.number ≡ Some o = subst (λ (j : ℕ). slice_get (section_of world j).objects name.number ≡ Some o) same e in
    subst (λ (j : ℕ). slice_get (section_of (in_section world i (with_new fields)) j).objects name.number ≡ Some o) (sym same)
    (ap (λ (z : WorldSection). slice_get z.objects name.number) (section-same world i (with_new fields) inside)
    ∙ get-front xs (record { value = (section_of world i).coming; refs = replicate fields None }) name.number (slice_get_within xs name.number o here) ∙ here))
    (λ (d : name.section ≢ i). ap (λ (z : WorldSection). slice_get z.objects name.number) (section-other world i name.section (with_new fields) d) ∙ e)
    (cases_eq name.section i)

at_new : (world : World) (i fields : ℕ) (name : Name) → i < length world → name.section ≡ i → name.number ≡ length (section_of world i).objects
    → object_of (in_section world i (with_new fields)) name ≡ Some (record { value = (section_of world i).coming; refs = replicate fields None })
at_new world i fields name inside same last =
    let xs : List WorldObject = (section_of world i).objects in
    let new : WorldObject = record { value = (section_of world i).coming; refs = replicate fields None } in
    ap (λ (j : ℕ). slice_get (section_of (in_section world i (with_new fields)) j).objects name.number) same
    ∙ ap (λ (z : WorldSection). slice_get z.objects name.number) (section-same world i (with_new fields) inside)
    ∙ ap (λ (n : ℕ). slice_get (xs ++ new ∷ []) n) last ∙ get-added xs new

ids_length : (c : Core) → IsCore c → length (words_of c.shape c.words).identities ≡ c.shape.cells
ids_length c k = region-length (region_sizes c.shape) 9 c.words (omega (arith, k.formed.words))

-- the last part
made_moves : (c : Core) (i : ℕ) (s : SeatState) (x part word : ℕ) (world : World) → MakesPart c i s x part word world → c.shape.fields < part → word ≡ i * section_span + s.made
    → Moves c i s (StoreNew x part word) (record (words_of c.shape c.words) { identities = set (words_of c.shape c.words).identities x word }) (record s { cache = with_made s.cache x; made = s.made + 1 }) world (in_section world i (with_new c.shape.fields))
made_moves c i s x part word world p last identity = record {
  sections = sections-kept world i f;
  variables = λ j h. view-kept (λ (z : WorldSection). length z.variables) world i j f inside refl;
  identities_kept = kept;
  now_roots = the-roots c;
  now = now-seat w.roots c.seats i s (record s { cache = with_made s.cache x; made = s.made + 1 }) k.got refl refl;
  roots =
      λ j v h hv.
      referred-on w.identities ids (slice_index (the-roots c) (j * 32 + v)) (λ y e. kept y (root-used c (j * 32 + v) y k.core e)) ∙ a.roots_agree j v h hv
      ∙ sym (view-kept (λ (z : WorldSection). slice_index_or z.variables v None) world i j f inside refl);
  slots =
      λ j q h hq.
      let at : ℕ = c.shape.sections * 32 + (j * c.shape.slots + q) in
      referred-on w.identities ids (slice_index (the-roots c) at) (λ y e. kept y (root-used c at y k.core e)) ∙ a.slots_agree j q h hq
      ∙ sym (view-kept (λ (z : WorldSection). slice_index_or z.variables (32 + q) None) world i j f inside refl);
  cells = λ y h u. cell y h (used-back c i s step y k u);
  other_register = λ j d. ap (λ (z : WorldSection). z.register) (section-other world i j f d);
  other_made = λ j d. ap (λ (z : WorldSection). length z.objects) (section-other world i j f d);
  other_coming = λ j d. ap (λ (z : WorldSection). z.coming) (section-other world i j f d);
  other_making = λ j o d g live y q e. refl;
  own_seat =
      λ h live.
      record {
        register = referred-on w.identities ids s.got (λ y e. kept y (got-used c i s step y k e)) ∙ had.register ∙ sym (ap (λ (z : WorldSection). z.register) (section-same world i f inside));
        made = ap (λ (z : WorldSection). length z.objects) (section-same world i f inside) ∙ length-append (section_of world i).objects (new ∷ []) ∙ ap (λ (n : ℕ). n + 1) had.made;
        making = λ y q e l. absurd (false≢true (sym (made_makes s.cache x y q) ∙ e));
        last = subst (IsLast ids i (s.made + 1)) (sym (made_last s.cache x p.free)) (omega (arith, now, identity), omega arith);
      };
}
  where
    step : Step
    step = StoreNew x part word

    k : Taken c i s step
    k = p.taken

    a : AgreesWith c world
    a = p.agrees

    w : Words
    w = words_of c.shape c.words

    ids : List ℕ
    ids = set w.identities x word

    f : WorldSection → WorldSection
    f = with_new c.shape.fields

    new : WorldObject
    new = record { value = (section_of world i).coming; refs = replicate c.shape.fields None }

    after : World
    after = in_section world i f

    inside : i < length world
    inside = omega (arith, p.mutates.inside, a.sections)

    had : SeatAgrees c.shape w.identities w.values world i s
    had = a.seats_agree i s k.got p.mutates.inside k.live

    now : slice_index ids x ≡ word
    now = get_or-set_same w.identities x word 0 (omega (arith, p.cell, ids_length c k.core))

    few : s.made < section_span
    few = omega (arith, (seat-formed c i s step k).made, k.core.formed.shaped.objects)

    used_other : (y : ℕ) → Used c y ≡ true → y ≢ x
    used_other y u e = true≢false (sym u ∙ ap (Used c) e ∙ free-not-used c i s step x k p.free)

    kept : (y : ℕ) → Used c y ≡ true → slice_index ids y ≡ slice_index w.identities y
    kept y u = get_or-set_other w.identities x y word 0 (used_other y u)

    section : (name_at ids x).section ≡ i
    section = omega (arith, now, identity, few)

    number : (name_at ids x).number ≡ length (section_of world i).objects
    number = omega (arith, now, identity, few, had.made)

    next : makes s.cache x part ≡ true
    next = p.next (omega (arith, last))

    cell : (y : ℕ) → y < c.shape.cells → (Used c y ≡ true) ⊎ IsMadeBy c.shape step y → HoldsObject c.shape ids w.values w.fields after y
    cell y h (inl u) =
        let stays : Stays c.shape w.identities ids w.values w.values w.fields w.fields world after y =
        record {
          identity = kept y u;
          value = refl;
          each_field = λ j l. refl;
          targets = λ j l d e. kept d (names (Used c) (field c.shape w.fields y j) d e (read-field c i s step y j k p.mutates.active h u l));
          object = λ o e. before-new world i c.shape.fields (name_at w.identities y) o inside e;
        } in
        holds-on c.shape w.identities ids w.values w.values w.fields w.fields world after y stays (a.cells_agree y h u)
    cell y h (inr made) =
        subst (λ j. HoldsObject c.shape ids w.values w.fields after j) (sym made.0)
        (record {
          object = new;
          there = at_new world i c.shape.fields (name_at ids x) inside section number;
          room = length-replicate c.shape.fields None;
          value = had.making x part next last;
          each_field = λ j l. ap (referred ids) (new-fields c i s x part word k last j l) ∙ sym (get_or-replicate c.shape.fields j None None l);
        })

-- what agrees after the part, if it is a field, at most the value, and the value
abbrev NewAgrees : Core → ℕ → SeatState → ℕ → ℕ → ℕ → World → Bool → Bool → Bool → Type 0
NewAgrees c i s x part word world field_part early value_part =
    let w : Words = put_word (cond field_part (11, x * c.shape.fields + part) (cond value_part (10, x) (9, x))) word (words_of c.shape c.words) in
    let seats : List SeatState = set c.seats i (record s { cache = cond early (with_making s.cache x (part + 1)) (with_made s.cache x); made = cond early s.made (s.made + 1) }) in
    Agrees c.shape (roots_now w.roots seats) w.identities w.values w.fields (λ y. IsTrue (UsedAfter c i s (StoreNew x part word) y))
    seats
    (in_section world i (λ (z : WorldSection). cond field_part z (cond value_part (record z { coming = word }) (with_new c.shape.fields z))))

field_part : (c : Core) (i : ℕ) (s : SeatState) (x part word : ℕ) (world : World) → MakesPart c i s x part word world → part < c.shape.fields → NewAgrees c i s x part word world true true false
field_part c i s x part word world p h =
    let w : Words = words_of c.shape c.words in
    let fields : List ℕ = set w.fields (x * c.shape.fields + part) word in
    let f : WorldSection → WorldSection = λ z. z in
    moved c i s (StoreNew x part word) (record w { values = w.values; fields = fields }) (record s { cache = with_making s.cache x (part + 1) }) world (in_section world i f) p.taken p.agrees
    (part_moves c i s x part word world w.values fields f p (omega (arith, h))
    (record { other_values = λ y d. refl; other_fields = λ y j d l. get_or-set_other w.fields (x * c.shape.fields + part) (y * c.shape.fields + j) word 0 (λ e. d (same_place c.shape.fields y x j part l h e).0) })
    (record { objects = refl; variables = refl; register = refl }) (λ e. absurd (omega (arith, e, h))))

value_part : (c : Core) (i : ℕ) (s : SeatState) (x part word : ℕ) (world : World) → MakesPart c i s x part word world → part ≡ c.shape.fields → NewAgrees c i s x part word world false true true
value_part c i s x part word world p h =
    let w : Words = words_of c.shape c.words in
    let values : List ℕ = set w.values x word in
    let f : WorldSection → WorldSection = λ z. record z { coming = word } in
    moved c i s (StoreNew x part word) (record w { values = values; fields = w.fields }) (record s { cache = with_making s.cache x (part + 1) }) world (in_section world i f) p.taken p.agrees
    (part_moves c i s x part word world values w.fields f p (omega (arith, h))
    (record { other_values = λ y d. get_or-set_other w.values x y word 0 d; other_fields = λ y j d l. refl })
    (record { objects = refl; variables = refl; register = refl }) (λ e. get_or-set_same w.values x word 0 (omega (arith, p.cell, values-length c p.taken.core))))

last_part : (c : Core) (i : ℕ) (s : SeatState) (x part word : ℕ) (world : World) → MakesPart c i s x part word world → c.shape.fields < part → word ≡ i * section_span + s.made → NewAgrees c i s x part word world false false false
last_part c i s x part word world p h identity =
    let w : Words = words_of c.shape c.words in
    moved c i s (StoreNew x part word) (record w { identities = set w.identities x word }) (record s { cache = with_made s.cache x; made = s.made + 1 }) world (in_section world i (with_new c.shape.fields)) p.taken p.agrees
    (made_moves c i s x part word world p h identity)

-- the three kinds of parts
part_kinds : (c : Core) (i : ℕ) (s : SeatState) (x part word : ℕ) (world : World) → MakesPart c i s x part word world → (c.shape.fields < part → word ≡ i * section_span + s.made)
    → NewAgrees c i s x part word world (nat_lt part c.shape.fields) (nat_le part c.shape.fields) (eqb part c.shape.fields)
part_kinds c i s x part word world k identity = of (cases_Bool (nat_lt part c.shape.fields)) (cases_eq part c.shape.fields)
  where
    P : Bool → Bool → Bool → Type 0
    P = NewAgrees c i s x part word world

    turn : (a b d : Bool) → nat_lt part c.shape.fields ≡ a → nat_le part c.shape.fields ≡ b → eqb part c.shape.fields ≡ d → P a b d → P (nat_lt part c.shape.fields) (nat_le part c.shape.fields) (eqb part c.shape.fields)
    turn a b d e f g h = subst (λ y. P y (nat_le part c.shape.fields) (eqb part c.shape.fields)) (sym e) (subst (λ y. P a y (eqb part c.shape.fields)) (sym f) (subst (λ y. P a b y) (sym g) h))

    of : (nat_lt part c.shape.fields ≡ true) ⊎ (nat_lt part c.shape.fields ≡ false) → (part ≡ c.shape.fields) ⊎ (part ≢ c.shape.fields) → P (nat_lt part c.shape.fields) (nat_le part c.shape.fields) (eqb part c.shape.fields)
    of (inl e) d =
        let h : part < c.shape.fields = ltb-true part c.shape.fields e in
        turn true true false e (le-leb part c.shape.fields (omega (arith, h))) (ne_eqb part c.shape.fields (λ z. omega (arith, z, h))) (field_part c i s x part word world k h)
    of (inr e) (inl d) = turn false true true e (le-leb part c.shape.fields (omega (arith, d))) (eq-eqb part c.shape.fields d) (value_part c i s x part word world k d)
    of (inr e) (inr d) =
        let h : c.shape.fields < part = omega (arith, ltb-false part c.shape.fields e, d) in
        turn false false false e (lt-leb part c.shape.fields h) (ne_eqb part c.shape.fields d) (last_part c i s x part word world k h (identity h))

-- what fits the last part is the next identity
pub last_fits : (field_part value_part : Bool) (a b e : Bool) → field_part ≡ false → value_part ≡ false → cond field_part a (cond value_part b e) ≡ true → e ≡ true
last_fits field_part value_part a b e f g h = sym (ap (λ (z : Bool). cond z b e) g) ∙ (sym (ap (λ (z : Bool). cond z a (cond value_part b e)) f) ∙ h)

pub not_below : (m n : ℕ) → n < m → nat_lt m n ≡ false
not_below m n h = false_from_ne_true (nat_lt m n) (λ e. omega (arith, h, ltb-true m n e))

pub store-new : (c : Core) (i : ℕ) (s : SeatState) (x part word : ℕ) (world : World) → Taken c i s (StoreNew x part word) → AgreesWith c world
    → AgreesIn c.shape (words_left c s (StoreNew x part word)) (seats_left c i s (StoreNew x part word)) (in_section world (own_section s) (with_part c.shape.fields part word))
store-new c i s x part word world k a =
    subst (λ (j : ℕ). AgreesIn c.shape (words_left c s (StoreNew x part word)) (seats_left c i s (StoreNew x part word)) (in_section world j (with_part c.shape.fields part word))) (sym mu.own)
    (part_kinds c i s x part word world makes_part identity)
  where
    b : ((nat_lt x c.shape.cells && nat_le part (c.shape.fields + 1)) ≡ true) × (may_mutate s ≡ true)
    b = and_parts (nat_lt x c.shape.cells && nat_le part (c.shape.fields + 1)) (may_mutate s) k.ok.0

    mu : Mutates c i s
    mu = mutates c i s (StoreNew x part word) k b.1

    facts : CacheFacts s.cache
    facts = own-fact c i s (StoreNew x part word) (λ (t : SeatState). CacheFacts t.cache) k (all-facts c k.core)

    makes_part : MakesPart c i s x part word world
    makes_part = record {
      taken = k;
      agrees = a;
      mutates = mu;
      cell = ltb-true x c.shape.cells (and_parts (nat_lt x c.shape.cells) (nat_le part (c.shape.fields + 1)) b.0).0;
      free = next-free s.cache x part facts.made_from_free k.ok.1.0;
      next = λ h. next-makes s.cache x part (λ z. omega (arith, z, h)) k.ok.1.0;
    }

    identity : c.shape.fields < part → word ≡ i * section_span + s.made
    identity h =
        let low : nat_lt part c.shape.fields ≡ false = not_below part c.shape.fields h in
        let fits = last_fits (nat_lt part c.shape.fields) (eqb part c.shape.fields) (eqb word 0) (nat_lt word value_bound) (is_some s.section && nat_lt s.made c.shape.objects && eqb word (unwrap_or s.section 0 * section_span + s.made)) low (ne_eqb part c.shape.fields (λ z. omega (arith, z, h))) k.ok.1.1.0 in
        eqb-true word (unwrap_or s.section 0 * section_span + s.made) (and_parts (is_some s.section && nat_lt s.made c.shape.objects) (eqb word (unwrap_or s.section 0 * section_span + s.made)) fits).1 ∙ ap (λ (o : ℕ). o * section_span + s.made) mu.own
