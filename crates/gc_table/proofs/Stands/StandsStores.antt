-- 18: a field or the value of an object is stored.
use Rattle.mark_core.proofs.References.ReferencesNow.{the-roots, now-used}
use Rattle.mark_core.proofs.Consequences.Closing.{roots-still}
use Rattle.mark_core.proofs.Blocks.BlocksStopped.{still-stopped}
use Rattle.mark_core.specs.Rules.WorldRules.{is_stopped_phase}
use Rattle.mark_core.specs.Cells.{IsReachableCell}
use Rattle.mark_core.specs.Variables.{roots_now}
use Rattle.std.proofs.Common.{ℕ, ◌≡◌, ◌≢◌, ◌+◌, ◌-◌, ◌*◌, ◌<◌, List, set, get_or, length, arith, refl, sym, ap, ◌∙◌, subst, true, ◌&&◌, Option, Some, None, inl, ⊎_elim, [], ◌∷◌, false}
use Rattle.std.specs.Prelude.{IsFalse, IsTrue, slice_index_or, nat_lt, slice_get, unwrap_or, slice_index}
use Rattle.std.proofs.lemmas.Bool.{eqb-true, and_parts, ltb-true, cases_eq, cases_Bool}
use Rattle.std.proofs.lemmas.List.{get_or-set_same, get_or-set_other, length-set, set-get_or}
use Rattle.mark_core.specs.Layout.{Words, words_of, region_sizes}
use Rattle.mark_core.specs.Bits.{cell_of}
use Rattle.mark_core.specs.Seats.{may_mutate, is_phase}
use Rattle.mark_core.specs.Cells.{field, IsCellPath}
use Rattle.mark_core.specs.Rules.HeapRules.{number_of_cell}
use Rattle.mark_core.specs.Steps.MutatorSteps.{in_variables, variable_or_nil, seat_variable as word_in}
use Rattle.mark_core.specs.Effects.{seat_after}
use Rattle.mark_core.specs.Steps.{Core}
use Rattle.mark_core.specs.Laws.{IsCore}
use Rattle.mark_core.proofs.Known.{found, words_left, seats_left, all-makers, in_use-below}
use Rattle.mark_core.proofs.HeldBlock.{allocs-length}
use Rattle.mark_core.proofs.Blocks.BlocksStopped.{Taken, in-place}
use Rattle.mark_core.proofs.Writing.Places.{region-length}
use Rattle.mark_core.proofs.Pool.PoolPlaces.{same_place}
use Rattle.mark_core.proofs.References.ReferencesRoots.{Used, UsedAfter}
use Rattle.mark_core.specs.Views.{makers}
use Rattle.mark_core.specs.declared.kinds.Step.{Step}
use Rattle.mark_core.specs.declared.kinds.Step.TheVariants.{StoreField, StoreValue, ReadOwn, ReadCat, StoreRoot, StoreNew, ReadSlot, HoldRoot}
use Rattle.mark_core.specs.declared.seat.SeatState.{SeatState}
use Rattle.plain_heap.specs.declared.object.Ref.{Ref}
use Rattle.plain_heap.specs.declared.object.Ref.TheVariants as refs
use Rattle.plain_heap.specs.declared.object.Object.{Object}
use Rattle.plain_heap.specs.declared.operation.Op.{Op}
use Rattle.plain_heap.specs.declared.operation.Op.TheVariants as ops
use Rattle.plain_heap.specs.PlainHeap.{Heap, variable}
use Rattle.plain_heap.specs.PlainStep.{heap_after, replaced, with_field, with_value}
use Rattle.gc_table.specs.StandsFor.{object_count, WordAgrees, Stands, StandsIn, StandsFor}
use Rattle.gc_table.specs.declared.view.Meaning.{Meaning}
use Rattle.gc_table.specs.PlainSteps.{catalogue_seen, own_section, meaning_of, changed, stepped, IsSet, AsksIn, no_meaning, changed_by, meaning_after}
use Rattle.gc_table.proofs.Stands.StandsFrame.{moved}
use Rattle.gc_table.proofs.Stands.StandsObjects.{owned, Owns, owns, stored-object, with_object, Rewrites, object-moves}
use Rattle.gc_table.proofs.Stands.StandsSeat.{Mutates, mutates, env-agrees}
use Rattle.mark_core.specs.Numbers.{value_bound}
use Rattle.std.proofs.lemmas.Option.{get_or_from_slice_get}
use Rattle.mark_core.specs.declared.kinds.Shape.{Shape}
use Rattle.gc_table.specs.Laws.{OneMeaningChanges, OneCellIsNext}
use Rattle.mark_core.specs.Closed.{IsReachableIn}
use Rattle.mark_core.proofs.Consequences.Closing.{goes-to, path-kept}
use Rattle.mark_core.specs.declared.kinds.Phase.TheVariants.{Sweep}
use Rattle.mark_core.proofs.References.ReferencesKept.{kept-used as kept_used}

-- a cell in use exists
pub used-exists : (c : Core) → IsCore c → (x : ℕ) → Used c x ≡ true → x < c.shape.cells
used-exists c k x u = in_use-below c.shape (words_of c.shape c.words).allocs (makers c.seats) x k.formed.shaped (allocs-length c k) (all-makers c.shape c.seats (λ j t g. (k.formed.seats j t g).cache)) u

-- what is stored in a field, and the variable by which the plain heap stores it
set_agrees : (c : Core) (i : ℕ) (s : SeatState) (step : Step) (v j : ℕ) (o : Option ℕ) (op : Op) (ms : List Meaning) → Taken c i s step → StandsFor c ms → Mutates c i s ms → in_variables o ≡ true → IsSet (meaning_of ms i).heap v j o op
    → (u : ℕ) × (op ≡ ops.Set v j u) × WordAgrees (words_of c.shape c.words).identities (object_count ms) i (variable_or_nil s o) (variable (meaning_of ms i).heap u)
set_agrees c i s step v j None op ms k st a h (u, below, nil, is) = (u, is, inl (refl, nil))
set_agrees c i s step v j (Some u) op ms k st a h is = (u, is, env-agrees c i s step ms u k st a (ltb-true u 32 h))

pub fields-length : (c : Core) → IsCore c → length (words_of c.shape c.words).fields ≡ c.shape.cells * c.shape.fields
fields-length c k = region-length (region_sizes c.shape) 11 c.words (omega (arith, k.formed.words))

pub values-length : (c : Core) → IsCore c → length (words_of c.shape c.words).values ≡ c.shape.cells
values-length c k = region-length (region_sizes c.shape) 10 c.words (omega (arith, k.formed.words))

field_rewrites : (c : Core) (i : ℕ) (s : SeatState) (v j y : ℕ) (o : Option ℕ) (ref : Ref) (ms : List Meaning) → Taken c i s (StoreField v j o) → j < c.shape.fields → (b : Owns c i s v ms y) → b.holds.object.value < value_bound → WordAgrees (words_of c.shape c.words).identities (object_count ms) i (variable_or_nil s o) ref
    → Rewrites c i ms y (words_of c.shape c.words).values (set (words_of c.shape c.words).fields (y * c.shape.fields + j) (variable_or_nil s o)) (with_field b.holds.object j ref)
field_rewrites c i s v j y o ref ms k hj b small agrees = record {
  room = length-set b.holds.object.refs j ref ∙ b.holds.room;
  rest = λ l hl. get_or-set_other b.holds.object.refs j l ref refs.Nil (λ e. omega (arith, e, hl, hj)) ∙ b.holds.rest l hl;
  value = b.holds.value;
  fits = small;
  each_field = λ l hl. each l hl;
  other_values = λ z d. refl;
  other_fields = λ z l d hl. get_or-set_other fields (y * sh_fields + j) (z * sh_fields + l) word 0 (λ e. d (same_place sh_fields z y l j hl hj e).0);
}
  where
    fields : List ℕ
    fields = (words_of c.shape c.words).fields

    sh_fields : ℕ
    sh_fields = c.shape.fields

    word : ℕ
    word = variable_or_nil s o

    inside : y * sh_fields + j < length fields
    inside =
        let h : cell_of (word_in s v) * sh_fields + j < c.shape.cells * sh_fields = in-place c i s (StoreField v j o) k in
        let here : y * sh_fields + j < c.shape.cells * sh_fields = subst (λ z. z * sh_fields + j < c.shape.cells * sh_fields) b.cell h in
        subst (λ l. y * sh_fields + j < l) (sym (fields-length c k.core)) here

    each : (l : ℕ) → l < sh_fields → WordAgrees (words_of c.shape c.words).identities (object_count ms) i (get_or (set fields (y * sh_fields + j) word) (y * sh_fields + l) 0) (get_or (set b.holds.object.refs j ref) l refs.Nil)
    each l hl =
        ⊎_elim
        (λ (e : l ≡ j). rw (e, get_or-set_same fields (y * sh_fields + j) word 0 inside, get_or-set_same b.holds.object.refs j ref refs.Nil (omega (arith, b.holds.room, hj, k.core.formed.shaped.fields))) agrees)
        (λ (d : l ≢ j).
        rw (get_or-set_other fields (y * sh_fields + j) (y * sh_fields + l) word 0 (λ e. d (omega (arith, e))), get_or-set_other b.holds.object.refs j l ref refs.Nil d)
        (subst (λ z. WordAgrees (words_of c.shape c.words).identities (object_count ms) z (field c.shape fields y l) (slice_index_or b.holds.object.refs l refs.Nil)) b.section (b.holds.each_field l hl)))
        (cases_eq l j)

-- a reference is stored
pub store-field : (c : Core) (i : ℕ) (s : SeatState) (v j : ℕ) (o : Option ℕ) (op : Op) (ms : List Meaning) → IsFalse c.shape.sharing → Taken c i s (StoreField v j o) → StandsFor c ms → AsksIn s ms (StoreField v j o) op
    → StandsIn c.shape (words_left c s (StoreField v j o)) (seats_left c i s (StoreField v j o)) (changed ms (own_section s) (stepped (catalogue_seen ms (own_section s)) op))
store-field c i s v j o op ms alone k st asks =
    let w : Words = words_of c.shape c.words in
    let step : Step = StoreField v j o in
    let b = and_parts (nat_lt v 32 && nat_lt j c.shape.fields && in_variables o) (may_mutate s) k.ok.0 in
    let d = and_parts (nat_lt v 32 && nat_lt j c.shape.fields) (in_variables o) b.0 in
    let e = and_parts (nat_lt v 32) (nat_lt j c.shape.fields) d.0 in
    let a : Mutates c i s ms = mutates c i s step ms k st b.1 in
    let y : ℕ = word_in s v - 1 in
    let own : Owns c i s v ms y = owns c i s step v ms k st a (used-exists c k.core) (ltb-true v 32 e.0) (owned c.shape w.identities s v alone k.ok.1.0) in
    let asked : IsSet (meaning_of ms i).heap v j o op = subst (λ (z : ℕ). IsSet (meaning_of ms z).heap v j o op) a.own asks.1 in
    let x = set_agrees c i s step v j o op ms k st a d.1 asked in
    let m : Meaning = meaning_of ms i in
    let ref : Ref = variable m.heap x.0 in
    let object : Object = with_field own.holds.object j ref in
    let heap_is : heap_after m.heap (catalogue_seen ms i) op ≡ replaced m.heap (number_of_cell w.identities y) object =
    ap (λ (z : Op). heap_after m.heap (catalogue_seen ms i) z) x.1 ∙ stored-object c i s v ms y (λ z. with_field z j ref) own in
    let t : SeatState = seat_after c.shape s step (found c s step) in
    let P : ℕ → Heap → Type 0 = λ cell heap. Stands c.shape (roots_now w.roots (set c.seats i t)) w.identities w.values (set w.fields (cell * c.shape.fields + j) (variable_or_nil s o)) (λ z. IsTrue (UsedAfter c i s step z)) (set c.seats i t) (set ms i (record m { heap = heap })) in
    let base : P y (replaced m.heap (number_of_cell w.identities y) object) =
    moved c i s step (record w { values = w.values; fields = set w.fields (y * c.shape.fields + j) (variable_or_nil s o) }) t (with_object c i ms y object) ms k st a
    (object-moves c i s step v ms y w.values (set w.fields (y * c.shape.fields + j) (variable_or_nil s o)) object t.owes k st a (λ z f. f) own (field_rewrites c i s v j y o ref ms k (ltb-true j c.shape.fields e.1) own ((st.numbered i m a.there).4 (number_of_cell w.identities y) own.holds.object own.holds.there) x.2)) in
    subst (λ (z : ℕ). StandsIn c.shape (words_left c s step) (seats_left c i s step) (changed ms z (stepped (catalogue_seen ms z) op))) (sym a.own)
    (subst (λ (z : ℕ). P z (heap_after m.heap (catalogue_seen ms i) op)) (sym own.cell) (subst (P y) (sym heap_is) base))

value_rewrites : (c : Core) (i : ℕ) (s : SeatState) (v n y : ℕ) (ms : List Meaning) → IsCore c → n < value_bound → (b : Owns c i s v ms y) → Rewrites c i ms y (set (words_of c.shape c.words).values y n) (words_of c.shape c.words).fields (with_value b.holds.object n)
value_rewrites c i s v n y ms k small b =
    let w : Words = words_of c.shape c.words in
    record {
      room = b.holds.room;
      rest = b.holds.rest;
      value = get_or-set_same w.values y n 0 (omega (arith, b.exists, values-length c k));
      fits = small;
      each_field = λ l hl. subst (λ z. WordAgrees w.identities (object_count ms) z (field c.shape w.fields y l) (slice_index_or b.holds.object.refs l refs.Nil)) b.section (b.holds.each_field l hl);
      other_values = λ z d. get_or-set_other w.values y z n 0 d;
      other_fields = λ z l d hl. refl;
    }

-- a value is stored
pub store-value : (c : Core) (i : ℕ) (s : SeatState) (v n : ℕ) (op : Op) (ms : List Meaning) → IsFalse c.shape.sharing → Taken c i s (StoreValue v n) → StandsFor c ms → AsksIn s ms (StoreValue v n) op
    → StandsIn c.shape (words_left c s (StoreValue v n)) (seats_left c i s (StoreValue v n)) (changed ms (own_section s) (stepped (catalogue_seen ms (own_section s)) op))
store-value c i s v n op ms alone k st asks =
    let w : Words = words_of c.shape c.words in
    let step : Step = StoreValue v n in
    let b = and_parts (nat_lt v 32) (may_mutate s) k.ok.0 in
    let a : Mutates c i s ms = mutates c i s step ms k st b.1 in
    let y : ℕ = word_in s v - 1 in
    let own : Owns c i s v ms y = owns c i s step v ms k st a (used-exists c k.core) (ltb-true v 32 b.0) (owned c.shape w.identities s v alone k.ok.1.0) in
    let m : Meaning = meaning_of ms i in
    let object : Object = with_value own.holds.object n in
    let small : n < value_bound = asks.2 in
    let heap_is : heap_after m.heap (catalogue_seen ms i) op ≡ replaced m.heap (number_of_cell w.identities y) object =
    ap (λ (z : Op). heap_after m.heap (catalogue_seen ms i) z) asks.1 ∙ stored-object c i s v ms y (λ z. with_value z n) own in
    let P : ℕ → Heap → Type 0 = λ cell heap. Stands c.shape (roots_now w.roots (set c.seats i s)) w.identities (set w.values cell n) w.fields (λ z. IsTrue (UsedAfter c i s step z)) (set c.seats i s) (set ms i (record m { heap = heap })) in
    let base : P y (replaced m.heap (number_of_cell w.identities y) object) =
    moved c i s step (record w { values = set w.values y n; fields = w.fields }) s (with_object c i ms y object) ms k st a
    (object-moves c i s step v ms y (set w.values y n) w.fields object s.owes k st a (λ z f. f) own (value_rewrites c i s v n y ms k.core small own)) in
    subst (λ (z : ℕ). StandsIn c.shape (words_left c s step) (seats_left c i s step) (changed ms z (stepped (catalogue_seen ms z) op))) (sym a.own)
    (subst (λ (z : ℕ). P z (heap_after m.heap (catalogue_seen ms i) op)) (sym own.cell) (subst (P y) (sym heap_is) base))

-- One meaning changes at a step, and one cell of a section is made for the next object.
-- the section that changes is the seat's own
own_changes : (sh : Shape) (s : SeatState) (step : Step) (op : Op) (ms : List Meaning) (w : ℕ) (m : Meaning) → s.section ≡ Some w → slice_get ms w ≡ Some m → changed_by sh s step op ms ≡ set ms w (meaning_after sh s (catalogue_seen ms w) step op m)
own_changes sh s step op ms w m e g =
    let own : own_section s ≡ w = ap (λ (o : Option ℕ). unwrap_or o 0) e in
    let mine : meaning_of ms w ≡ m = get_or_from_slice_get ms w m no_meaning g in
    ap (λ (k : ℕ). set ms k (meaning_after sh s (catalogue_seen ms k) step op (meaning_of ms k))) own ∙ ap (λ (x : Meaning). set ms w (meaning_after sh s (catalogue_seen ms w) step op x)) mine

pub one_changes : OneMeaningChanges
one_changes sh s (StoreField v i o) op ms w m e g = own_changes sh s (StoreField v i o) op ms w m e g
one_changes sh s (StoreValue v n) op ms w m e g = own_changes sh s (StoreValue v n) op ms w m e g
one_changes sh s (StoreRoot v r) op ms w m e g = own_changes sh s (StoreRoot v r) op ms w m e g
one_changes sh s (HoldRoot v r) op ms w m e g = own_changes sh s (HoldRoot v r) op ms w m e g
one_changes sh s (ReadOwn x i) op ms w m e g = own_changes sh s (ReadOwn x i) op ms w m e g
one_changes sh s (ReadCat v) op ms w m e g = own_changes sh s (ReadCat v) op ms w m e g
one_changes sh s (ReadSlot k) op ms w m e g = own_changes sh s (ReadSlot k) op ms w m e g
one_changes sh s (StoreNew x part word) op ms w m e g = own_changes sh s (StoreNew x part word) op ms w m e g
one_changes sh s step op ms w m e g = sym (subst (λ (x : Meaning). set ms w x ≡ ms) (get_or_from_slice_get ms w m m g) (set-get_or ms w m))

pub one_next : OneCellIsNext
one_next c m x y k u v e a b = k.sound.caches.distinct x (used-exists c k x u) y (used-exists c k y v) u v (omega (arith, e, a.number, b.number))

-- Every reachable cell is in use, and what it names is in use.
path_used : (c : Core) → IsCore c → is_phase (words_of c.shape c.words).phase Sweep ≡ false → (x : ℕ) (ds : List ℕ) → IsCellPath c.shape (the-roots c) (words_of c.shape c.words).fields (x ∷ ds) → Used c x ≡ true
path_used c k e x [] p = goes-to (Used c) (slice_index (the-roots c) p.0) x p.2 (now-used c p.0 k)
path_used c k e x (d ∷ ds) p =
    let u : Used c d ≡ true = path_used c k e d ds p.1 in
    goes-to (Used c) (field c.shape (words_of c.shape c.words).fields d p.0.0) x p.0.2 (k.sound.references.fields_in_use e d (used-exists c k d u) u p.0.0 p.0.1)

pub reachable-used : (c : Core) (x : ℕ) → IsCore c → IsReachableIn c x → Used c x ≡ true
reachable-used c x k r =
    ⊎_elim
    (λ (e : is_phase (words_of c.shape c.words).phase Sweep ≡ true).
    let still = still-stopped c k (ap is_stopped_phase (eqb-true (words_of c.shape c.words).phase 3 e)) in
    let q : IsReachableCell c.shape (words_of c.shape c.words).roots (words_of c.shape c.words).fields x =
    subst (λ (rs : List ℕ). IsReachableCell c.shape rs (words_of c.shape c.words).fields x) (roots-still c k.sound still) r in
    kept_used c x k (path-kept c k e x q.0 q.1))
    (λ (e : is_phase (words_of c.shape c.words).phase Sweep ≡ false). path_used c k e x r.0 r.1)
    (cases_Bool (is_phase (words_of c.shape c.words).phase Sweep))
