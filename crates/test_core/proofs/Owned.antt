-- A variable whose plain reference is to an own object names a cell of the own section, so a field of that object may be stored.
use Rattle.std.proofs.Common.{ℕ, ◌≡◌, ◌-◌, ◌<◌, List, length, true, refl, sym, ap, subst, ◌∙◌, arith, inl, inr, Option, Some, None, ◌+◌, Bool}
use Rattle.std.specs.Prelude.{not, ◌==◌, ◌&&◌, nat_lt, slice_get, slice_index_or, IsFalse, option_map, nat_le, if◌then◌else◌}
use Rattle.std.proofs.lemmas.Bool.{and_parts, and_from, or_right, eq-eqb, ne_eqb, not-true, ltb-true, false≢true}
use Rattle.std.proofs.lemmas.List.{length-set, get_or-set_same, length-append}
use Rattle.std.proofs.lemmas.Option.{get_or_from_slice_get, slice_get-map}
use Rattle.mark_core.specs.Numbers.{section_variables}
use Rattle.mark_core.specs.Rules.HeapRules.{section_of_cell}
use Rattle.mark_core.specs.Layout.{words_of}
use Rattle.mark_core.specs.Steps.MutatorSteps.{may_change, seat_variable as word_in, names_last}
use Rattle.mark_core.specs.Seats.{is_the, may_mutate, saw, phase_number}
use Rattle.mark_core.specs.declared.kinds.Phase.TheVariants.{Marking, Full}
use Rattle.mark_core.specs.declared.kinds.Shape.{Shape}
use Rattle.mark_core.specs.declared.kinds.Step.TheVariants.{StoreField, ReadCount, StoreRoot, StoreNew}
use Rattle.mark_core.specs.declared.seat.SeatState.{SeatState}
use Rattle.mark_core.proofs.Blocks.BlocksStopped.{Taken}
use Rattle.plain_heap.specs.PlainHeap.{Heap as PlainHeap, variable, is_own}
use Rattle.plain_heap.specs.PlainStep.{stored_at, replaced_by, with_field, with_new, assigned}
use Rattle.plain_heap.specs.declared.object.Object.{Object}
use Rattle.plain_heap.specs.declared.object.Ref.{Ref}
use Rattle.plain_heap.specs.declared.object.Ref.TheVariants as refs
use Rattle.plain_heap.specs.declared.operation.Op.TheVariants as ops
use Rattle.gc_table.specs.PlainSteps.{meaning_of, no_meaning}
use Rattle.gc_table.specs.Rule.{IsState, Agrees}
use Rattle.gc_table.specs.Seats.{Sits, view_of}
use Rattle.gc_table.specs.StandsFor.{WordAgrees, object_count}
use Rattle.gc_table.specs.Taking.{after, Asked, May}
use Rattle.gc_table.specs.TableState.{TableState, meanings_of}
use Rattle.gc_table.specs.declared.seat.Heap.{Heap}
use Rattle.gc_table.specs.declared.seat.HeapSeat.{HeapSeat}
use Rattle.gc_table.specs.declared.view.Meaning.{Meaning}
use Rattle.gc_table.specs.declared.view.SectionState.{SectionState}
use Rattle.gc_table.specs.declared.view.View.{View}
use Rattle.gc_table.proofs.Stands.StandsSeat.{Mutates, mutates, looks, env-agrees}
use Rattle.test_core.specs.Ready.{Ready, Unnamed, SeatHasOwn, may_store_new, may_name, may_link}
use Rattle.mark_core.specs.Start.{start_seat}
use Rattle.mark_core.specs.declared.kinds.Phase.{Phase}
use Rattle.gc_table.specs.Sections.{named_by, start_section}
use Rattle.gc_table.proofs.RecordSteps.{may-by}

-- A new cell's words are stored, and then the cell in a variable.
-- a word of the cell may be stored
pub may-store : (h : Heap) (x : HeapSeat) (sh : Shape) (c part word : ℕ) → Sits h x → sh ≡ h.shape → may_store_new sh (view_of x).state c part word ≡ true → May (StoreNew c part word) (view_of x)
may-store h x sh c part word sits same e =
    may-by sh (view_of x) (view_of x).state (StoreNew c part word) (sits.1 ∙ sym same) refl (λ w seats. let p = and_parts _ _ e in let q = and_parts _ _ p.0 in (q.0, (q.1, (p.1, tt))))

-- the cell may be stored in a variable
pub may-be-named : (h : Heap) (x : HeapSeat) (v r : ℕ) → Sits h x → may_name (view_of x).state v r ≡ true → May (StoreRoot v r) (view_of x)
may-be-named h x v r sits e =
    may-by h.shape (view_of x) (view_of x).state (StoreRoot v r) sits.1 refl (λ w seats. let p = and_parts _ _ e in let q = and_parts _ _ p.0 in (q.0, (or_right _ _ q.1, (p.1, tt))))

made_after : (b : Bool) (made : ℕ) → b ≡ true → (if b then made else made + 1) ≡ made
made_after b made e = ap (λ (a : Bool). if a then made else made + 1) e

-- with a word before the last one the seat stays ready
pub ready-part : (h : Heap) (x y : HeapSeat) (c part word n : ℕ) → nat_le part h.shape.fields ≡ true → Ready h x → Sits h y → view_of y ≡ after (StoreNew c part word) n (view_of x) → Ready h y
ready-part h x y c part word n e r sits is =
    let v : View = view_of x in
    let early : nat_le part v.shape.fields ≡ true = ap (λ (sh : Shape). nat_le part sh.fields) r.0.1 ∙ e in (
      sits,
      ap (λ (w : View). length w.own.meaning.heap.objects) is ∙ r.1 ∙ sym (made_after _ v.state.made early) ∙ sym (ap (λ (w : View). w.state.made) is),
      ap (λ (w : View). length w.own.meaning.heap.variables) is ∙ r.2,
    )

-- once a variable names it, the plain heap has its object
pub heap-named : (h : Heap) (x y : HeapSeat) (u r n : ℕ) → names_last (view_of x).state.cache r ≡ true → Unnamed h x → view_of y ≡ after (StoreRoot u r) n (view_of x)
    → (view_of y).own.meaning.heap ≡ with_new (view_of x).own.meaning.heap u (view_of x).own.meaning.value
heap-named h x y u r n e a is =
    let v : View = view_of x in
    let m = v.own.meaning in
    let new : (names_last v.state.cache r && (length m.heap.objects + 1 == v.state.made)) ≡ true = and_from _ _ e (eq-eqb _ _ a.1) in
    ap (λ (w : View). w.own.meaning.heap) is ∙ ap (λ (b : Bool). if b then with_new m.heap u m.value else assigned m.heap u (named_by v.state m r)) new

-- the seat is ready once a variable names the new object
pub ready-named : (h : Heap) (x y : HeapSeat) (u r n : ℕ) → names_last (view_of x).state.cache r ≡ true → Unnamed h x → Sits h y → view_of y ≡ after (StoreRoot u r) n (view_of x) → Ready h y
ready-named h x y u r n e a sits is =
    let v : View = view_of x in
    let m = v.own.meaning in
    let heap : (view_of y).own.meaning.heap ≡ with_new m.heap u m.value = heap-named h x y u r n e a is in
    let made : (view_of y).state.made ≡ v.state.made = ap (λ (w : View). w.state.made) is in (
      sits,
      ap (λ (g : PlainHeap). length g.objects) heap ∙ length-append m.heap.objects _ ∙ a.1 ∙ sym made,
      ap (λ (g : PlainHeap). length g.variables) heap ∙ length-set m.heap.variables u _ ∙ a.2,
    )

-- what may be named is named by a variable that exists
pub below-variables : (s : SeatState) (v r : ℕ) → may_name s v r ≡ true → v < section_variables
below-variables s v r e = ltb-true v section_variables (and_parts _ _ (and_parts _ _ (and_parts _ _ e).0).0).0

-- what may be named was made last
pub made-last : (s : SeatState) (v r : ℕ) → may_name s v r ≡ true → names_last s.cache r ≡ true
made-last s v r e = (and_parts _ _ (and_parts _ _ e).0).1

pub seen_marking : (o : Option Phase) → saw o Marking ≡ true → (p : Phase) × (o ≡ Some p) × (p ≡ Full → ⊥)
seen_marking None e = absurd (false≢true e)
seen_marking (Some p) e = (p, refl, λ f. false≢true (sym (ap (λ (q : Phase). phase_number q == 1) f) ∙ e))

-- the object for which the cell was made is the section's new one
pub asked-new : (h : Heap) (x : HeapSeat) (v r : ℕ) → Unnamed h x → ((view_of x).state.active && saw (view_of x).state.phase_seen Marking) ≡ true → names_last (view_of x).state.cache r ≡ true → Asked (StoreRoot v r) (view_of x)
asked-new h x v r a seen last =
    let marking = seen_marking (view_of x).state.phase_seen (and_parts _ _ seen).1 in
    (marking, λ alone. (ops.New v (view_of x).own.meaning.value, (marking, (refl, refl, last, a.1))))

-- a word that agrees with an own reference isn't nil, and names a cell of the section
owned-word : (ids : List ℕ) (p : ℕ → ℕ) (i word : ℕ) (ref : Ref) → is_own ref ≡ true → WordAgrees ids p i word ref → (0 < word) × (section_of_cell ids (word - 1) ≡ i)
owned-word ids p i word refs.Nil is a = absurd (false≢true is)
owned-word ids p i word (refs.Cat k) is a = absurd (false≢true is)
owned-word ids p i word (refs.Own k) is (inl z) = absurd (cc)
owned-word ids p i word (refs.Own k) is (inr (some, names, below)) = (some, names.0)

-- in each state that agrees with the view, the variable's word names a cell of the own section
own-there : (y : TableState) (i : ℕ) (v : View) (u : ℕ) → IsFalse y.core.shape.sharing → IsState y → Agrees y i v → IsFalse v.state.spent → may_mutate v.state ≡ true → u < section_variables → is_own (variable v.own.meaning.heap u) ≡ true
    → may_change y.core.shape (words_of y.core.shape y.core.words).identities v.state u ≡ true
own-there y i v u alone st a live acts below own = and_from _ _ not_nil (or_right _ _ here)
  where
    ms : List Meaning
    ms = meanings_of y.sections

    ids : List ℕ
    ids = (words_of y.core.shape y.core.words).identities

    s : SeatState
    s = v.state

    k : Taken y.core i s ReadCount
    k = looks y.core i s st.core a.seat live

    m : Mutates y.core i s ms
    m = mutates y.core i s ReadCount ms k (st.stands alone) acts

    same : meaning_of ms i ≡ v.own.meaning
    same = get_or_from_slice_get ms i v.own.meaning no_meaning (slice_get-map (λ (x : SectionState). x.meaning) y.sections i ∙ ap (option_map (λ (x : SectionState). x.meaning)) (a.own i m.section))

    word : ℕ
    word = word_in s u

    names : (0 < word) × (section_of_cell ids (word - 1) ≡ i)
    names = owned-word ids (object_count ms) i word (variable (meaning_of ms i).heap u) (ap (λ (n : Meaning). is_own (variable n.heap u)) same ∙ own) (env-agrees y.core i s ReadCount ms u k (st.stands alone) m below)

    not_nil : not (word == 0) ≡ true
    not_nil = ap not (ne_eqb word 0 (λ e. omega (arith, e, names.0)))

    here : is_the s.section (section_of_cell ids (word - 1)) ≡ true
    here = subst (λ (o : Option ℕ). is_the o (section_of_cell ids (word - 1)) ≡ true) (sym m.section) (eq-eqb i (section_of_cell ids (word - 1)) (sym names.1))

-- variable w may be stored in field i of variable u's object
pub may-link : (h : Heap) (x : HeapSeat) (sh : Shape) (u i w : ℕ) → Sits h x → sh ≡ h.shape → SeatHasOwn x u → may_link sh (view_of x).state u i w ≡ true → May (StoreField u i (Some w)) (view_of x)
may-link h x sh u i w sits is own e =
    λ y k st a.
    let v : View = view_of x in
    let p = and_parts _ _ e in
    let t = and_parts _ _ p.1 in
    let q = and_parts _ _ t.0 in
    let f = and_parts _ _ p.0 in
    let g = and_parts _ _ (and_parts _ _ f.0).0 in
    let same : sh ≡ y.core.shape = is ∙ sym sits.1 ∙ a.shape in
    let alone : IsFalse y.core.shape.sharing = ap (λ (z : Shape). z.sharing) (sym same) ∙ not-true sh.sharing t.1 in
    let first : (nat_lt u section_variables && nat_lt i y.core.shape.fields && nat_lt w section_variables && may_mutate v.state) ≡ true = subst (λ (z : Shape). (nat_lt u section_variables && nat_lt i z.fields && nat_lt w section_variables && may_mutate v.state) ≡ true) same p.0 in
    (first, (own-there y k v u alone st a (not-true v.state.spent q.1) f.1 (ltb-true u section_variables g.0) own, (q.0, tt)))

-- a store in a field leaves the variables, and how many objects there are
same_variables : (heap : PlainHeap) (change : Object → Object) (o : Option Object) (n : ℕ) → (replaced_by heap n change o).variables ≡ heap.variables
same_variables heap change None n = refl
same_variables heap change (Some x) n = refl

same_count : (heap : PlainHeap) (change : Object → Object) (o : Option Object) (n : ℕ) → length (replaced_by heap n change o).objects ≡ length heap.objects
same_count heap change None n = refl
same_count heap change (Some x) n = length-set heap.objects n (change x)

stored-variables : (heap : PlainHeap) (ref : Ref) (change : Object → Object) → (stored_at heap ref change).variables ≡ heap.variables
stored-variables heap refs.Nil change = refl
stored-variables heap (refs.Cat n) change = refl
stored-variables heap (refs.Own n) change = same_variables heap change (slice_get heap.objects n) n

stored-count : (heap : PlainHeap) (ref : Ref) (change : Object → Object) → length (stored_at heap ref change).objects ≡ length heap.objects
stored-count heap refs.Nil change = refl
stored-count heap (refs.Cat n) change = refl
stored-count heap (refs.Own n) change = same_count heap change (slice_get heap.objects n) n

-- after the store the variables still name what they named
pub own-linked : (x y : HeapSeat) (u i w v n : ℕ) → SeatHasOwn x v → view_of y ≡ after (StoreField u i (Some w)) n (view_of x) → SeatHasOwn y v
own-linked x y u i w v n own is =
    let heap : PlainHeap = (view_of x).own.meaning.heap in
    let kept : (view_of y).own.meaning.heap.variables ≡ heap.variables = ap (λ (z : View). z.own.meaning.heap.variables) is ∙ stored-variables heap (variable heap u) (λ (object : Object). with_field object i (variable heap w)) in
    ap (λ (xs : List Ref). is_own (slice_index_or xs v refs.Nil)) kept ∙ own

-- the seat stays ready after the store
pub ready-linked : (h : Heap) (x y : HeapSeat) (u i w n : ℕ) → Ready h x → Sits h y → view_of y ≡ after (StoreField u i (Some w)) n (view_of x) → Ready h y
ready-linked h x y u i w n r sits is =
    let heap : PlainHeap = (view_of x).own.meaning.heap in
    let change : Object → Object = λ object. with_field object i (variable heap w) in (
      sits,
      ap (λ (z : View). length z.own.meaning.heap.objects) is ∙ stored-count heap (variable heap u) change ∙ r.1 ∙ sym (ap (λ (z : View). z.state.made) is),
      ap (λ (z : View). length z.own.meaning.heap.variables) is ∙ ap (λ (xs : List Ref). length xs) (stored-variables heap (variable heap u) change) ∙ r.2,
    )

-- if the seat has read that marking is under way, the store is the operation `set`
pub asked-set : (x : HeapSeat) (u i w : ℕ) → ((view_of x).state.active && saw (view_of x).state.phase_seen Marking) ≡ true → Asked (StoreField u i (Some w)) (view_of x)
asked-set x u i w seen = let marking = seen_marking (view_of x).state.phase_seen (and_parts _ _ seen).1 in (marking, λ alone. (ops.Set u i w, (marking, refl)))

-- the variable that got a new cell names an own object
pub own-named : (h : Heap) (x y : HeapSeat) (u r n : ℕ) → u < section_variables → names_last (view_of x).state.cache r ≡ true → Unnamed h x → view_of y ≡ after (StoreRoot u r) n (view_of x) → SeatHasOwn y u
own-named h x y u r n below e a is =
    let m : Meaning = (view_of x).own.meaning in
    let heap = heap-named h x y u r n e a is in
    ap (λ (g : PlainHeap). is_own (variable g u)) heap ∙ ap is_own (get_or-set_same m.heap.variables u (refs.Own (length m.heap.objects)) refs.Nil (omega (arith, below, a.2)))

-- a seat whose record and section are those of the start is ready to take steps
pub ready-start : (h : Heap) (k : ℕ) (x : HeapSeat) → Sits h x → (view_of x).state ≡ start_seat h.shape k → (view_of x).own.meaning ≡ (start_section h.shape k).meaning → Ready h x
ready-start h k x sits state meaning = (
  sits,
  ap (λ (m : Meaning). length m.heap.objects) meaning ∙ sym (ap (λ (s : SeatState). s.made) state),
  ap (λ (m : Meaning). length m.heap.variables) meaning,
)
