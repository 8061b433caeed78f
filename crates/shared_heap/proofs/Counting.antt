-- The logs of the threads of a closed world tell of its root what those of a heap with one object do.
use Rattle.std.proofs.Common.{[], ℕ, zero, suc, ◌≡◌, ◌≤◌, ◌+◌, ◌==◌, ◌&&◌, ◌∙◌, ⊎_elim, List, ◌∷◌, ◌++◌, ap, arith, length, refl, subst, sym, Bool, true, false, Some}
use Rattle.std.specs.Prelude.{if◌then◌else◌, slice_get}
use Rattle.std.specs.Arc.{arc_value}
use Rattle.std.proofs.lemmas.Bool.{and_from, and_parts, false≢true, ne_eqb}
use Rattle.std.proofs.lemmas.Option.{same_Some}
use Rattle.mark_core.specs.declared.kinds.Event.{Event}
use Rattle.mark_core.specs.declared.kinds.Shape.{Shape}
use Rattle.mark_core.specs.declared.kinds.Step.{Step}
use Rattle.mark_core.specs.declared.kinds.Step.TheVariants.{ExchangeValue}
use Rattle.gc_table.specs.Log.{all_steps}
use Rattle.gc_table.specs.Seats.{view_of}
use Rattle.gc_table.specs.declared.seat.HeapSeat.{HeapSeat}
use Rattle.gc_table.specs.declared.view.Entry.{Entry}
use Rattle.gc_table.specs.declared.view.View.{View}
use Rattle.gc_table.specs.declared.words.Words.{Words}
use Rattle.gc_table.proofs.History.Log.{events-of}
use Rattle.gc_table.proofs.Running.{ran-grows}
use Rattle.gc_table.specs.Single.{HasOne, all_won, exchanges_value, leaves_values, made_count, raises, spares_values, takes_turn, takes_turns, turned, won_count}
use Rattle.gc_table.proofs.Counted.{counter-told, won_join}
use Rattle.gc_table.proofs.Locked.{lock-held}
use Rattle.seat_turns.specs.Sharing.{spares_heap}
use Rattle.seat_turns.specs.declared.background.Tracer.{Tracer}
use Rattle.shared_heap.specs.Closing.{HasLeft, IsSharedEnd, all_seats}
use Rattle.shared_heap.specs.Counting.{CounterClosed, EachLog, LockClosed, OnlyExchanges, won_by}
use Rattle.shared_heap.specs.Threads.{IsWhole}
use Rattle.shared_heap.specs.declared.mutator.SharedMutator.{SharedMutator}
use Rattle.shared_heap.specs.declared.world.SharedWorld.{SharedWorld}
use Rattle.managed_heap.specs.Gathering.{AreLeft, seats_of}
use Rattle.managed_heap.proofs.SeatsGathered.{left-at, left-long, got-past, split-at}
use Rattle.shared_heap.proofs.Keeping.{made-more, spared-values}
use Rattle.shared_heap.proofs.Rooted.{all-join, all-more}

-- what leaves all values exchanges none
value_leaves : (fields : ℕ) (step : Step) → spares_values fields step ≡ true → leaves_values fields step ≡ true
value_leaves fields (ExchangeValue v m n) e = absurd (false≢true e)
value_leaves fields step e = e

value_raises : (fields : ℕ) (step : Step) → spares_values fields step ≡ true → raises step ≡ true
value_raises fields (ExchangeValue v m n) e = absurd (false≢true e)
value_raises fields step e = refl

value_turns : (fields : ℕ) (b : Bool) (step : Step) → spares_values fields step ≡ true → takes_turn b step ≡ true
value_turns fields b (ExchangeValue v m n) e = absurd (false≢true e)
value_turns fields b step e = refl

value_none : (fields : ℕ) (step : Step) → spares_values fields step ≡ true → exchanges_value step ≡ false
value_none fields (ExchangeValue v m n) e = absurd (false≢true e)
value_none fields step e = refl

turns_none : (fields : ℕ) (b : Bool) (es : List Entry) → all_steps (spares_values fields) es ≡ true → takes_turns b es ≡ true
turns_none fields b [] a = refl
turns_none fields b (x ∷ xs) a =
    let p = and_parts (spares_values fields x.step) (all_steps (spares_values fields) xs) a in
    and_from (takes_turn b x.step) (takes_turns (turned b x.step x.won) xs) (value_turns fields b x.step p.0) (turns_none fields (turned b x.step x.won) xs p.1)

turns_more : (fields : ℕ) (b : Bool) (xs ys : List Entry) → all_steps (spares_values fields) ys ≡ true → takes_turns b xs ≡ true → takes_turns b (xs ++ ys) ≡ true
turns_more fields b [] ys a h = turns_none fields b ys a
turns_more fields b (x ∷ xs) ys a h =
    let p = and_parts (takes_turn b x.step) (takes_turns (turned b x.step x.won) xs) h in
    and_from (takes_turn b x.step) (takes_turns (turned b x.step x.won) (xs ++ ys)) p.0 (turns_more fields (turned b x.step x.won) xs ys a p.1)

won_none : (fields : ℕ) (es : List Entry) → all_steps (spares_values fields) es ≡ true → won_count es ≡ 0
won_none fields [] a = refl
won_none fields (x ∷ xs) a =
    let p = and_parts (spares_values fields x.step) (all_steps (spares_values fields) xs) a in
    let here = ap {B = ℕ} (λ (b : Bool). if b && x.won then 1 else 0) (value_none fields x.step p.0) in
    let rest = won_none fields xs p.1 in
    omega (arith, here, rest)

-- who left has added nothing that a plain heap sees
left_log : (m : SharedMutator) (s : HeapSeat) → HasLeft m s → (more : List Entry) × ((view_of s).log ≡ (view_of m.seat).log ++ more) × (all_steps spares_heap more ≡ true)
left_log m s h =
    let v : View = view_of m.seat in
    let w : View = view_of h.left.seat in
    let leaves = h.leaves.same.leaves in
    let g = ran-grows v w leaves.ran in (
      g.0,
      ap (λ (t : HeapSeat). (view_of t).log) h.seat_is ∙ g.1,
      subst (λ (es : List Entry). all_steps spares_heap es ≡ true) (events-of v w g.0 g.1) leaves.only,
    )

-- what such steps leave of a log they leave of each
each_left : (P : List Entry → Type 0) → ((xs ys : List Entry) → all_steps spares_heap ys ≡ true → P xs → P (xs ++ ys)) → (ms : List SharedMutator) (ss : List HeapSeat) → AreLeft HasLeft ms ss → EachLog P ms
    → (i : ℕ) (s : HeapSeat) → slice_get ss i ≡ Some s → P (view_of s).log
each_left P grows ms ss left all i s at =
    let it = left-at HasLeft ms ss left i s at in
    let g = left_log it.0 s it.2 in
    subst P (sym g.1) (grows (view_of it.0.seat).log g.0 g.2 (all i it.0 it.1))

-- those that stand behind these took no step that a plain heap sees
abbrev AreSpared : List HeapSeat → List HeapSeat → Type 0
AreSpared rest more = (i : ℕ) (s : HeapSeat) → length rest ≤ i → slice_get (rest ++ more) i ≡ Some s → all_steps spares_heap (view_of s).log ≡ true

each_seat : (P : List Entry → Type 0) (root : HeapSeat) (rest more : List HeapSeat) → P (view_of root).log → ((i : ℕ) (s : HeapSeat) → slice_get rest i ≡ Some s → P (view_of s).log)
    → ((es : List Entry) → all_steps spares_heap es ≡ true → P es) → AreSpared rest more → (i : ℕ) (s : HeapSeat) → slice_get (root ∷ rest ++ more) i ≡ Some s → P (view_of s).log
each_seat P root rest more first others spared are zero s at = subst (λ (t : HeapSeat). P (view_of t).log) (same_Some root s at) first
each_seat P root rest more first others spared are (suc i) s at =
    ⊎_elim (λ (h : slice_get rest i ≡ Some s). others i s h) (λ (l : length rest ≤ i). spared (view_of s).log (are i s l at)) (split-at rest more i s at)

-- so did the tracers of a closed world
are_spared : (world : SharedWorld) (mutators : List SharedMutator) (tracers : List Tracer) (w : Words) (end : IsSharedEnd world mutators tracers w) (es : List Event) → IsWhole (arc_value world.heap).shape (all_seats world end.rest tracers) w es
    → AreSpared end.rest (seats_of tracers)
are_spared world mutators tracers w end es whole i s past at =
    let long = left-long HasLeft mutators end.rest end.left in
    whole.tracers (suc i) s (omega (arith, long, past, end.workers)) at

steps_more : (fields : ℕ) (P : Step → Bool) → ((step : Step) → spares_values fields step ≡ true → P step ≡ true) → (xs ys : List Entry) → all_steps spares_heap ys ≡ true → all_steps P xs ≡ true → all_steps P (xs ++ ys) ≡ true
steps_more fields P h xs ys a x = all-join P xs ys x (all-more (spares_values fields) P h ys (spared-values fields ys a))

-- the closed world has one object
has_one : (world : SharedWorld) (mutators : List SharedMutator) (tracers : List Tracer) (w : Words) (end : IsSharedEnd world mutators tracers w) (es : List Event) → IsWhole (arc_value world.heap).shape (all_seats world end.rest tracers) w es
    → EachLog (OnlyExchanges (arc_value world.heap).shape.fields) mutators → HasOne (arc_value world.heap).shape (all_seats world end.rest tracers) es
has_one world mutators tracers w end es whole all =
    record {
      others = whole.no_others;
      values =
          each_seat (λ l. all_steps (leaves_values fields) l ≡ true) world.zero end.rest (seats_of tracers) (all-more (spares_values fields) (leaves_values fields) (value_leaves fields) (view_of world.zero).log world.first.one.values)
          (each_left (λ l. all_steps (leaves_values fields) l ≡ true) (steps_more fields (leaves_values fields) (value_leaves fields)) mutators end.rest end.left (λ i m at. (all i m at).values))
          (λ l a. all-more (spares_values fields) (leaves_values fields) (value_leaves fields) l (spared-values fields l a))
          spared;
      made = made;
    }
  where
    fields : ℕ
    fields = (arc_value world.heap).shape.fields

    spared : AreSpared end.rest (seats_of tracers)
    spared = are_spared world mutators tracers w end es whole

    none_made : (i : ℕ) (s : HeapSeat) → slice_get (end.rest ++ seats_of tracers) i ≡ Some s → made_count fields (view_of s).log ≡ 0
    none_made i s at =
        ⊎_elim (λ (h : slice_get end.rest i ≡ Some s). each_left (λ l. made_count fields l ≡ 0) (λ xs ys a e. made-more fields xs ys a ∙ e) mutators end.rest end.left (λ j m is. (all j m is).made) i s h)
        (λ (l : length end.rest ≤ i). made-more fields [] (view_of s).log (spared i s l at))
        (split-at end.rest (seats_of tracers) i s at)

    made : (i : ℕ) (s : HeapSeat) → slice_get (all_seats world end.rest tracers) i ≡ Some s → made_count fields (view_of s).log ≤ (if i == 0 then 1 else 0)
    made zero s at = subst (λ (t : HeapSeat). made_count fields (view_of t).log ≤ 1) (same_Some world.zero s at) world.first.one.made
    made (suc i) s at =
        let none = none_made i s at in
        subst (λ (z : Bool). made_count fields (view_of s).log ≤ (if z then 1 else 0)) (sym (ne_eqb (suc i) 0 (λ e. omega (arith, e)))) (omega (arith, none))

won_left : (fields : ℕ) (ms : List SharedMutator) (ss : List HeapSeat) → AreLeft HasLeft ms ss → all_won ss ≡ won_by ms
won_left fields [] [] k = refl
won_left fields [] (t ∷ ts) k = absurd k
won_left fields (m ∷ ms) [] k = absurd k
won_left fields (m ∷ ms) (s ∷ ss) k =
    let g = left_log m s k.0 in
    let log : won_count (view_of s).log ≡ won_count ((view_of m.seat).log ++ g.0) = ap won_count g.1 in
    let both = won_join (view_of m.seat).log g.0 in
    let none = won_none fields g.0 (spared-values fields g.0 g.2) in
    let rest = won_left fields ms ss k.1 in
    omega (arith, log, both, none, rest)

-- who took no step that a plain heap sees won nothing
won_spared : (fields : ℕ) (ss : List HeapSeat) → ((i : ℕ) (s : HeapSeat) → slice_get ss i ≡ Some s → all_steps spares_heap (view_of s).log ≡ true) → all_won ss ≡ 0
won_spared fields [] h = refl
won_spared fields (s ∷ ss) h =
    let first = won_none fields (view_of s).log (spared-values fields (view_of s).log (h 0 s refl)) in
    let rest = won_spared fields ss (λ i t at. h (suc i) t at) in
    omega (arith, first, rest)

won_both : (xs ys : List HeapSeat) → all_won (xs ++ ys) ≡ all_won xs + all_won ys
won_both [] ys = omega arith
won_both (x ∷ xs) ys = let rest = won_both xs ys in omega (arith, rest)

pub counter-closed : CounterClosed
counter-closed world mutators tracers w end es whole all raised root at =
    let sh : Shape = (arc_value world.heap).shape in
    let more : List HeapSeat = seats_of tracers in
    let spared = are_spared world mutators tracers w end es whole in
    let each =
    each_seat (λ l. all_steps raises l ≡ true) world.zero end.rest more (all-more (spares_values sh.fields) raises (value_raises sh.fields) (view_of world.zero).log world.first.one.values)
    (each_left (λ l. all_steps raises l ≡ true) (steps_more sh.fields raises (value_raises sh.fields)) mutators end.rest end.left raised)
    (λ l a. all-more (spares_values sh.fields) raises (value_raises sh.fields) l (spared-values sh.fields l a))
    spared in
    let value : root.value ≡ all_won (all_seats world end.rest tracers) = counter-told sh (all_seats world end.rest tracers) w es whole.run (has_one world mutators tracers w end es whole all) each whole.root root at in
    let none = won_none sh.fields (view_of world.zero).log world.first.one.values in
    let both = won_both end.rest more in
    let idle =
    won_spared sh.fields more (λ i s is. let k : length end.rest ≤ length end.rest + i = omega arith in spared (length end.rest + i) s k (got-past end.rest more i (length end.rest + i) refl ∙ is)) in
    let rest = won_left sh.fields mutators end.rest end.left in
    omega (arith, value, none, both, idle, rest)

pub lock-closed : LockClosed
lock-closed world mutators tracers w end es whole all turns =
    let sh : Shape = (arc_value world.heap).shape in
    lock-held sh (all_seats world end.rest tracers) w es whole.run (has_one world mutators tracers w end es whole all)
    (each_seat (λ l. takes_turns false l ≡ true) world.zero end.rest (seats_of tracers) (turns_none sh.fields false (view_of world.zero).log world.first.one.values)
    (each_left (λ l. takes_turns false l ≡ true) (λ xs ys a h. turns_more sh.fields false xs ys (spared-values sh.fields ys a) h) mutators end.rest end.left turns)
    (λ l a. turns_none sh.fields false l (spared-values sh.fields l a))
    (are_spared world mutators tracers w end es whole))
