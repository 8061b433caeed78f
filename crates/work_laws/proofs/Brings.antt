-- Over every run: how often popped cells are found unpublished.
use Rattle.std.proofs.Common.{ℕ, ◌≡◌, ◌+◌, ◌≤◌, List, [], ◌∷◌, arith, refl, sym, ap, subst, cond, eqb, Bool, true, false, Option, None, Some}
use Rattle.std.specs.Prelude.{is_none, slice_get}
use Rattle.std.specs.List.{count_by}
use Rattle.std.proofs.lemmas.List.Elements.{All-head, All-tail}
use Rattle.mark_core.specs.Views.{hands}
use Rattle.mark_core.specs.Layout.{words_of}
use Rattle.mark_core.specs.Seats.{is_phase}
use Rattle.mark_core.specs.Rules.WorldRules.{is_tracing}
use Rattle.mark_core.specs.Steps.{Core, failing_part, after_event, run_of}
use Rattle.mark_core.specs.Laws.{IsCore, NumbersFit, AllNumbersFit}
use Rattle.mark_core.specs.declared.kinds.Event.{Event}
use Rattle.mark_core.specs.declared.kinds.Phase.TheVariants.{Marking}
use Rattle.mark_core.specs.declared.kinds.Shape.{Shape}
use Rattle.mark_core.specs.declared.seat.SeatState.{SeatState}
use Rattle.mark_core.proofs.CoreKept.{core_kept}
use Rattle.mark_core.proofs.Known.{seats_left, words_left}
use Rattle.mark_core.proofs.Count.CountMoves.{bit}
use Rattle.mark_core.proofs.Blocks.BlocksStopped.{kept-after}
use Rattle.work_laws.specs.Counting.{one_in, sum_events, count_events}
use Rattle.work_laws.specs.Marking.{pushes_fresh}
use Rattle.work_laws.specs.Queueing.{deferred_in_hand, has_deferred, puts_back}
use Rattle.work_laws.specs.Dirtying.{spills_deferred}
use Rattle.work_laws.specs.Bringing.{DeferringIsBounded, Waits, brought_in, brought_in_marking, defers_anew, has_new, new_in_hand, none_waits, pops_of_waiting, pops_out, ready_cells, ready_in, waits_after, waits_by}
use Rattle.work_laws.proofs.Sums.{Pays, paid, plus, one-is}
use Rattle.work_laws.proofs.Seats.{IsOfHands, seats-move}
use Rattle.work_laws.proofs.Queues.{deferred_hands}
use Rattle.work_laws.proofs.BringSteps.{back-paid, new-paid, ready-paid}
use Rattle.work_laws.proofs.Idles.{idle-new, idle-ready}
use Rattle.work_laws.proofs.Phases.{brought-none, drain-left, drained-none, unmarked-after}

pub new_hands : IsOfHands (λ s. bit (has_new s))
new_hands = record { start = λ sh k. refl; spent = λ sh k. refl }

-- what one event finds, and what is left to find
abbrev EventPays : Core → Event → Waits → Type 0
EventPays c e waits =
    one_in defers_anew c e + (ready_cells (after_event c e) (waits_by (slice_get c.seats e.seat) e.step waits) + new_in_hand (after_event c e)) ≤ ready_cells c waits + new_in_hand c + (one_in pushes_fresh c e + brought_in c e + bit (pops_out e.step waits))

event_pays : (c : Core) (e : Event) (waits : Waits) → IsCore c → failing_part c e ≡ None → EventPays c e waits
event_pays c e waits k f =
    let most : ℕ = ready_cells c waits + new_in_hand c + (one_in pushes_fresh c e + brought_in c e + bit (pops_out e.step waits)) in
    kept-after (λ z w seats. one_in defers_anew c e + (ready_in z w (hands seats) (waits_by (slice_get c.seats e.seat) e.step waits) + count_by has_new seats) ≤ most) c e k f
    (λ s acted t.
    let moved = seats-move (λ x. bit (has_new x)) c e.seat s e.step new_hands t in
    let whole : one_in defers_anew c e + (ready_in c.shape (words_left c s e.step) (hands (seats_left c e.seat s e.step)) (waits_after s e.step waits) + count_by has_new (seats_left c e.seat s e.step)) ≤ most =
    omega (arith, one-is defers_anew c e s acted.seat, one-is pushes_fresh c e s acted.seat, moved, ready-paid c e.seat s e.step waits t, new-paid c e.seat s e.step t) in
    subst (λ (o : Option SeatState). one_in defers_anew c e + (ready_in c.shape (words_left c s e.step) (hands (seats_left c e.seat s e.step)) (waits_by o e.step waits) + count_by has_new (seats_left c e.seat s e.step)) ≤ most) (sym acted.seat) whole)

-- what is left to find in Marking; after it nothing is found
abbrev fund : Core → Waits → ℕ
fund c waits = cond (is_phase (words_of c.shape c.words).phase Marking) (ready_cells c waits + new_in_hand c) 0

abbrev FundPays : Core → Event → Waits → Type 0
FundPays c e waits = one_in defers_anew c e + fund (after_event c e) (waits_by (slice_get c.seats e.seat) e.step waits) ≤ fund c waits + (one_in pushes_fresh c e + brought_in_marking c e + bit (pops_out e.step waits))

cond_fewer : (b : Bool) (n : ℕ) → cond b n 0 ≤ n
cond_fewer true n = omega arith
cond_fewer false n = omega arith

-- by the phase before the event
fund_pays : (c : Core) (e : Event) (waits : Waits) → IsCore c → failing_part c e ≡ None → FundPays c e waits
fund_pays c e waits k f = by_marking (eqb phase 1) refl
  where
    phase : ℕ
    phase = (words_of c.shape c.words).phase

    later : Core
    later = after_event c e

    left : Waits
    left = waits_by (slice_get c.seats e.seat) e.step waits

    fewer : fund later left ≤ ready_cells later left + new_in_hand later
    fewer = cond_fewer (is_phase (words_of later.shape later.words).phase Marking) (ready_cells later left + new_in_hand later)

    by_tracing : (b : Bool) → is_tracing phase ≡ b → eqb phase 1 ≡ false → FundPays c e waits
    by_tracing false q n =
        let now = event_pays c e waits k f in
        let none = brought-none c e k f q in
        omega (arith, now, fewer, none, idle-ready c k q waits, idle-new c k q)
    by_tracing true q n =
        let two : phase ≡ 2 = drain-left phase q n in
        let none = drained-none c e k f two in
        let gone : fund later left ≡ 0 = ap (λ (b : Bool). cond b (ready_cells later left + new_in_hand later) 0) (unmarked-after c e k f two) in
        omega (arith, none, gone)

    by_marking : (b : Bool) → eqb phase 1 ≡ b → FundPays c e waits
    by_marking true m = let now = event_pays c e waits k f in rw m (omega (arith, now, fewer))
    by_marking false n = by_tracing (is_tracing phase) refl n

-- by whether the first event is allowed
found_by : (e : Event) (es : List Event) (c : Core) (waits : Waits) (n : ℕ)
    → (failing_part c e ≡ None → one_in defers_anew c e + count_events defers_anew es (after_event c e) ≤ n + (one_in pushes_fresh c e + count_events pushes_fresh es (after_event c e) + (brought_in_marking c e + sum_events brought_in_marking es (after_event c e)) + (bit (pops_out e.step waits) + pops_of_waiting es (after_event c e) (waits_by (slice_get c.seats e.seat) e.step waits))))
    → (o : Option ℕ) → failing_part c e ≡ o
    → cond (is_none o) (one_in defers_anew c e + count_events defers_anew es (after_event c e)) 0
    ≤ n + (cond (is_none o) (one_in pushes_fresh c e + count_events pushes_fresh es (after_event c e)) 0 + cond (is_none o) (brought_in_marking c e + sum_events brought_in_marking es (after_event c e)) 0 + cond (is_none o) (bit (pops_out e.step waits) + pops_of_waiting es (after_event c e) (waits_by (slice_get c.seats e.seat) e.step waits)) 0)
found_by e es c waits n later None f = later f
found_by e es c waits n later (Some part) f = omega arith

found_bound : (es : List Event) (c : Core) (waits : Waits) → IsCore c → AllNumbersFit es
    → count_events defers_anew es c ≤ fund c waits + (count_events pushes_fresh es c + sum_events brought_in_marking es c + pops_of_waiting es c waits)
found_bound [] c waits k fit = omega arith
found_bound (e ∷ es) c waits k fit =
    found_by e es c waits (fund c waits)
    (λ f.
    let now = fund_pays c e waits k f in
    let kept : IsCore (after_event c e) = core_kept c e k (All-head (λ (x : Event). NumbersFit x.step) e es fit) f in
    let rest = found_bound es (after_event c e) (waits_by (slice_get c.seats e.seat) e.step waits) kept (All-tail (λ (x : Event). NumbersFit x.step) e es fit) in
    omega (arith, now, rest))
    (failing_part c e) refl

-- a cell that was found unpublished is put back, or dirties its card
abbrev ends : Core → Event → ℕ
ends c e = one_in spills_deferred c e + one_in puts_back c e

back_pay : (sh : Shape) → Pays ends (one_in defers_anew) deferred_in_hand sh
back_pay sh c e k is f =
    kept-after (λ z w seats. ends c e + count_by has_deferred seats ≤ deferred_in_hand c + one_in defers_anew c e) c e k f
    (λ s acted t.
    let moved = seats-move (λ x. bit (has_deferred x)) c e.seat s e.step deferred_hands t in
    omega (arith, one-is spills_deferred c e s acted.seat, one-is puts_back c e s acted.seat, one-is defers_anew c e s acted.seat, moved, back-paid c e.seat s e.step t))

back_bound : (c : Core) (es : List Event) → IsCore c → AllNumbersFit es → count_events spills_deferred es c + count_events puts_back es c + deferred_in_hand (run_of es c) ≤ deferred_in_hand c + count_events defers_anew es c
back_bound c es k fit =
    let whole : sum_events ends es c + deferred_in_hand (run_of es c) ≤ deferred_in_hand c + count_events defers_anew es c = paid ends (one_in defers_anew) deferred_in_hand c.shape (back_pay c.shape) es c k refl fit in
    let two : sum_events ends es c ≡ count_events spills_deferred es c + count_events puts_back es c = plus (one_in spills_deferred) (one_in puts_back) es c in
    omega (arith, whole, two)

pub deferring_bounded : DeferringIsBounded
deferring_bounded =
    record {
      found =
          λ c es k fit.
          let all = found_bound es c none_waits k fit in
          let fewer = cond_fewer (is_phase (words_of c.shape c.words).phase Marking) (ready_cells c none_waits + new_in_hand c) in
          omega (arith, all, fewer);
      put_back = back_bound;
    }
