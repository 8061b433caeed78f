-- What goes into packets was just marked, or is put back.
use Rattle.std.proofs.Common.{◌≡◌, ◌+◌, ◌≤◌, List, arith, refl, Bool, true, false, not}
use Rattle.mark_core.specs.Seats.{is_the}
use Rattle.mark_core.specs.Steps.{Core}
use Rattle.mark_core.specs.Laws.{IsCore, AllNumbersFit}
use Rattle.mark_core.specs.declared.kinds.Event.{Event}
use Rattle.mark_core.specs.declared.kinds.Shape.{Shape}
use Rattle.mark_core.specs.declared.kinds.Step.{Step}
use Rattle.mark_core.specs.declared.kinds.Step.TheVariants.{Push}
use Rattle.mark_core.specs.declared.seat.SeatState.{SeatState}
use Rattle.mark_core.proofs.Count.CountMoves.{bit}
use Rattle.mark_core.proofs.Blocks.BlocksStopped.{kept-after}
use Rattle.work_laws.specs.Counting.{one_in, sum_events, count_events}
use Rattle.work_laws.specs.Marking.{pushes_fresh}
use Rattle.work_laws.specs.Queueing.{pushes, puts_back}
use Rattle.work_laws.proofs.Sums.{Pays, paid, plus, one-is}

one_or : (b : Bool) → 1 ≤ bit b + bit (not b)
one_or true = omega arith
one_or false = omega arith

-- what goes into a packet is fresh, or is put back
either : (c : Core) (s : SeatState) (step : Step) → bit (pushes c s step) ≤ bit (pushes_fresh c s step) + bit (puts_back c s step)
either c s (Push p x) = one_or (is_the s.fresh x)
either c s step = omega arith

either_pays : (sh : Shape) → Pays (one_in pushes) (λ c e. one_in pushes_fresh c e + one_in puts_back c e) (λ c. 0) sh
either_pays sh c e k is f =
    kept-after (λ z w seats. one_in pushes c e + 0 ≤ 0 + (one_in pushes_fresh c e + one_in puts_back c e)) c e k f
    (λ s acted t. omega (arith, one-is pushes c e s acted.seat, one-is pushes_fresh c e s acted.seat, one-is puts_back c e s acted.seat, either c s e.step))

pub pushed : (c : Core) (es : List Event) → IsCore c → AllNumbersFit es → count_events pushes es c ≤ count_events pushes_fresh es c + count_events puts_back es c
pushed c es k fit =
    let all : count_events pushes es c + 0 ≤ 0 + sum_events (λ d e. one_in pushes_fresh d e + one_in puts_back d e) es c = paid (one_in pushes) (λ d e. one_in pushes_fresh d e + one_in puts_back d e) (λ d. 0) c.shape (either_pays c.shape) es c k refl fit in
    let two : sum_events (λ d e. one_in pushes_fresh d e + one_in puts_back d e) es c ≡ count_events pushes_fresh es c + count_events puts_back es c = plus (one_in pushes_fresh) (one_in puts_back) es c in
    omega (arith, all, two)
