-- Over every run: what is taken from packets.
use Rattle.std.proofs.Common.{◌+◌, ◌≤◌, arith, refl}
use Rattle.std.specs.List.{count_by}
use Rattle.mark_core.specs.Views.{hands}
use Rattle.mark_core.specs.declared.kinds.Shape.{Shape}
use Rattle.mark_core.proofs.Count.CountMoves.{bit}
use Rattle.mark_core.proofs.Blocks.BlocksStopped.{kept-after}
use Rattle.work_laws.specs.Counting.{one_in}
use Rattle.work_laws.specs.Queueing.{pushes, pops, puts_back, defers, entries_in, queued, has_deferred, deferred_in_hand, PopsAreBounded}
use Rattle.work_laws.proofs.Sums.{Pays, paid, one-is}
use Rattle.work_laws.proofs.Seats.{IsOfHands, seats-move}
use Rattle.work_laws.proofs.QueueSteps.{entries-paid, deferred-paid}

entries_pay : (sh : Shape) → Pays (one_in pops) (one_in pushes) queued sh
entries_pay sh c e k is f =
    kept-after (λ z w seats. one_in pops c e + entries_in z w (hands seats) ≤ queued c + one_in pushes c e) c e k f
    (λ s acted t. omega (arith, one-is pops c e s acted.seat, one-is pushes c e s acted.seat, entries-paid c e.seat s e.step t))

pub deferred_hands : IsOfHands (λ s. bit (has_deferred s))
deferred_hands = record { start = λ sh k. refl; spent = λ sh k. refl }

deferred_pay : (sh : Shape) → Pays (one_in puts_back) (one_in defers) deferred_in_hand sh
deferred_pay sh c e k is f =
    kept-after (λ z w seats. one_in puts_back c e + count_by has_deferred seats ≤ deferred_in_hand c + one_in defers c e) c e k f
    (λ s acted t.
    let moved = seats-move (λ x. bit (has_deferred x)) c e.seat s e.step deferred_hands t in
    omega (arith, one-is puts_back c e s acted.seat, one-is defers c e s acted.seat, moved, deferred-paid c e.seat s e.step t))

pub pops_bounded : PopsAreBounded
pops_bounded =
    record {
      pops = λ c es k fit. paid (one_in pops) (one_in pushes) queued c.shape (entries_pay c.shape) es c k refl fit;
      put_back = λ c es k fit. paid (one_in puts_back) (one_in defers) deferred_in_hand c.shape (deferred_pay c.shape) es c k refl fit;
    }
