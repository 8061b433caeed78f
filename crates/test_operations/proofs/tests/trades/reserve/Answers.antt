use Rattle.std.proofs.Common.{refl}
use Rattle.mark_core.specs.declared.kinds.Step.TheVariants.{Reserve}
use Rattle.gc_table.specs.SeatRecords.{inside}
use Rattle.gc_table.proofs.RecordSteps.{may-by, state-after}
use Rattle.test_operations.proofs.tests.trades.reserve.Goals as goal

pub reserve-requires-clause-may : goal.reserve-requires-clause-may
reserve-requires-clause-may c = let sh = c.args.heap.now.shape in may-by sh _ (inside sh c.args.k) Reserve c.requires.0.1 c.requires.1 (λ w seats. (refl, (refl, tt)))

pub returns : goal.returns
returns c = let sh = c.args.heap.now.shape in let v = c.reserve.ensures.view in (c.reserve.ensures.seat, state-after sh _ _ (inside sh c.args.k) Reserve _ c.requires.0.1 c.requires.1 v.1.0)
