use Rattle.std.proofs.Common.{refl}
use Rattle.mark_core.specs.declared.kinds.Step.TheVariants.{Credit}
use Rattle.gc_table.specs.SeatRecords.{reserved}
use Rattle.gc_table.proofs.RecordSteps.{may-by, state-after}
use Rattle.test_operations.proofs.tests.trades.cancel.Goals as goal

pub credit-requires-clause-may : goal.credit-requires-clause-may
credit-requires-clause-may c = let sh = c.args.heap.now.shape in may-by sh _ (reserved sh c.args.k) Credit c.requires.0.1 c.requires.1 (λ w seats. (refl, tt))

pub returns : goal.returns
returns c = let sh = c.args.heap.now.shape in let v = c.credit.ensures.view in (c.credit.ensures.seat, state-after sh _ _ (reserved sh c.args.k) Credit _ c.requires.0.1 c.requires.1 v.1.0)
