use Rattle.std.proofs.Common.{refl, ap, Bool, true, false, ◌&&◌}
use Rattle.mark_core.specs.declared.kinds.Step.TheVariants.{Give}
use Rattle.gc_table.specs.SeatRecords.{measured}
use Rattle.gc_table.proofs.RecordSteps.{may-by, state-after, first-packet}
use Rattle.test_operations.proofs.tests.trades.give.Goals as goal

pub give-requires-clause-may : goal.give-requires-clause-may
give-requires-clause-may c = let sh = c.args.heap.now.shape in may-by sh _ (measured sh c.args.k) (Give 0 false) c.requires.0.1 c.requires.1 (λ w seats. (ap (λ (b : Bool). b && true) (first-packet sh c.args.heap.now.shaped), (refl, (refl, (refl, (refl, tt))))))

pub returns : goal.returns
returns c = let sh = c.args.heap.now.shape in let v = c.give.ensures.view in (c.give.ensures.seat, state-after sh _ _ (measured sh c.args.k) (Give 0 false) _ c.requires.0.1 c.requires.1 v.1.0)
