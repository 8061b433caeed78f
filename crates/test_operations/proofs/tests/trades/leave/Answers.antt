use Rattle.std.proofs.Common.{refl}
use Rattle.mark_core.specs.declared.kinds.Step.TheVariants.{LeaveStep}
use Rattle.gc_table.specs.SeatRecords.{inside}
use Rattle.gc_table.proofs.RecordSteps.{may-by, state-after}
use Rattle.test_operations.proofs.tests.trades.leave.Goals as goal

pub leave_step-requires-clause-may : goal.leave_step-requires-clause-may
leave_step-requires-clause-may c = let sh = c.args.heap.now.shape in may-by sh _ (inside sh c.args.k) LeaveStep c.requires.0.1 c.requires.1 (λ w seats. (refl, (refl, (refl, (refl, tt)))))

pub returns : goal.returns
returns c = let sh = c.args.heap.now.shape in let v = c.leave_step.ensures.view in (c.leave_step.ensures.seat, state-after sh _ _ (inside sh c.args.k) LeaveStep _ c.requires.0.1 c.requires.1 v.1.0)
