use Rattle.gc_table.specs.Seats.{view_of}
use Rattle.mutator_ops.proofs.Few.{at-most-none}
use Rattle.seat_steps.specs.declared.stepper.Stage.TheVariants as stages
use Rattle.seat_steps.proofs.Stages.{bounded-on}
use Rattle.seat_steps.proofs.stepper.Stepper.take_step.Goals as goal

pub returns-in-Outside-clause-bounded : goal.returns-in-Outside-clause-bounded
returns-in-Outside-clause-bounded c = bounded-on c.args.most c.args.self.now _ stages.Outside stages.Outside c.in-Outside.is c.in-Outside.is (at-most-none 0 (view_of c.args.self.now.seat))
