use Rattle.seat_steps.specs.Helping.{HelpsOnce}
use Rattle.managed_heap_c.proofs.Answered.{answered}
use Rattle.managed_heap_c.proofs.collecting.help_by.Goals as goal

pub returns-in-Some : goal.returns-in-Some
returns-in-Some c = record { answers = answered (HelpsOnce c.args.most) c.status.result c.args.hand.now.stepper c.in-Some.stepper c.help_step.new.self c.help_step.result c.in-Some.is c.status.ensures.number c.help_step.ensures.helps }
