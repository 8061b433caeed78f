use Rattle.seat_steps.specs.Refilling.{StepperRefills}
use Rattle.managed_heap_c.proofs.Answered.{answered}
use Rattle.managed_heap_c.proofs.calls.refill_by.Goals as goal

pub returns-in-Some : goal.returns-in-Some
returns-in-Some c = record { answers = answered (StepperRefills c.args.most) c.status.result c.args.hand.now.stepper c.in-Some.stepper c.refill_step.new.self c.refill_step.result c.in-Some.is c.status.ensures.number c.refill_step.ensures.refills }
