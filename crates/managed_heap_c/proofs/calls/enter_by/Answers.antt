use Rattle.seat_steps.specs.Stepping.{Entered}
use Rattle.managed_heap_c.proofs.Answered.{answered}
use Rattle.managed_heap_c.proofs.calls.enter_by.Goals as goal

pub returns-in-Some : goal.returns-in-Some
returns-in-Some c = record { answers = answered (Entered) c.status.result c.args.hand.now.stepper c.in-Some.stepper c.enter.new.self c.enter.result c.in-Some.is c.status.ensures.number c.enter.ensures.entered }
