use Rattle.seat_steps.specs.Stepping.{Left}
use Rattle.managed_heap_c.proofs.Answered.{answered}
use Rattle.managed_heap_c.proofs.calls.leave_by.Goals as goal

pub returns-in-Some : goal.returns-in-Some
returns-in-Some c = record { answers = answered (Left) c.status.result c.args.hand.now.stepper c.in-Some.stepper c.leave.new.self c.leave.result c.in-Some.is c.status.ensures.number c.leave.ensures.left }
