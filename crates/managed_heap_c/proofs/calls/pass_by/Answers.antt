use Rattle.seat_steps.specs.Stepping.{Passed}
use Rattle.managed_heap_c.proofs.Answered.{answered}
use Rattle.managed_heap_c.proofs.calls.pass_by.Goals as goal

pub returns-in-Some : goal.returns-in-Some
returns-in-Some c = record { answers = answered (Passed) c.status.result c.args.hand.now.stepper c.in-Some.stepper c.safe_point.new.self c.safe_point.result c.in-Some.is c.status.ensures.number c.safe_point.ensures.passed }
