use Rattle.std.proofs.Common.{rules}
use Rattle.seat_steps.proofs.Answered.{enters-same}
use Rattle.seat_steps.proofs.stepper.Stepper.enter.Goals as goal

pub returns-in-Inside : goal.returns-in-Inside
returns-in-Inside c = record { entered = enters-same c.args.self.now _ c.in-Inside.is (search rules) }
