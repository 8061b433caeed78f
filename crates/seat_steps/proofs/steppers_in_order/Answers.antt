use Rattle.seat_steps.proofs.Stamped.{steppers_in_order as law}
use Rattle.seat_steps.proofs.steppers_in_order.Goals as goal

pub returns : goal.returns
returns c = law
