use Rattle.seat_steps.proofs.Taken.{taken-stays}
use Rattle.seat_steps.proofs.taken_stays.Goals as goal

pub returns : goal.returns
returns c = taken-stays
