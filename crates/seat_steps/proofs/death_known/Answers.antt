use Rattle.seat_steps.proofs.Received.{death_known as law}
use Rattle.seat_steps.proofs.death_known.Goals as goal

pub returns : goal.returns
returns c = law
