use Rattle.seat_steps.proofs.Whoever.{death_received as law}
use Rattle.seat_steps.proofs.death_received.Goals as goal

pub returns : goal.returns
returns c = law
