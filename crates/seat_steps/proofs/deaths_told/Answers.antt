use Rattle.seat_steps.proofs.Whoever.{deaths_told as law}
use Rattle.seat_steps.proofs.deaths_told.Goals as goal

pub returns : goal.returns
returns c = law
