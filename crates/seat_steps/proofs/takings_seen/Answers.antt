use Rattle.seat_steps.proofs.Whoever.{takings_seen as law}
use Rattle.seat_steps.proofs.takings_seen.Goals as goal

pub returns : goal.returns
returns c = law
