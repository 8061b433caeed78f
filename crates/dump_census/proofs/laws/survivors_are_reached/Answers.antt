use Rattle.dump_census.proofs.Found.{survivors_reached}
use Rattle.dump_census.proofs.laws.survivors_are_reached.Goals as goal

pub returns : goal.returns
returns c = survivors_reached
