use Rattle.mark_core.proofs.Consequences.Closing.{full-reachable}
use Rattle.mark_core.proofs.laws.full_is_reachable.Goals as goal

pub returns : goal.returns
returns c = full-reachable
