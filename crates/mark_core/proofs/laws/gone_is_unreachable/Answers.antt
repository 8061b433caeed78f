use Rattle.mark_core.proofs.Consequences.WeakFound.{gone_is_unreachable as unreachable}
use Rattle.mark_core.proofs.laws.gone_is_unreachable.Goals as goal

pub returns : goal.returns
returns c = unreachable
