use Rattle.mark_core.proofs.CoreKept.{core-starts}
use Rattle.mark_core.proofs.laws.start_is_core.Goals as goal

pub returns : goal.returns
returns c = core-starts
