use Rattle.mark_core.proofs.Pool.PoolStart.{start}
use Rattle.mark_core.proofs.laws.packets_start.Goals as goal

pub returns : goal.returns
returns c = start
