use Rattle.heap_laws.proofs.Pairs.{pair_by_log}
use Rattle.heap_laws.proofs.pair_by_log.Goals as goal

pub returns : goal.returns
returns c = pair_by_log
