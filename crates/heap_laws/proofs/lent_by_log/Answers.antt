use Rattle.heap_laws.proofs.Lent.{lent_by_log}
use Rattle.heap_laws.proofs.lent_by_log.Goals as goal

pub returns : goal.returns
returns c = lent_by_log
