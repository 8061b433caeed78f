use Rattle.heap_laws.proofs.LentLocks.{lock_by_log}
use Rattle.heap_laws.proofs.lock_by_log.Goals as goal

pub returns : goal.returns
returns c = lock_by_log
