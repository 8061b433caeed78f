use Rattle.heap_laws.proofs.Locks.{lock_by_name}
use Rattle.heap_laws.proofs.lock_by_name.Goals as goal

pub returns : goal.returns
returns c = lock_by_name
