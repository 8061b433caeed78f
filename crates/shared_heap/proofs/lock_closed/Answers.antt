use Rattle.shared_heap.proofs.Counting.{lock-closed}
use Rattle.shared_heap.proofs.lock_closed.Goals as goal

pub returns : goal.returns
returns c = lock-closed
