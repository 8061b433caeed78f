use Rattle.shared_heap.proofs.Counting.{counter-closed}
use Rattle.shared_heap.proofs.counter_closed.Goals as goal

pub returns : goal.returns
returns c = counter-closed
