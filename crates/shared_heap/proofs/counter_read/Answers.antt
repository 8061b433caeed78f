use Rattle.shared_heap.proofs.RootRead.{counter-read}
use Rattle.shared_heap.proofs.counter_read.Goals as goal

pub returns : goal.returns
returns c = counter-read
