use Rattle.managed_heap.proofs.Ends.{collections_bounded}
use Rattle.managed_heap.proofs.collections_bounded.Goals as goal

pub returns : goal.returns
returns c = collections_bounded
