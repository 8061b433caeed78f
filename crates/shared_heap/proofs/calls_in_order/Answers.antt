use Rattle.shared_heap.proofs.Stamped.{calls_in_order as law}
use Rattle.shared_heap.proofs.calls_in_order.Goals as goal

pub returns : goal.returns
returns c = law
