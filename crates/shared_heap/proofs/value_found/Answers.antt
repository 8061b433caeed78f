use Rattle.shared_heap.proofs.Finding.{value-found}
use Rattle.shared_heap.proofs.value_found.Goals as goal

pub returns : goal.returns
returns c = value-found
