use Rattle.shared_heap.proofs.Finding.{field-found}
use Rattle.shared_heap.proofs.field_found.Goals as goal

pub returns : goal.returns
returns c = field-found
