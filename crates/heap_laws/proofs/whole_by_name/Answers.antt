use Rattle.heap_laws.proofs.Guards.{whole_by_name}
use Rattle.heap_laws.proofs.whole_by_name.Goals as goal

pub returns : goal.returns
returns c = whole_by_name
