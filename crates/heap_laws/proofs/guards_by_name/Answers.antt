use Rattle.heap_laws.proofs.Guards.{guards_by_name}
use Rattle.heap_laws.proofs.guards_by_name.Goals as goal

pub returns : goal.returns
returns c = guards_by_name
