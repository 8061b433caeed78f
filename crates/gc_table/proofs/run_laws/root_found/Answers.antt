use Rattle.gc_table.proofs.Rooted.{root-found}
use Rattle.gc_table.proofs.run_laws.root_found.Goals as goal

pub returns : goal.returns
returns c = root-found
