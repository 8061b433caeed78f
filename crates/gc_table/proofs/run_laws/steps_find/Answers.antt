use Rattle.gc_table.proofs.Finding.{steps-find}
use Rattle.gc_table.proofs.run_laws.steps_find.Goals as goal

pub returns : goal.returns
returns c = steps-find
