use Rattle.gc_table.proofs.Remembering.{weak_remembered}
use Rattle.gc_table.proofs.run_laws.weak_remembered.Goals as goal

pub returns : goal.returns
returns c = weak_remembered
