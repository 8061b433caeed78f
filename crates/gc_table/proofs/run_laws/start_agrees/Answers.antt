use Rattle.gc_table.proofs.Kept.{agrees-starts}
use Rattle.gc_table.proofs.run_laws.start_agrees.Goals as goal

pub returns : goal.returns
returns c = agrees-starts
