use Rattle.gc_table.proofs.Kept.{agrees-kept}
use Rattle.gc_table.proofs.run_laws.events_agree.Goals as goal

pub returns : goal.returns
returns c = agrees-kept
