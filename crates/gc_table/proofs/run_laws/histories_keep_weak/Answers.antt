use Rattle.gc_table.proofs.Remembering.{histories_keep_weak}
use Rattle.gc_table.proofs.run_laws.histories_keep_weak.Goals as goal

pub returns : goal.returns
returns c = histories_keep_weak
