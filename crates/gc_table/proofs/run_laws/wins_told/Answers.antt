use Rattle.gc_table.proofs.Counting.{wins-told}
use Rattle.gc_table.proofs.run_laws.wins_told.Goals as goal

pub returns : goal.returns
returns c = wins-told
