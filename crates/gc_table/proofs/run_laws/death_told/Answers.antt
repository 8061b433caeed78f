use Rattle.gc_table.proofs.Losing.{death_told}
use Rattle.gc_table.proofs.run_laws.death_told.Goals as goal

pub returns : goal.returns
returns c = death_told
