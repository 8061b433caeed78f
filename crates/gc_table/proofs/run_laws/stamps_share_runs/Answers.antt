use Rattle.gc_table.proofs.Stamped.{stamps_share_runs as law}
use Rattle.gc_table.proofs.run_laws.stamps_share_runs.Goals as goal

pub returns : goal.returns
returns c = law
