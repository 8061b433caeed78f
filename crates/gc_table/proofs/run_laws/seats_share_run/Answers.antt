use Rattle.gc_table.proofs.Stamped.{seats_share_run as law}
use Rattle.gc_table.proofs.run_laws.seats_share_run.Goals as goal

pub returns : goal.returns
returns c = law
