use Rattle.gc_table.proofs.Stamped.{order_kept as law}
use Rattle.gc_table.proofs.run_laws.order_kept.Goals as goal

pub returns : goal.returns
returns c = law
