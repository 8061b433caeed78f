use Rattle.gc_table.proofs.Ordered.{one_order as law}
use Rattle.gc_table.proofs.run_laws.one_order.Goals as goal

pub returns : goal.returns
returns c = law
