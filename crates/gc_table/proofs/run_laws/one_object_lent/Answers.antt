use Rattle.gc_table.proofs.Lending.{one-object-lent}
use Rattle.gc_table.proofs.run_laws.one_object_lent.Goals as goal

pub returns : goal.returns
returns c = one-object-lent
