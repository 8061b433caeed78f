use Rattle.gc_table.proofs.Counted.{counter-told}
use Rattle.gc_table.proofs.run_laws.counter_told.Goals as goal

pub returns : goal.returns
returns c = counter-told
