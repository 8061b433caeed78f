use Rattle.gc_table.proofs.State.StateStart.{whole_starts}
use Rattle.gc_table.proofs.laws.rule_starts.Goals as goal

pub returns : goal.returns
returns c = whole_starts
