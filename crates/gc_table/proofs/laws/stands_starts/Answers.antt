use Rattle.gc_table.proofs.Stands.StandsStart.{stands_starts}
use Rattle.gc_table.proofs.laws.stands_starts.Goals as goal

pub returns : goal.returns
returns c = stands_starts
