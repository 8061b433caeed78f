use Rattle.gc_table.proofs.Stands.StandsReached.{cells_have_objects}
use Rattle.gc_table.proofs.laws.reachable_cells_have_objects.Goals as goal

pub returns : goal.returns
returns c = cells_have_objects
