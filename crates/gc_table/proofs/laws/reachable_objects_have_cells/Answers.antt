use Rattle.gc_table.proofs.Stands.StandsReached.{objects_have_cells}
use Rattle.gc_table.proofs.laws.reachable_objects_have_cells.Goals as goal

pub returns : goal.returns
returns c = objects_have_cells
