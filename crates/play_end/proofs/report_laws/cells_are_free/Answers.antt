use Rattle.play_end.proofs.FreeCells.{cells-free}
use Rattle.play_end.proofs.report_laws.cells_are_free.Goals as goal

pub returns : goal.returns
returns c = cells-free
