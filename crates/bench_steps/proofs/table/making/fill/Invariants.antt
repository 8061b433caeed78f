use Rattle.mark_core.specs.Cards.{block_cells}
use Rattle.std.proofs.Common.{◌≤◌, ◌+◌, ◌*◌}
use Rattle.std.specs.Prelude.{IsTrue, is_some}
use Rattle.bench_steps.specs.Making.{MayMakeCells, block_of_maker, cells_made}
use Rattle.bench_steps.proofs.table.making.fill.Given as goal

abbrev pub invariant-loop-i : goal.invariant-loop-i
invariant-loop-i l = MayMakeCells l.heap l.seat × IsTrue (is_some (block_of_maker l.seat)) × (cells_made l.seat ≤ l.fn.b * block_cells + l.i)
