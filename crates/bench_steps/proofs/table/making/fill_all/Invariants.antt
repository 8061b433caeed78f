use Rattle.mark_core.specs.Cards.{block_cells}
use Rattle.std.proofs.Common.{◌≤◌, ◌*◌}
use Rattle.std.specs.Prelude.{IsTrue, is_none}
use Rattle.bench_steps.specs.Making.{MayMakeCells, block_of_maker, cells_made}
use Rattle.bench_steps.proofs.table.making.fill_all.Given as goal

abbrev pub invariant-loop-b : goal.invariant-loop-b
invariant-loop-b l = MayMakeCells l.heap l.seat × IsTrue (is_none (block_of_maker l.seat)) × (cells_made l.seat ≤ l.b * block_cells)
