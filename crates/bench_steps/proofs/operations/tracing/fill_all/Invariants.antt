use Rattle.std.proofs.Common.{◌*◌}
use Rattle.mark_core.specs.Cards.{block_cells}
use Rattle.bench_steps.specs.Standing.{Waiting}
use Rattle.bench_steps.proofs.operations.tracing.fill_all.Given as goal

abbrev pub invariant-loop-b : goal.invariant-loop-b
invariant-loop-b l = Waiting l.heap (l.b * block_cells) l.seat
