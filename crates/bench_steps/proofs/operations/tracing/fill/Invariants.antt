use Rattle.std.proofs.Common.{◌+◌}
use Rattle.bench_steps.specs.Standing.{Filling}
use Rattle.bench_steps.proofs.operations.tracing.fill.Given as goal

abbrev pub invariant-loop-i : goal.invariant-loop-i
invariant-loop-i l = Filling l.heap (l.fn.first + l.i) l.cache l.seat
