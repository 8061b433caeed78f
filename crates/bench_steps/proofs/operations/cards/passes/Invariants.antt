use Rattle.bench_steps.specs.Standing.{Tracing}
use Rattle.bench_steps.proofs.operations.cards.passes.Given as goal

abbrev pub invariant-loop-round : goal.invariant-loop-round
invariant-loop-round l = Tracing l.heap l.seat
