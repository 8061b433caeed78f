use Rattle.bench_steps.specs.Standing.{Filling}
use Rattle.bench_steps.proofs.operations.stores.stores.Given as goal

abbrev pub invariant-loop-round : goal.invariant-loop-round
invariant-loop-round l = Filling l.heap 4 l.cache l.seat
