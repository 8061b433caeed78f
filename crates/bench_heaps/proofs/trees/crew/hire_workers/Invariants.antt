use Rattle.std.proofs.Common.{◌≡◌, ◌+◌, All}
use Rattle.std.specs.Prelude.{vec_len}
use Rattle.bench_heaps.specs.Standing.{WorkerWaits}
use Rattle.bench_heaps.specs.declared.trees.threads.Worker.{Worker}
use Rattle.bench_heaps.proofs.trees.crew.hire_workers.Given as goal

abbrev pub invariant-loop-mutator : goal.invariant-loop-mutator
invariant-loop-mutator l = record {
  left : All WorkerWaits l.world.mutators.items;
  waits : All (λ (x : Worker). WorkerWaits x.mutator) l.workers.items;
  count : vec_len l.workers + vec_len l.world.mutators ≡ vec_len l.fn.world.mutators;
}

abbrev pub decreases-loop-mutator : goal.decreases-loop-mutator
decreases-loop-mutator l = vec_len l.world.mutators
