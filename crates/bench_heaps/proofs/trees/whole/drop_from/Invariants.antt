use Rattle.managed_heap.specs.Calls.{heap_of}
use Rattle.bench_heaps.specs.Standing.{WorkerPlays}
use Rattle.bench_heaps.specs.Trees.{LeavesObjects}
use Rattle.bench_heaps.proofs.trees.whole.drop_from.Given as goal

abbrev pub invariant-loop-w : goal.invariant-loop-w
invariant-loop-w l = record {
  plays : WorkerPlays l.m;
  leaves : LeavesObjects l.v (heap_of l.fn.m) (heap_of l.m);
}
