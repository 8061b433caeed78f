use Rattle.std.proofs.Common.{◌≡◌, ◌*◌}
use Rattle.managed_heap.specs.Calls.{heap_of}
use Rattle.bench_heaps.specs.Standing.{WorkerPlays}
use Rattle.bench_heaps.specs.Trees.{GrowsHeap, full}
use Rattle.bench_heaps.proofs.trees.workers.many.Given as goal

abbrev pub invariant-loop-tree : goal.invariant-loop-tree
invariant-loop-tree g l = record {
  plays : WorkerPlays l.m;
  counted : l.nodes ≡ l._tree * full l.depth;
  grows : GrowsHeap 1 (heap_of l.fn.m) (heap_of l.m);
}
