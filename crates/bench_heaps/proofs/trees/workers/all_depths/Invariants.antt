use Rattle.std.proofs.Common.{◌≡◌, length}
use Rattle.managed_heap.specs.Calls.{heap_of}
use Rattle.bench_heaps.specs.Counts.{AreChecked}
use Rattle.bench_heaps.specs.Standing.{WorkerPlays}
use Rattle.bench_heaps.specs.Trees.{GrowsHeap}
use Rattle.bench_heaps.proofs.trees.workers.all_depths.Given as goal

abbrev pub invariant-loop-i : goal.invariant-loop-i
invariant-loop-i g l = record {
  plays : WorkerPlays l.m;
  long : length l.checks ≡ 5;
  checked : AreChecked l.asked l.at l.i l.checks;
  grows : GrowsHeap 1 (heap_of l.fn.m) (heap_of l.m);
}
