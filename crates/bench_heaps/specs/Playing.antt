-- What the workers of a run came to.
use Rattle.std.specs.Prelude.{ℕ, ◌≡◌, ◌<◌, All, List, length, slice_index_or, IfOk}
use Rattle.managed_heap.specs.Calls.{heap_of}
use Rattle.bench_heaps.specs.Counts.{AreChecked}
use Rattle.bench_heaps.specs.Standing.{WorkerWaits}
use Rattle.bench_heaps.specs.Trees.{GrowsHeap}
use Rattle.bench_heaps.specs.declared.trees.threads.Worker.{Worker}
use Rattle.bench_heaps.specs.declared.trees.words.Asked.{Asked}

-- worker `at` played: it waits again, and if it came to its end, it counted its share, and what stood in variable 0 stands there
pub record WorkerPlayed (a : Asked) (at : ℕ) (x y : Worker) : Type 0 where
  pub waits : WorkerWaits y.mutator
  pub counts : IfOk y.came (AreChecked a at 5)
  pub grows : IfOk y.came (λ _. GrowsHeap 1 (heap_of x.mutator) (heap_of y.mutator))

-- each of these workers waits again; if it came to its end, it counted its share, and variable 0 refers to what it did
pub record HavePlayed (a : Asked) (xs ys : List Worker) : Type 0 where
  pub count : length ys ≡ length xs
  pub each : (i : ℕ) (d : Worker) → i < length xs → WorkerPlayed a i (slice_index_or xs i d) (slice_index_or ys i d)

-- all workers are outside
pub record AllWait (workers : List Worker) : Type 0 where
  pub each : All (λ (x : Worker). WorkerWaits x.mutator) workers
