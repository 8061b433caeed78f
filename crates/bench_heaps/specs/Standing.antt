-- Where a worker's mutator stands: outside the world, and inside it; and why it goes on no more.
use Rattle.std.specs.Prelude.{ℕ, ◌≡◌, ◌≤◌, length}
use Rattle.plain_heap.specs.PlainHeap.{variable}
use Rattle.managed_heap.specs.Calls.{IsFull, field_count_of, heap_of, object_limit_of}
use Rattle.managed_heap.specs.declared.mutator.Mutator.{Mutator}
use Rattle.managed_heap.specs.declared.mutator.Place.TheVariants.{Inside, Outside}
use Rattle.bench_heaps.specs.Trees.{IsTree}
use Rattle.bench_heaps.specs.declared.trees.nodes.Halt.{Halt}
use Rattle.bench_heaps.specs.declared.trees.nodes.Halt.TheVariants.{Full, Spent}

-- its objects have two references
abbrev pub HasTwo : Mutator → Type 0
HasTwo m = field_count_of m ≡ 2

-- a worker outside the world
pub record WorkerWaits (m : Mutator) : Type 0 where
  pub two : HasTwo m
  pub outside : m.place ≡ Outside

-- a worker inside the world
pub record WorkerPlays (m : Mutator) : Type 0 where
  pub two : HasTwo m
  pub inside : m.place ≡ Inside

-- why it goes on no more: the heap was found full, or it has made all objects that have numbers
abbrev pub IsWhy : Halt → Mutator → Type 0
IsWhy Full m = IsFull m
IsWhy Spent m = object_limit_of m ≤ length (heap_of m).objects

-- a worker that goes on no more
pub record WorkerHalts (halt : Halt) (m : Mutator) : Type 0 where
  pub two : HasTwo m
  pub why : IsWhy halt m

-- a tree of this depth stands in variable 0
abbrev pub KeepsTree : ℕ → Mutator → Type 0
KeepsTree depth m = IsTree (heap_of m).objects depth (variable (heap_of m) 0)
