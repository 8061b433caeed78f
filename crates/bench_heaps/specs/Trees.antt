-- Trees in a plain heap: what one is, how many nodes it has, and what making and counting one leaves.
use Rattle.std.specs.Prelude.{ℕ, zero, suc, ◌≡◌, ◌+◌, ◌*◌, ◌<◌, ◌++◌, List, Some, None, slice_get}
use Rattle.plain_heap.specs.declared.object.Ref.{Ref}
use Rattle.plain_heap.specs.declared.object.Ref.TheVariants.{Nil, Own}
use Rattle.plain_heap.specs.declared.object.Object.{Object}
use Rattle.plain_heap.specs.PlainHeap.{Heap, variable}
use Rattle.plain_heap.specs.PlainStep.{field_of, followed}

-- how many nodes a tree of this depth has, in which each node has two subtrees, but for those at its depth, which have none
abbrev pub full : ℕ → ℕ
full zero = 1
full (suc d) = 1 + 2 * full d

-- the reference is the root of such a tree
abbrev pub IsTree : List Object → ℕ → Ref → Type 0
IsTree objects zero ref = (n : ℕ) × (o : Object) × (ref ≡ Own n) × (slice_get objects n ≡ Some o) × (field_of (Some o) 0 ≡ Nil) × (field_of (Some o) 1 ≡ Nil)
IsTree objects (suc d) ref = (n : ℕ) × (o : Object) × (ref ≡ Own n) × (slice_get objects n ≡ Some o) × IsTree objects d (field_of (Some o) 0) × IsTree objects d (field_of (Some o) 1)

-- the nodes at most this many steps below a reference: one more than its two subtrees have, if it names an object
abbrev pub nodes : Heap → ℕ → Ref → ℕ
nodes heap steps Nil = 0
nodes heap zero ref = 1
nodes heap (suc k) ref = 1 + nodes heap k (followed heap None ref 0) + nodes heap k (followed heap None ref 1)

-- objects were made, none of those before changed, and variables below v stay
pub record GrowsHeap (v : ℕ) (x y : Heap) : Type 0 where
  pub more : List Object
  pub objects : y.objects ≡ x.objects ++ more
  pub variables : (u : ℕ) → u < v → variable y u ≡ variable x u

-- besides, a tree stands in variable v
pub record Builds (depth v : ℕ) (x y : Heap) : Type 0 where
  pub grows : GrowsHeap v x y
  pub tree : IsTree y.objects depth (variable y v)

-- no object changes, and variables below v stay
pub record LeavesObjects (v : ℕ) (x y : Heap) : Type 0 where
  pub objects : y.objects ≡ x.objects
  pub variables : (u : ℕ) → u < v → variable y u ≡ variable x u

-- a node was made in variable v, with the trees in the next two variables
abbrev pub JoinsTrees : ℕ → Heap → Heap → Type 0
JoinsTrees v x y = (d : ℕ) → IsTree x.objects d (variable x (v + 1)) → IsTree x.objects d (variable x (v + 2)) → Builds (suc d) v x y
