-- How reachable objects are marked.
use Rattle.std.specs.Prelude.{ℕ, ◌≡◌, ◌+◌, ◌<◌, ◌⊎◌, List, [], ◌∷◌, length, Bool, true, false, not, count_by, slice_get, slice_index_or, Contains, All, AllPairs, Option, Some, None}
use Rattle.plain_heap.specs.declared.object.Ref.{Ref}
use Rattle.plain_heap.specs.declared.object.Ref.TheVariants as refs
use Rattle.plain_heap.specs.declared.object.Object.{Object}
use Rattle.plain_heap.specs.PlainHeap.{Heap}
use Rattle.plain_heap.specs.Paths.{IsReachable, own}

-- object n has a mark
abbrev pub IsMarked : List Bool → ℕ → Type 0
IsMarked marks n = slice_index_or marks n false ≡ true

-- how many objects aren't marked, and how many wait
abbrev pub left : List Bool → List ℕ → ℕ
left marks waiting = count_by not marks + length waiting

-- the numbers of which P holds were marked, and those of them that weren't marked before wait
pub record Marks (P : ℕ → Type 0) (old new : List Bool) (waited waiting : List ℕ) : Type 0 where
  pub sized : length new ≡ length old
  pub kept : (n : ℕ) → IsMarked old n → IsMarked new n
  pub each : (n : ℕ) → P n → n < length old → IsMarked new n
  pub only : (n : ℕ) → IsMarked new n → IsMarked old n ⊎ P n
  pub still : (n : ℕ) → Contains waited n → Contains waiting n
  pub wait : (n : ℕ) → IsMarked new n → IsMarked old n ⊎ Contains waiting n
  pub marked : (n : ℕ) → Contains waiting n → Contains waited n ⊎ IsMarked new n
  pub left : left new waiting ≡ left old waited

-- the references in an object, if there is one
abbrev pub refs_in : Option Object → List Ref
refs_in None = []
refs_in (Some object) = object.refs

-- the references in object n
abbrev pub refs_at : Heap → ℕ → List Ref
refs_at heap n = refs_in (slice_get heap.objects n)

-- the objects that object n refers to are marked
abbrev pub IsFollowed : Heap → List Bool → ℕ → Type 0
IsFollowed heap marks n = (m : ℕ) → Contains (refs_at heap n) (refs.Own m) → m < length heap.objects → IsMarked marks m

-- only reachable objects are marked so far, and each that a variable holds is;
-- what a marked object refers to is marked, unless the object waits
pub record Reaches (heap : Heap) (marks : List Bool) (waiting : List ℕ) : Type 0 where
  pub sized : length marks ≡ length heap.objects
  pub sound : (n : ℕ) → IsMarked marks n → IsReachable (heap ∷ []) (own heap n)
  pub held : (n : ℕ) → Contains heap.variables (refs.Own n) → n < length heap.objects → IsMarked marks n
  pub followed : (n : ℕ) → IsMarked marks n → Contains waiting n ⊎ IsFollowed heap marks n
  pub waits : (n : ℕ) → Contains waiting n → IsMarked marks n

-- these are the numbers below `end` that are marked, in order
pub record AreMarked (marks : List Bool) (end : ℕ) (numbers : List ℕ) : Type 0 where
  pub ordered : AllPairs (λ m n. m < n) numbers
  pub below : All (λ n. n < end) numbers
  pub marked : (n : ℕ) → Contains numbers n → IsMarked marks n
  pub all : (n : ℕ) → IsMarked marks n → n < end → Contains numbers n
