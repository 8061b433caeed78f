-- Objects by their names, paths of references, and what is reachable.
use Rattle.std.specs.Prelude.{ℕ, zero, suc, ◌≡◌, ◌<◌, ◌⊎◌, ◌↔◌, List, [], ◌∷◌, Some, map, slice_get, Contains, All, AllPairs}
use Rattle.plain_heap.specs.declared.object.Ref.{Ref}
use Rattle.plain_heap.specs.declared.object.Ref.TheVariants as refs
use Rattle.plain_heap.specs.declared.object.Object.{Object}
use Rattle.plain_heap.specs.PlainHeap.{Heap}

-- an object by its section and its number
pub record Name : Type 0 where
  pub section : ℕ
  pub number : ℕ

-- what a reference in a section names; the catalogue's own references are never of the kind that a warehouse has to it
abbrev pub Names : ℕ → Ref → Name → Type 0
Names section refs.Nil name = ⊥
Names section (refs.Own n) name = (name.section ≡ section) × (name.number ≡ n)
Names zero (refs.Cat n) name = ⊥
Names (suc section) (refs.Cat n) name = (name.section ≡ 0) × (name.number ≡ n)

-- the object of a name, in these heaps
abbrev pub HasObject : List Heap → Name → Object → Type 0
HasObject heaps name object = (heap : Heap) × Contains heaps heap × (heap.section ≡ name.section) × (slice_get heap.objects name.number ≡ Some object)

-- the name of some object
abbrev pub IsObject : List Heap → Name → Type 0
IsObject heaps name = (object : Object) × HasObject heaps name object

-- a variable of some section refers to it
abbrev pub IsHeld : List Heap → Name → Type 0
IsHeld heaps name = (heap : Heap) × Contains heaps heap × (ref : Ref) × Contains heap.variables ref × Names heap.section ref name

-- a field of the one refers to the other
abbrev pub RefersTo : List Heap → Name → Name → Type 0
RefersTo heaps from to = (object : Object) × HasObject heaps from object × (ref : Ref) × Contains object.refs ref × Names from.section ref to

-- a path that ends with this object: the objects before it, the last one first
abbrev pub IsPath : List Heap → Name → List Name → Type 0
IsPath heaps name [] = IsHeld heaps name
IsPath heaps name (before ∷ path) = RefersTo heaps before name × IsPath heaps before path

-- the last object of some path
abbrev pub IsReachable : List Heap → Name → Type 0
IsReachable heaps name = IsObject heaps name × (path : List Name) × IsPath heaps name path

-- ordered by section and number
abbrev pub ComesBefore : Name → Name → Type 0
ComesBefore a b = (a.section < b.section) ⊎ ((a.section ≡ b.section) × (a.number < b.number))

-- each name comes before those after it
abbrev pub IsOrdered : List Name → Type 0
IsOrdered names = AllPairs ComesBefore names

-- these are the reachable objects, each once, in order
pub record AreReachable (heaps : List Heap) (names : List Name) : Type 0 where
  pub ordered : IsOrdered names
  pub each : (name : Name) → Contains names name ↔ IsReachable heaps name

-- an own object of a heap
abbrev pub own : Heap → ℕ → Name
own heap n = record { section = heap.section; number = n }

-- these are the own objects that own references reach, by their numbers and in order
pub record AreOwnReachable (heap : Heap) (numbers : List ℕ) : Type 0 where
  pub ordered : AllPairs (λ m n. m < n) numbers
  pub each : (n : ℕ) → Contains numbers n ↔ IsReachable (heap ∷ []) (own heap n)

-- an object with its value, as it is listed at the end
pub record Survivor : Type 0 where
  pub section : ℕ
  pub number : ℕ
  pub value : ℕ

-- the name of a survivor
abbrev pub name_of : Survivor → Name
name_of s = record { section = s.section; number = s.number }

-- the object of that name has this value
abbrev pub HasValue : List Heap → Survivor → Type 0
HasValue heaps s = (object : Object) × HasObject heaps (name_of s) object × (object.value ≡ s.value)

-- exactly the reachable objects with their values, in order
pub record AreSurvivors (heaps : List Heap) (survivors : List Survivor) : Type 0 where
  pub reachable : AreReachable heaps (map name_of survivors)
  pub values : All (HasValue heaps) survivors
