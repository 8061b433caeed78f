-- What is so of a new shared world, and of one that lends its mutators and takes them back.
use Rattle.std.specs.Prelude.{ℕ, ◌≡◌, ◌⊎◌, ◌≤◌, ◌<◌, ◌+◌, ◌++◌, List, [], ◌∷◌, true, IsFalse, Some, replicate, slice_get, vec_len}
use Rattle.std.specs.Arc.{arc_value}
use Rattle.mark_core.specs.Numbers.{section_variables}
use Rattle.mark_core.specs.Shapes.{usual_stretch}
use Rattle.mark_core.specs.declared.kinds.Shape.{Shape}
use Rattle.gc_table.specs.Seats.{state_of, view_of}
use Rattle.gc_table.specs.declared.seat.Heap.{Heap}
use Rattle.shared_heap.specs.Calls.{SharerLeft}
use Rattle.shared_heap.specs.Planning.{root_plan}
use Rattle.shared_heap.specs.declared.mutator.Place.TheVariants.{Outside}
use Rattle.shared_heap.specs.declared.mutator.SharedMutator.{SharedMutator}
use Rattle.shared_heap.specs.declared.world.SharedWorld.{SharedWorld}
use Rattle.managed_heap.specs.WorldOpening.{AreNumbered, IsFreshTracer}
use Rattle.managed_heap.specs.Sizing.{Fits}
use Rattle.managed_heap.specs.declared.sizes.Sizes.{Sizes}

-- each size is in its range, and mutators collecting in stops aren't asked for
abbrev pub FitsShared : Sizes → Type 0
FitsShared s = Fits s × IsFalse s.in_stops

-- mutator k of this heap, counted from 1, with this name, which has done nothing: all its variables are nil
pub record IsFreshSharer (h : Heap) (name k : ℕ) (m : SharedMutator) : Type 0 where
  pub heap : arc_value m.heap ≡ h
  pub place : m.place ≡ Outside
  pub name_is : m.name ≡ name
  pub number : (state_of m.seat).number ≡ k
  pub section : (state_of m.seat).section ≡ Some k
  pub variables : (state_of m.seat).env ≡ replicate section_variables 0
  pub made : (state_of m.seat).made ≡ 0
  pub log : (view_of m.seat).log ≡ []

-- none of these has done anything; they stand in the order of their numbers, the first of which is k
abbrev pub AreFresh : Heap → ℕ → ℕ → List SharedMutator → Type 0
AreFresh h name k ms = (i : ℕ) (m : SharedMutator) → slice_get ms i ≡ Some m → IsFreshSharer h name (k + i) m

-- the heap of a world of these sizes: a section for each mutator besides section 0, which has the root; objects are shared
abbrev pub shared_shape_for : Sizes → Shape
shared_shape_for s = record { cells = s.cells; packets = s.packets; entries = s.entries; sections = 1 + s.mutators; fields = s.fields; objects = 4294967295; sharing = true; slots = s.slots; stretch = usual_stretch s.cells }

-- a new world of these sizes: nobody has one of its mutators or tracers, and section 0 has ended its turn once, so that the mutators' season has come
pub record IsSharedOpened (sizes : Sizes) (w : SharedWorld) : Type 0 where
  pub sizes_are : w.sizes ≡ sizes
  pub shape : (arc_value w.heap).shape ≡ shared_shape_for sizes
  pub season : (view_of w.zero).own.seasons ≡ 1
  pub fresh : AreFresh (arc_value w.heap) sizes.name 1 w.mutators.items
  pub count : vec_len w.mutators ≡ sizes.mutators
  pub tracers : AreNumbered (IsFreshTracer root_plan (arc_value w.heap) sizes.name) (1 + sizes.mutators) w.tracers.items
  pub tracer_count : vec_len w.tracers ≡ sizes.tracers

-- the heap, its sizes and what is known of it are as before
pub record KeepsRest (x y : SharedWorld) : Type 0 where
  pub heap : y.heap ≡ x.heap
  pub zero : y.zero ≡ x.zero
  pub sizes_are : y.sizes ≡ x.sizes

-- the mutator has the world's name, one was out, and it left and is the world's
pub record IsBack (m : SharedMutator) (x y : SharedWorld) : Type 0 where
  pub name_is : m.name ≡ x.sizes.name
  pub out : vec_len x.mutators < x.sizes.mutators
  pub left : SharedMutator
  pub has_left : SharerLeft m left
  pub items : y.mutators.items ≡ x.mutators.items ++ left ∷ []

-- why no mutator of this name is taken back: it is another world's, or all of this world's are back
abbrev pub TakesNoMutator : ℕ → SharedWorld → Type 0
TakesNoMutator name w = (name ≡ w.sizes.name → ⊥) ⊎ (w.sizes.mutators ≤ vec_len w.mutators)

-- why no tracer of this name is taken back
abbrev pub TakesNoTracer : ℕ → SharedWorld → Type 0
TakesNoTracer name w = (name ≡ w.sizes.name → ⊥) ⊎ (w.sizes.tracers ≤ vec_len w.tracers)

-- the world has all that it had, but for what is known of its heap
abbrev pub HasAllStill : SharedWorld → SharedWorld → Type 0
HasAllStill x y = (y.heap ≡ x.heap) × (y.mutators ≡ x.mutators) × (y.tracers ≡ x.tracers) × (y.sizes ≡ x.sizes)

-- all mutators and tracers are back
abbrev pub AreAllBack : SharedWorld → Type 0
AreAllBack w = (vec_len w.mutators ≡ w.sizes.mutators) × (vec_len w.tracers ≡ w.sizes.tracers)
