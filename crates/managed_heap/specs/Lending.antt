-- What a world has, and what is so when it is opened and closed.
use Rattle.std.specs.Prelude.{ℕ, ◌≡◌, ◌⊎◌, ◌≤◌, ◌+◌, ◌<◌, ◌++◌, [], ◌∷◌, false, replicate, Bool, vec_len}
use Rattle.std.specs.Arc.{arc_value}
use Rattle.mark_core.specs.Numbers.{section_variables}
use Rattle.mark_core.specs.Shapes.{usual_stretch}
use Rattle.mark_core.specs.declared.kinds.Shape.{Shape}
use Rattle.plain_heap.specs.declared.object.Ref.TheVariants.{Nil}
use Rattle.gc_table.specs.SeatRecords.{At, resting}
use Rattle.gc_table.specs.Seats.{view_of}
use Rattle.gc_table.specs.declared.seat.Heap.{Heap}
use Rattle.managed_heap.specs.Calls.{MutatorLeft, heap_of}
use Rattle.managed_heap.specs.Opening.{IsNewSeat}
use Rattle.managed_heap.specs.declared.mutator.Mutator.{Mutator}
use Rattle.managed_heap.specs.declared.mutator.Place.TheVariants.{Outside}
use Rattle.managed_heap.specs.declared.world.World.{World}
use Rattle.managed_heap.specs.WorldOpening.{AreNumbered, IsFreshTracer}
use Rattle.managed_heap.specs.Sizing.{Fits}
use Rattle.managed_heap.specs.declared.sizes.Sizes.{Sizes}

-- each size is in its range, and no slots are asked for
abbrev pub FitsWorld : Sizes → Type 0
FitsWorld s = Fits s × (s.slots ≡ 0)

-- the mutator of section k of this heap, with this name, that has done nothing, and collects only in stops if that is asked for
pub record IsFreshMutator (h : Heap) (name : ℕ) (in_stops : Bool) (k : ℕ) (m : Mutator) : Type 0 where
  pub heap : arc_value m.heap ≡ h
  pub name_is : m.name ≡ name
  pub stops : m.in_stops ≡ in_stops
  pub place : m.place ≡ Outside
  pub seat : IsNewSeat h k m.seat
  pub objects : (heap_of m).objects ≡ []
  pub variables : (heap_of m).variables ≡ replicate section_variables Nil

-- all mutators and tracers are back
abbrev pub AreAllBack : World → Type 0
AreAllBack w = (vec_len w.mutators ≡ w.sizes.mutators) × (vec_len w.tracers ≡ w.sizes.tracers)

-- the heap of a world of these sizes: a section for each mutator besides section 0; objects aren't shared, and their numbers have 32 bits
abbrev pub shape_for : Sizes → Shape
shape_for s = record { cells = s.cells; packets = s.packets; entries = s.entries; sections = 1 + s.mutators; fields = s.fields; objects = 4294967295; sharing = false; slots = 0; stretch = usual_stretch s.cells }

-- a new world of these sizes: its mutators are those of sections 1, 2 and so on, and its tracers have the seats after them; none has done anything, and nobody has one.
-- Section 0 has ended its turn once, so that the mutators' season has come
pub record IsOpened (sizes : Sizes) (w : World) : Type 0 where
  pub sizes_are : w.sizes ≡ sizes
  pub shape : (arc_value w.heap).shape ≡ shape_for sizes
  pub zero : At (arc_value w.heap) resting 0 w.zero
  pub season : (view_of w.zero).own.seasons ≡ 1
  pub mutators_are : AreNumbered (IsFreshMutator (arc_value w.heap) sizes.name sizes.in_stops) 1 w.mutators.items
  pub tracers_are : AreNumbered (IsFreshTracer [] (arc_value w.heap) sizes.name) (1 + sizes.mutators) w.tracers.items
  pub all : AreAllBack w

-- the heap, its sizes and what is known of it are as before
pub record KeepsRest (x y : World) : Type 0 where
  pub heap : y.heap ≡ x.heap
  pub zero : y.zero ≡ x.zero
  pub sizes_are : y.sizes ≡ x.sizes

-- the world has all that it had, but for what is known of its heap
pub record HasAllStill (x y : World) : Type 0 where
  pub heap : y.heap ≡ x.heap
  pub sizes_are : y.sizes ≡ x.sizes
  pub mutators_are : y.mutators ≡ x.mutators
  pub tracers_are : y.tracers ≡ x.tracers

-- the mutator has the world's name, one was out, and it left and is the world's
pub record IsBack (m : Mutator) (x y : World) : Type 0 where
  pub name_is : m.name ≡ x.sizes.name
  pub out : vec_len x.mutators < x.sizes.mutators
  pub left : Mutator
  pub has_left : MutatorLeft m left
  pub items : y.mutators.items ≡ x.mutators.items ++ left ∷ []

-- why no mutator of this name is taken back: it is another world's, or all of this world's are back
abbrev pub TakesNoMutator : ℕ → World → Type 0
TakesNoMutator name w = (name ≡ w.sizes.name → ⊥) ⊎ (w.sizes.mutators ≤ vec_len w.mutators)

-- why no tracer of this name is taken back
abbrev pub TakesNoTracer : ℕ → World → Type 0
TakesNoTracer name w = (name ≡ w.sizes.name → ⊥) ⊎ (w.sizes.tracers ≤ vec_len w.tracers)
