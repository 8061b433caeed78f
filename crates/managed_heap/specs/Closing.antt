-- What is so when a world is closed with its mutators and tracers.
use Rattle.std.specs.Prelude.{◌≡◌, ◌++◌, List, ◌∷◌}
use Rattle.std.specs.Arc.{arc_value}
use Rattle.gc_table.specs.Running.{Ran}
use Rattle.gc_table.specs.Seats.{Across}
use Rattle.gc_table.specs.declared.seat.HeapSeat.{HeapSeat}
use Rattle.gc_table.specs.declared.words.Words.{Words}
use Rattle.seat_turns.specs.declared.background.Tracer.{Tracer}
use Rattle.managed_heap.specs.Gathering.{AreThere, IsEndOf, seats_of}
use Rattle.managed_heap.specs.Calls.{MutatorLeft}
use Rattle.managed_heap.specs.declared.mutator.Mutator.{Mutator}
use Rattle.managed_heap.specs.declared.world.World.{World}

-- the seat is the mutator's, which left the world if it was inside
pub record HasLeft (m : Mutator) (s : HeapSeat) : Type 0 where
  pub left : Mutator
  pub leaves : MutatorLeft m left
  pub ran : Across Ran m.seat left.seat
  pub seat_is : s ≡ left.seat

-- section 0's seat, those of the mutators that have left, and those of the tracers
abbrev pub all_seats : World → List HeapSeat → List Tracer → List HeapSeat
all_seats world rest ts = world.zero ∷ rest ++ seats_of ts

-- the words are those in the end of one run of section 0's seat, of the mutators and of the tracers; nobody else took part
abbrev pub IsWorldEnd : World → List Mutator → List Tracer → Words → Type 0
IsWorldEnd world ms ts w = IsEndOf HasLeft (arc_value world.heap) world.zero ms ts w

-- these are all mutators and tracers of the world, in their order
abbrev pub AreAllThere : World → List Mutator → List Tracer → Type 0
AreAllThere world ms ts = AreThere (λ (m : Mutator). m.seat) (arc_value world.heap) world.sizes.tracers ms ts
