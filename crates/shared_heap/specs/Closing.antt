-- What is so when a shared world is closed.
use Rattle.std.specs.Prelude.{◌≡◌, ◌++◌, List, ◌∷◌}
use Rattle.std.specs.Arc.{arc_value}
use Rattle.gc_table.specs.declared.seat.HeapSeat.{HeapSeat}
use Rattle.gc_table.specs.declared.words.Words.{Words}
use Rattle.seat_turns.specs.declared.background.Tracer.{Tracer}
use Rattle.managed_heap.specs.Gathering.{AreThere, IsEndOf, seats_of}
use Rattle.shared_heap.specs.Calls.{SharerLeft}
use Rattle.shared_heap.specs.declared.mutator.SharedMutator.{SharedMutator}
use Rattle.shared_heap.specs.declared.world.SharedWorld.{SharedWorld}

-- the seat is the mutator's, which left the world if it was inside
pub record HasLeft (m : SharedMutator) (s : HeapSeat) : Type 0 where
  pub left : SharedMutator
  pub leaves : SharerLeft m left
  pub seat_is : s ≡ left.seat

-- section 0's seat, those of the mutators that have left, and those of the tracers
abbrev pub all_seats : SharedWorld → List HeapSeat → List Tracer → List HeapSeat
all_seats world rest ts = world.zero ∷ rest ++ seats_of ts

-- the words are those in the end of one run of section 0's seat, of the mutators and of the tracers; nobody else took part
abbrev pub IsSharedEnd : SharedWorld → List SharedMutator → List Tracer → Words → Type 0
IsSharedEnd world ms ts w = IsEndOf HasLeft (arc_value world.heap) world.zero ms ts w

-- these are all mutators and tracers of the world, in their order
abbrev pub AreAllThere : SharedWorld → List SharedMutator → List Tracer → Type 0
AreAllThere world ms ts = AreThere (λ (m : SharedMutator). m.seat) (arc_value world.heap) world.sizes.tracers ms ts
