-- Where a section stands between two parts.
use Rattle.std.specs.Prelude.{ℕ, ◌≡◌, drop, IsTrue, IsFalse, None, Some}
use Rattle.mark_core.specs.Steps.WorldSteps.{has_nothing}
use Rattle.plain_heap.specs.Sections.{Sections, joined, parts_of}
use Rattle.plain_heap.specs.PlainRun.{plan_of}
use Rattle.gc_table.specs.Rule.{KnowsFull}
use Rattle.gc_table.specs.Seats.{Sits, IsOutside, view_of}
use Rattle.gc_table.specs.declared.seat.Heap.{Heap}
use Rattle.gc_table.specs.declared.seat.HeapSeat.{HeapSeat}
use Rattle.play_end.specs.Done.{HasStoppedInPart}
use Rattle.play_end.specs.Parts.{IsAfterParts}
use Rattle.warehouse.specs.declared.mutator.Mutator.{Mutator}
use Rattle.warehouse.specs.Playing.{HasRoomForCommands, ObjectsHaveCells, player_of}

-- the heap's seat, outside the world, its stop and its help, with nothing in hand
pub record Rests (h : Heap) (s : HeapSeat) : Type 0 where
  pub sits : Sits h s
  pub outside : IsOutside (view_of s)
  pub idle : IsTrue (has_nothing h.shape (view_of s).state)

-- the seat of section w, at rest, in a heap whose objects aren't shared
pub record IsSeated (h : Heap) (s : Sections) (w : ℕ) (x : HeapSeat) : Type 0 where
  pub rests : Rests h x
  pub owned : IsFalse (view_of x).shape.sharing
  pub number : (view_of x).state.number ≡ w
  pub section : (view_of x).state.section ≡ Some w
  pub plan_is : (view_of x).plan ≡ plan_of s
  pub fields : (view_of x).shape.fields ≡ s.fields

-- a seat without a section, at rest
pub record IsTracerSeat (h : Heap) (k : ℕ) (x : HeapSeat) : Type 0 where
  pub rests : Rests h x
  pub number : (view_of x).state.number ≡ k
  pub section : (view_of x).state.section ≡ None

-- section w played its first z parts, and its player has room for all others
pub record PlayedTo (h : Heap) (s : Sections) (w z : ℕ) (m : Mutator) : Type 0 where
  pub seated : IsSeated h s w m.seat
  pub after : IsAfterParts s w z (player_of m)
  pub counted : ObjectsHaveCells (view_of m.seat)
  pub room : HasRoomForCommands (joined (drop z (parts_of s w))) m

-- section w stopped within part z, since the heap is full
pub record StoppedIn (h : Heap) (s : Sections) (w z : ℕ) (m : Mutator) : Type 0 where
  pub seated : IsSeated h s w m.seat
  pub at : ℕ
  pub stopped : HasStoppedInPart s w z at (view_of m.seat).own
  pub full : KnowsFull (view_of m.seat)
