-- Where a mutator's seat stands between the steps of a collection of its own.
use Rattle.gc_table.specs.Seats.{Sits, view_of}
use Rattle.gc_table.specs.declared.seat.Heap.{Heap}
use Rattle.gc_table.specs.declared.seat.HeapSeat.{HeapSeat}
use Rattle.gc_table.specs.declared.view.View.{View}
use Rattle.seat_turns.specs.Standing.{IsMutator}

-- the heap's seat, a mutator's: how far its collection is, and what it has done since it asked for the stop
pub record Collects (Stands Since : View → Type 0) (h : Heap) (s : HeapSeat) : Type 0 where
  pub sits : Sits h s
  pub mutator : IsMutator (view_of s)
  pub stands : Stands (view_of s)
  pub since : Since (view_of s)
