-- A seat in the world with nothing in hand, and one that may mark.
use Rattle.std.specs.Prelude.{IsTrue, IsFalse}
use Rattle.mark_core.specs.Seats.{saw}
use Rattle.mark_core.specs.Steps.WorldSteps.{has_nothing}
use Rattle.mark_core.specs.declared.kinds.Phase.TheVariants.{Marking}
use Rattle.gc_table.specs.Seats.{Sits, view_of}
use Rattle.gc_table.specs.declared.seat.Heap.{Heap}
use Rattle.gc_table.specs.declared.seat.HeapSeat.{HeapSeat}

-- the heap's seat, active, with nothing in hand
pub record Goes (h : Heap) (s : HeapSeat) : Type 0 where
  pub sits : Sits h s
  pub counted : IsTrue (view_of s).state.counted
  pub active : IsTrue (view_of s).state.active
  pub unraised : IsFalse (view_of s).state.raised
  pub unhelping : IsFalse (view_of s).state.helping
  pub idle : IsTrue (has_nothing h.shape (view_of s).state)

-- besides, it has read that marking is under way
pub record GoesMarking (h : Heap) (s : HeapSeat) : Type 0 where
  pub goes : Goes h s
  pub marking : IsTrue (saw (view_of s).state.phase_seen Marking)
