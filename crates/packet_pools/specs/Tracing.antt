-- When a seat may trace, by what it knows.
use Rattle.std.specs.Prelude.{Bool, ◌&&◌, ◌||◌, IsTrue, IsFalse}
use Rattle.mark_core.specs.Places.{the_phase}
use Rattle.mark_core.specs.Seats.{saw, is_the, phase_number}
use Rattle.mark_core.specs.declared.kinds.Phase.TheVariants.{Marking, Drain}
use Rattle.gc_table.specs.declared.view.View.{View}
use Rattle.gc_table.specs.Notes.{look}
use Rattle.gc_table.specs.Seats.{Sits, view_of}
use Rattle.gc_table.specs.declared.seat.Heap.{Heap}
use Rattle.gc_table.specs.declared.seat.HeapSeat.{HeapSeat}

-- the phase is noted, and is that of a drain
abbrev pub notes_drain : View → Bool
notes_drain v = is_the (look the_phase v.known) (phase_number Drain)

-- the seat marks as a mutator, or drains in the stop that it made, or helps in a drain
abbrev pub traces : View → Bool
traces v = (v.state.active && saw v.state.phase_seen Marking) || (v.state.knows && notes_drain v) || (v.state.admitted && saw v.state.phase_seen Drain)

-- the seat may trace, and is between two calls: neither a reservation nor a credit is out
pub record Traces (v : View) : Type 0 where
  pub may : IsTrue (traces v)
  pub unreserved : IsFalse v.state.reserved
  pub uncredited : IsFalse v.state.credit

-- a seat of the heap that may trace, between two calls: what each call of tracing is given, and leaves
abbrev pub IsTracer : Heap → HeapSeat → Type 0
IsTracer h s = Sits h s × Traces (view_of s)
