-- The seats of the tests: what their records say, and what their sections have come to.
use Rattle.std.specs.Prelude.{ℕ, ◌≡◌, ◌&&◌, true, Some, None, IsTrue, IsFalse}
use Rattle.mark_core.specs.Start.{start_seat}
use Rattle.mark_core.specs.Seats.{saw}
use Rattle.tracer.specs.Hands.{no_packets}
use Rattle.mark_core.specs.declared.kinds.Phase.TheVariants.{Idle, Marking}
use Rattle.mark_core.specs.declared.kinds.Shape.{Shape}
use Rattle.mark_core.specs.declared.seat.SeatState.{SeatState}
use Rattle.gc_table.specs.Seats.{Sits, view_of}
use Rattle.gc_table.specs.declared.seat.Heap.{Heap}
use Rattle.gc_table.specs.declared.seat.HeapSeat.{HeapSeat}
use Rattle.mutator_ops.specs.Ready.{IsReady}

-- it has read that marking is under way, in the first season of the warehouses
abbrev pub playing : Shape → ℕ → SeatState
playing sh k = record (start_seat sh k) { counted = true; active = true; phase_seen = Some Marking; season_seen = Some 1 }

-- it is active, and has read that no cycle is under way
abbrev pub waiting : Shape → ℕ → SeatState
waiting sh k = record (start_seat sh k) { counted = true; active = true; phase_seen = Some Idle }

-- the seat is a mutator's between two commands
abbrev pub IsReadyMutator : Heap → HeapSeat → Type 0
IsReadyMutator h s = Sits h s × IsReady (view_of s)

-- the seat marks as a mutator, and holds no packet and no block to sweep
pub record MayTrace (s : SeatState) : Type 0 where
  pub marks : IsTrue (s.active && saw s.phase_seen Marking)
  pub unreserved : IsFalse s.reserved
  pub uncredited : IsFalse s.credit
  pub held : s.held ≡ no_packets
  pub block : s.block ≡ None
