-- The records of a seat that enters, reads that marking is under way, and takes and gives back packet 0. No contract of this crate cites them. They stand here
-- for the crates of tests and benchmarks, which say by them what a seat's record is between two calls, and for the opening of a world, after which every seat
-- rests.
use Rattle.std.specs.Prelude.{ℕ, ◌≡◌, ◌∷◌, [], true, Some, None}
use Rattle.mark_core.specs.Start.{start_seat}
use Rattle.mark_core.specs.declared.kinds.Phase.TheVariants.{Marking}
use Rattle.mark_core.specs.declared.kinds.Shape.{Shape}
use Rattle.mark_core.specs.declared.seat.SeatState.{SeatState}
use Rattle.gc_table.specs.declared.seat.Heap.{Heap}
use Rattle.gc_table.specs.declared.seat.HeapSeat.{HeapSeat}
use Rattle.gc_table.specs.Seats.{Sits, view_of}

-- seat k of the heap has this record
abbrev pub At : Heap → (Shape → ℕ → SeatState) → ℕ → HeapSeat → Type 0
At h f k s = Sits h s × ((view_of s).state ≡ f h.shape k)

-- the seat has done nothing, or has left
abbrev pub resting : Shape → ℕ → SeatState
resting sh k = start_seat sh k

-- the seat is active
abbrev pub entered : Shape → ℕ → SeatState
entered sh k = record (start_seat sh k) { counted = true; active = true }

-- the seat has read that marking is under way
abbrev pub inside : Shape → ℕ → SeatState
inside sh k = record (start_seat sh k) { counted = true; active = true; phase_seen = Some Marking }

-- the seat has a reservation for an empty packet
abbrev pub reserved : Shape → ℕ → SeatState
reserved sh k = record (inside sh k) { reserved = true }

-- the seat has taken packet 0
abbrev pub holding : Shape → ℕ → SeatState
holding sh k = record (inside sh k) { held = Some (0, None, true) ∷ None ∷ None ∷ None ∷ [] }

-- the seat knows that the packet is empty
abbrev pub measured : Shape → ℕ → SeatState
measured sh k = record (inside sh k) { held = Some (0, Some 0, true) ∷ None ∷ None ∷ None ∷ [] }

-- the seat has given the packet back, and not counted it
abbrev pub returned : Shape → ℕ → SeatState
returned sh k = record (inside sh k) { credit = true }
