-- The records of the seat, as it takes the steps that are timed.
use Rattle.std.specs.Prelude.{ℕ, ◌≡◌, ◌/◌, true, false, Some}
use Rattle.mark_core.specs.Cards.{card_cells}
use Rattle.mark_core.specs.Start.{start_seat}
use Rattle.mark_core.specs.declared.kinds.Phase.TheVariants.{Marking}
use Rattle.mark_core.specs.declared.kinds.Shape.{Shape}
use Rattle.mark_core.specs.declared.seat.SeatState.{SeatState}
use Rattle.gc_table.specs.declared.seat.Heap.{Heap}
use Rattle.gc_table.specs.declared.seat.HeapSeat.{HeapSeat}
use Rattle.gc_table.specs.Seats.{Sits, view_of}

-- 64 blocks of 64 cells, and objects of two fields
abbrev pub sizes : Shape
sizes = record { cells = 4096; packets = 2; entries = 2; sections = 1; fields = 2; objects = 2000000; sharing = false; slots = 0; stretch = 1 }

-- how many blocks a heap has
abbrev pub blocks_in_all : ℕ
blocks_in_all = 64

-- how many cards a heap has
abbrev pub cards_in_all : ℕ
cards_in_all = sizes.cells / card_cells

-- the heap has these sizes, and the seat is one of its seats, with this record
abbrev pub SitsWithRecord : Heap → SeatState → HeapSeat → Type 0
SitsWithRecord h s x = (h.shape ≡ sizes) × Sits h x × ((view_of x).state ≡ s)

-- the seat has done nothing, or has left
abbrev pub resting : SeatState
resting = start_seat sizes 0

-- the seat is active
abbrev pub entered : SeatState
entered = record resting { counted = true; active = true }

-- the seat has read that marking is under way
abbrev pub marking : SeatState
marking = record entered { phase_seen = Some Marking }

-- the seat has a reservation for an empty packet
abbrev pub reserved : SeatState
reserved = record marking { reserved = true }
