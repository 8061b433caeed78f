-- The seats of a new heap, and what the seat of section 0 has come to while it opens the workers' turn.
use Rattle.std.specs.Prelude.{ℕ, ◌≡◌, [], List}
use Rattle.mark_core.specs.declared.kinds.Shape.{Shape}
use Rattle.mark_core.specs.declared.seat.SeatState.{SeatState}
use Rattle.gc_table.specs.Seats.{view_of}
use Rattle.gc_table.specs.Sections.{start_section}
use Rattle.gc_table.specs.SeatRecords.{At}
use Rattle.gc_table.specs.declared.seat.Heap.{Heap}
use Rattle.gc_table.specs.declared.seat.HeapSeat.{HeapSeat}
use Rattle.managed_heap.specs.WorldOpening.{AreNewOf, IsNewSeatOf}

-- seat k of the heap has done nothing
abbrev pub IsNewSeat : Heap → ℕ → HeapSeat → Type 0
IsNewSeat = IsNewSeatOf []

-- so are these, counted from k
abbrev pub AreNew : Heap → ℕ → List HeapSeat → Type 0
AreNew = AreNewOf []

-- seat 0 has this record, and its section has done nothing
abbrev pub Opens : Heap → (Shape → ℕ → SeatState) → HeapSeat → Type 0
Opens h f s = At h f 0 s × ((view_of s).own.meaning ≡ (start_section h.shape 0).meaning) × ((view_of s).own.seasons ≡ 0) × ((view_of s).plan ≡ [])
