-- What the records of the tests' seats say.
use Rattle.std.specs.Prelude.{ℕ, true, Some}
use Rattle.mark_core.specs.Start.{start_seat}
use Rattle.mark_core.specs.declared.kinds.Phase.TheVariants.{Idle}
use Rattle.mark_core.specs.declared.kinds.Shape.{Shape}
use Rattle.mark_core.specs.declared.seat.SeatState.{SeatState}
use Rattle.alloc_cache.specs.Caching.{IsCached}
use Rattle.alloc_cache.specs.declared.cache.Cache.{Cache}
use Rattle.gc_table.specs.Seats.{Sits, view_of}
use Rattle.gc_table.specs.declared.seat.Heap.{Heap}
use Rattle.gc_table.specs.declared.seat.HeapSeat.{HeapSeat}
use Rattle.mutator_ops.specs.Sharing.{SharesReady}

-- it is active, and has read that no cycle is under way
abbrev pub waiting : Shape → ℕ → SeatState
waiting sh k = record (start_seat sh k) { counted = true; active = true; phase_seen = Some Idle }

-- it is active, and has read that no cycle is under way, and that the first season of the warehouses has begun
abbrev pub playing : Shape → ℕ → SeatState
playing sh k = record (start_seat sh k) { counted = true; active = true; phase_seen = Some Idle; season_seen = Some 1 }

-- the seat is a mutator's of a heap whose objects are shared, between two commands, and this is its cache
abbrev pub IsSharerWithCache : Heap → HeapSeat → Cache → Type 0
IsSharerWithCache h s c = Sits h s × SharesReady (view_of s) × IsCached c (view_of s)
