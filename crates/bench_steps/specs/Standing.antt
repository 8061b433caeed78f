-- A mutator between two operations.
use Rattle.std.specs.Prelude.{ℕ, ◌≡◌, ◌≤◌, length, None, IsTrue, IsFalse, false}
use Rattle.mark_core.specs.declared.kinds.Shape.{Shape}
use Rattle.mark_core.specs.Seats.{work_in_hand}
use Rattle.gc_table.specs.Seats.{Sits, view_of}
use Rattle.packet_pools.specs.Hands.{free_slots}
use Rattle.packet_pools.specs.Tracing.{Traces}
use Rattle.gc_table.specs.SeatRecords.{At}
use Rattle.mark_core.specs.declared.seat.SeatState.{SeatState}
use Rattle.gc_table.specs.declared.seat.Heap.{Heap}
use Rattle.gc_table.specs.declared.seat.HeapSeat.{HeapSeat}
use Rattle.alloc_cache.specs.Caching.{IsCached}
use Rattle.alloc_cache.specs.declared.cache.Cache.{Cache}
use Rattle.mutator_ops.specs.Ready.{IsReady}
use Rattle.gc_table.specs.declared.view.View.{View}
use Rattle.tracer.specs.Hands.{IsIdle}

-- 64 blocks of 64 cells, and objects of four fields
abbrev pub sizes : Shape
sizes = record { cells = 4096; packets = 64; entries = 64; sections = 1; fields = 4; objects = 2000000; sharing = false; slots = 0; stretch = 1 }

-- the heap has these sizes, and the catalogue's seat has this record and no object
abbrev pub Blank : Heap → (Shape → ℕ → SeatState) → HeapSeat → Type 0
Blank h f s = (h.shape ≡ sizes) × At h f 0 s × (length (view_of s).own.meaning.heap.objects ≡ 0)

-- the seat may take a block, and has made at most this many cells
abbrev pub Waiting : Heap → ℕ → HeapSeat → Type 0
Waiting h n s = (h.shape ≡ sizes) × Sits h s × IsReady (view_of s) × ((view_of s).state.cache ≡ None) × ((view_of s).state.made ≤ n)

-- the seat has this block, and has made at most this many cells
abbrev pub Filling : Heap → ℕ → Cache → HeapSeat → Type 0
Filling h n c s = (h.shape ≡ sizes) × Sits h s × IsReady (view_of s) × IsCached c (view_of s) × ((view_of s).state.made ≤ n)

-- the seat stopped the world, is alone in it, and is between two calls
pub record StandsAlone (v : View) : Type 0 where
  pub knows : IsTrue v.state.knows
  pub alone : IsTrue v.state.alone
  pub unreserved : IsFalse v.state.reserved
  pub uncredited : IsFalse v.state.credit
  pub idle : IsIdle v

-- the seat may trace, has room for two packets, and has no work in hand
abbrev pub Tracing : Heap → HeapSeat → Type 0
Tracing h s = Sits h s × Traces (view_of s) × (2 ≤ free_slots (view_of s).state.held) × IsFalse (work_in_hand h.shape.fields (view_of s).state)
