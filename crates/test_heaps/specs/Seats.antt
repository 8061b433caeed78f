-- The seats of a heap that was just made: what their records say, and what their sections have come to.
use Rattle.std.specs.Prelude.{ℕ, ◌≡◌, ◌⊎◌, [], length, None, IsFalse}
use Rattle.mark_core.specs.declared.kinds.Phase.TheVariants.{Idle, Marking}
use Rattle.mark_core.specs.declared.kinds.Shape.{Shape}
use Rattle.mark_core.specs.declared.seat.SeatState.{SeatState}
use Rattle.gc_table.specs.Running.{Alone}
use Rattle.gc_table.specs.Seats.{Sits, view_of}
use Rattle.gc_table.specs.Sections.{start_section}
use Rattle.gc_table.specs.SeatRecords.{At}
use Rattle.gc_table.specs.declared.seat.Heap.{Heap}
use Rattle.gc_table.specs.declared.seat.HeapSeat.{HeapSeat}
use Rattle.gc_table.specs.declared.view.View.{View}
use Rattle.tracer.specs.Hands.{no_packets}
use Rattle.alloc_cache.specs.Caching.{IsCached}
use Rattle.alloc_cache.specs.declared.cache.Cache.{Cache}
use Rattle.mutator_ops.specs.Ready.{IsReady}

-- seat k has this record, and its section has done nothing
abbrev pub New : Heap → (Shape → ℕ → SeatState) → ℕ → HeapSeat → Type 0
New h f k s = At h f k s × ((view_of s).own.meaning ≡ (start_section h.shape k).meaning) × ((view_of s).own.seasons ≡ 0) × ((view_of s).plan ≡ [])

-- the seat is the heap's, and each cell that it made has its object
abbrev pub HasEachObject : Heap → HeapSeat → Type 0
HasEachObject h s = Sits h s × (length (view_of s).own.meaning.heap.objects ≡ (view_of s).state.made)

-- the seat is a mutator's between two commands, and this is its cache
abbrev pub IsReadyWithCache : Heap → HeapSeat → Cache → Type 0
IsReadyWithCache h s c = Sits h s × IsReady (view_of s) × IsCached c (view_of s)

-- the seat may begin a drain: it is alone, and no cycle is under way, or marking is
abbrev pub MayBeginDrain : View → Type 0
MayBeginDrain v = Alone Idle v ⊎ Alone Marking v

-- the seat holds no packet, and has nothing in hand
pub record Bare (s : SeatState) : Type 0 where
  pub held : s.held ≡ no_packets
  pub unreserved : IsFalse s.reserved
  pub uncredited : IsFalse s.credit
  pub popped : s.popped ≡ None
  pub scan : s.scan ≡ None
  pub value : s.value ≡ None
  pub fresh : s.fresh ≡ None
  pub cleaning : s.cleaning ≡ None
