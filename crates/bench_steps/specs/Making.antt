-- The records of the seat while it makes cells.
use Rattle.std.specs.Prelude.{ℕ, ◌≡◌, ◌%◌, ◌==◌, List, length, Some, Option, IsTrue, IsFalse}
use Rattle.mark_core.specs.Seats.{has_making}
use Rattle.mark_core.specs.declared.kinds.Phase.{Phase}
use Rattle.mark_core.specs.declared.kinds.Phase.TheVariants.{Full}
use Rattle.mark_core.specs.declared.seat.SeatState.{SeatState}
use Rattle.mark_core.specs.declared.seat.CacheState.{CacheState}
use Rattle.gc_table.specs.declared.seat.Heap.{Heap}
use Rattle.gc_table.specs.declared.seat.HeapSeat.{HeapSeat}
use Rattle.gc_table.specs.Seats.{view_of}
use Rattle.bench_steps.specs.Records.{SitsWithRecord, entered}

-- the seat has read the phase and the season, and has made this many cells
abbrev pub maker : Phase → ℕ → List ℕ → Option CacheState → ℕ → SeatState
maker phase season env cache made = record entered { phase_seen = Some phase; season_seen = Some season; env = env; cache = cache; made = made }

-- the seat is in its section's turn, has seen a phase in which it may store, no cell is half made, and each made cell has its object
pub record MayMakeCells (h : Heap) (x : HeapSeat) : Type 0 where
  pub phase : Phase
  pub season : ℕ
  pub env : List ℕ
  pub cache : Option CacheState
  pub made : ℕ
  pub seen : phase ≡ Full → ⊥
  pub turn : IsTrue (season % 2 == 0)
  pub whole : IsFalse (has_making cache)
  pub at : SitsWithRecord h (maker phase season env cache made) x
  pub objects : length (view_of x).own.meaning.heap.objects ≡ made

-- the block in which the seat makes cells
abbrev pub block_of_maker : HeapSeat → Option CacheState
block_of_maker x = (view_of x).state.cache

-- how many cells it has made
abbrev pub cells_made : HeapSeat → ℕ
cells_made x = (view_of x).state.made

-- how many objects its section's plain heap has
abbrev pub objects_of : HeapSeat → ℕ
objects_of x = length (view_of x).own.meaning.heap.objects
