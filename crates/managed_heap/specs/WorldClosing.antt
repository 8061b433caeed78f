-- Why a world isn't closed, and what is handed back then.
use Rattle.std.specs.Prelude.{◌≡◌, ◌+◌, ◌++◌, List, ◌∷◌, length}
use Rattle.std.specs.Arc.{arc_value}
use Rattle.gc_table.specs.Seats.{view_of}
use Rattle.gc_table.specs.declared.seat.Heap.{Heap}
use Rattle.gc_table.specs.declared.seat.HeapSeat.{HeapSeat}
use Rattle.managed_heap.specs.Gathering.{AreLeft, seats_of}
use Rattle.managed_heap.specs.declared.gathered.Gathered.{Gathered}
use Rattle.managed_heap.specs.declared.gathered_close.NotClosed.{NotClosed}
use Rattle.managed_heap.specs.declared.gathered_close.NotClosed.TheVariants.{Held, Missing, NoRoom}
use Rattle.managed_heap.specs.declared.gathered_close.Unclosed.{Unclosed}
use Rattle.seat_turns.specs.declared.background.Tracer.{Tracer}

-- the world and what was handed in come back as they were
pub record ComesBack {W M : Type 0} (kept : Unclosed W M) (world : W) (ms : List M) (ts : List Tracer) : Type 0 where
  pub world_is : kept.world ≡ world
  pub mutators_are : kept.mutators.items ≡ ms
  pub tracers_are : kept.tracers.items ≡ ts

-- the heap is this one, and the seats are section 0's, those left of the mutators, and those of the tracers: all that take part in it. So what closes it
-- afterwards gives the end of one run (`Gathered::close`)
pub record AreGathered {X : Type 0} (L : X → HeapSeat → Type 0) (h : Heap) (zero : HeapSeat) (mutators : List X) (tracers : List Tracer) (g : Gathered) : Type 0 where
  pub heap_is : arc_value g.heap ≡ h
  pub rest : List HeapSeat
  pub left : AreLeft L mutators rest
  pub seats_are : g.seats.items ≡ zero ∷ rest ++ seats_of tracers
  pub workers : length mutators + 1 ≡ h.shape.sections
  pub all : (view_of zero).opened ≡ length (zero ∷ rest ++ seats_of tracers)

-- why there are no words, and what is handed back
abbrev pub IsUnclosed : {W M : Type 0} → Type 0 → (Gathered → Type 0) → NotClosed W M → W → List M → List Tracer → Type 0
IsUnclosed There Left (Missing kept) world ms ts = ComesBack kept world ms ts × (There → ⊥)
IsUnclosed There Left (NoRoom kept) world ms ts = ComesBack kept world ms ts
IsUnclosed There Left (Held gathered) world ms ts = Left gathered
