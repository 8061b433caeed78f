-- Where a seat is after it tried to enter, to come to its turn, or to make an object.
use Rattle.std.specs.Prelude.{◌≡◌, ◌<◌, Option, None, IsTrue}
use Rattle.std.specs.Int.Count.{ones}
use Rattle.plain_heap.specs.declared.operation.Op.{Op}
use Rattle.gc_table.specs.PlainSteps.{HasSeenPhase}
use Rattle.gc_table.specs.Rule.{KnowsFull}
use Rattle.gc_table.specs.Seats.{view_of}
use Rattle.alloc_cache.specs.Caching.{IsCached}
use Rattle.alloc_cache.specs.declared.cache.Cache.{Cache}
use Rattle.gc_cycle.specs.Answering.{HasCache}
use Rattle.gc_cycle.specs.declared.counts.Refill.{Refill}
use Rattle.gc_cycle.specs.declared.counts.Refill.TheVariants as refills
use Rattle.cache_refills.specs.declared.trying.Pass.{Pass}
use Rattle.cache_refills.specs.declared.trying.Pass.TheVariants as passes
use Rattle.gc_table.specs.declared.seat.Heap.{Heap}
use Rattle.gc_table.specs.declared.seat.HeapSeat.{HeapSeat}
use Rattle.seat_turns.specs.Standing.{Halts, HoldsTurn, HoldsWorld, IsMutatorOutside, Works, plain_of}
use Rattle.seat_steps.specs.Doing.{Does}
use Rattle.seat_steps.specs.declared.came.Came.{Came}
use Rattle.seat_steps.specs.declared.came.Came.TheVariants as cames

-- where a seat is after it tried to enter
abbrev pub Tries : Pass → Heap → HeapSeat → Type 0
Tries passes.Going h s = Halts h s
Tries passes.Full h s = Halts h s × KnowsFull (view_of s)
Tries passes.Out h s = IsMutatorOutside h s

-- where it is after a safe point, with the cache that it has then
abbrev pub Passes : Pass → Heap → HeapSeat → Option Cache → Type 0
Passes passes.Going h s kept = Works h s × HasCache kept (view_of s) × HasSeenPhase (view_of s).state
Passes passes.Full h s kept = Halts h s × KnowsFull (view_of s) × (kept ≡ None)
Passes passes.Out h s kept = IsMutatorOutside h s × (kept ≡ None)

-- where it is after a safe point at which it goes on
abbrev pub HasPassed : Heap → HeapSeat → Type 0
HasPassed h s = (kept : Option Cache) × Passes passes.Going h s kept

-- where it is after it looked at its turn whether anything hinders it
abbrev pub HasLooked : Came → Heap → HeapSeat → Type 0
HasLooked cames.Done h s = HoldsTurn h s
HasLooked cames.Stopped h s = HoldsWorld h s
HasLooked cames.Full h s = HoldsWorld h s × KnowsFull (view_of s)
HasLooked c h s = ⊥

-- where it is after it looked so without a cache, on its way to its turn
abbrev pub HasLookedIn : Came → Heap → HeapSeat → Type 0
HasLookedIn cames.Done h s = Halts h s × HasSeenPhase (view_of s).state
HasLookedIn cames.Stopped h s = Halts h s
HasLookedIn cames.Full h s = Halts h s × KnowsFull (view_of s)
HasLookedIn c h s = ⊥

-- where it is after it asked for a cache
abbrev pub Refills : Refill → Heap → HeapSeat → Type 0
Refills (refills.Cache free paid) h s = Works h s × IsCached free (view_of s) × (0 < ones free.cells)
Refills refills.Full h s = Halts h s × KnowsFull (view_of s)

-- where it is after it left instead of what it was to do
abbrev pub LeavesWorld : Came → Heap → HeapSeat → Type 0
LeavesWorld cames.Stopped h s = IsMutatorOutside h s
LeavesWorld cames.Full h s = IsMutatorOutside h s × KnowsFull (view_of s)
LeavesWorld c h s = ⊥

-- where it is after it tried to come to its turn
abbrev pub Arrives : Came → Heap → HeapSeat → Type 0
Arrives cames.Done h s = HoldsTurn h s
Arrives cames.Stopped h s = IsMutatorOutside h s
Arrives cames.Full h s = IsMutatorOutside h s × KnowsFull (view_of s)
Arrives c h s = ⊥

-- where it is after it came to no cell
abbrev pub LacksCell : Came → Heap → HeapSeat → Type 0
LacksCell cames.NoCell h s = HoldsTurn h s
LacksCell cames.Stopped h s = IsMutatorOutside h s
LacksCell cames.Full h s = IsMutatorOutside h s × KnowsFull (view_of s)
LacksCell c h s = ⊥

-- what making an object came to, if the section may make one
abbrev pub MakesOne : Came → Op → Heap → HeapSeat → HeapSeat → Type 0
MakesOne cames.Done op h x y = HoldsTurn h y × Does op h x y
MakesOne c op h x y = LacksCell c h y × (plain_of y ≡ plain_of x)
