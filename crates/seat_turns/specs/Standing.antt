-- Where a mutator's seat stands: outside the world, in it between two calls, and at its turn; and where a tracer's does between two turns.
use Rattle.std.specs.Int.Count.{ones}
use Rattle.std.specs.Prelude.{ℕ, ◌≡◌, ◌<◌, if◌then◌else◌, [], length, Bool, true, false, Option, Some, None, IsTrue, IsFalse}
use Rattle.mark_core.specs.Numbers.{section_variables}
use Rattle.mark_core.specs.Seats.{has_making, has_turn, work_in_hand}
use Rattle.mark_core.specs.declared.kinds.Phase.{Phase}
use Rattle.mark_core.specs.declared.kinds.Phase.TheVariants.{Full}
use Rattle.plain_heap.specs.PlainHeap.{Heap as PlainHeap}
use Rattle.gc_table.specs.declared.seat.Heap.{Heap}
use Rattle.gc_table.specs.declared.seat.HeapSeat.{HeapSeat}
use Rattle.gc_table.specs.declared.view.View.{View}
use Rattle.gc_table.specs.Seats.{Sits, view_of}
use Rattle.alloc_cache.specs.Caching.{is_whole}
use Rattle.alloc_cache.specs.declared.cache.Cache.{Cache}
use Rattle.card_clean.specs.Barrier.{MayStore}
use Rattle.mutator_ops.specs.Flushing.{flushing_steps, word_of_variables}
use Rattle.gc_cycle.specs.Standing.{IsOut, Mutates}

-- the plain heap of the seat's section
abbrev pub plain_of : HeapSeat → PlainHeap
plain_of s = (view_of s).own.meaning.heap

-- what is so of a mutator's seat from the first step to the last: if objects aren't shared, there is no catalogue; its section plays in season 1, and each cell
-- that it made has its object
pub record IsMutator (v : View) : Type 0 where
  pub uncatalogued : IsFalse v.shape.sharing → v.plan ≡ []
  pub section : IsTrue (has_turn v.state.section (Some 1))
  pub counted : length v.own.meaning.heap.objects ≡ v.state.made

-- a mutator outside the world
pub record IsMutatorOutside (h : Heap) (s : HeapSeat) : Type 0 where
  pub sits : Sits h s
  pub out : IsOut (view_of s)
  pub mutator : IsMutator (view_of s)

-- a mutator in the world, between two calls
pub record Works (h : Heap) (s : HeapSeat) : Type 0 where
  pub sits : Sits h s
  pub mutates : Mutates (view_of s)
  pub mutator : IsMutator (view_of s)

-- the seat may store, has nothing in hand, makes no cell, has nothing in its register, and each cell that it made has its object
pub record MayOperate (v : View) : Type 0 where
  pub stores : MayStore v
  pub idle : IsFalse (work_in_hand v.shape.fields v.state)
  pub whole : IsFalse (has_making v.state.cache)
  pub register : v.state.got ≡ 0
  pub counted : length v.own.meaning.heap.objects ≡ v.state.made

-- a mutator in the world, at its turn, with the phase read: it may do an operation
pub record Plays (h : Heap) (s : HeapSeat) : Type 0 where
  pub works : Works h s
  pub operates : MayOperate (view_of s)

-- a mutator in the world without a cache
pub record Halts (h : Heap) (s : HeapSeat) : Type 0 where
  pub works : Works h s
  pub cache : (view_of s).state.cache ≡ None

-- a phase was read, and the heap isn't full
abbrev pub saw_going : Option Phase → Bool
saw_going None = false
saw_going (Some Full) = false
saw_going (Some p) = true

-- a mutator at its turn, with the phase read, and with a cache or without: it may do an operation
pub record IsAtTurn (h : Heap) (s : HeapSeat) : Type 0 where
  pub works : Works h s
  pub turn : IsTrue (has_turn (view_of s).state.section (view_of s).state.season_seen)
  pub phase : IsTrue (saw_going (view_of s).state.phase_seen)
  pub cache : IsTrue (is_whole (view_of s).state.cache)

-- what the seat knows, as if no root lagged
abbrev pub settled : View → View
settled v = record v { state = record v.state { lags = 0 } }

-- a mutator at its turn, with a cache or without, whose roots may lag; none does if objects aren't shared
pub record HoldsWorld (h : Heap) (s : HeapSeat) : Type 0 where
  pub sits : Sits h s
  pub mutates : Mutates (settled (view_of s))
  pub mutator : IsMutator (view_of s)
  pub turn : IsTrue (has_turn (view_of s).state.section (view_of s).state.season_seen)
  pub cache : IsTrue (is_whole (view_of s).state.cache)
  pub few : (view_of s).state.lags < word_of_variables
  pub own : IsFalse h.shape.sharing → (view_of s).state.lags ≡ 0

-- the same with the phase read: it may do an operation
pub record HoldsTurn (h : Heap) (s : HeapSeat) : Type 0 where
  pub holds : HoldsWorld h s
  pub phase : IsTrue (saw_going (view_of s).state.phase_seen)

-- how many steps store the roots that lag: one for each, 32 at most; none if objects aren't shared
abbrev pub flush_steps : View → ℕ
flush_steps v = if v.shape.sharing then length (flushing_steps v.state.lags section_variables) else 0

-- a seat outside the world
pub record RestsOutside (h : Heap) (s : HeapSeat) : Type 0 where
  pub sits : Sits h s
  pub out : IsOut (view_of s)

-- there is no cache, or none of its cells is free
abbrev pub LacksFree : Option Cache → Type 0
LacksFree None = Unit {0}
LacksFree (Some h) = ones h.cells ≡ 0
