-- How a mutator comes to a cache: what it looks at, what a round of its search leaves, and what it does in a stop of its own.
use Rattle.std.specs.Prelude.{ℕ, ◌≡◌, ◌⊎◌, ◌<◌, ◌+◌, not, ◌==◌, List, ◌++◌, Bool, true, false, Option, Some, None, IfNone, IfSome, is_some, IsTrue, IsFalse}
use Rattle.std.specs.Int.Count.{ones}
use Rattle.mark_core.specs.Bits.{all_ones}
use Rattle.mark_core.specs.Layout.{block_count, card_count}
use Rattle.mark_core.specs.Places.{alloc_at, the_phase}
use Rattle.mark_core.specs.Seats.{phase_number}
use Rattle.mark_core.specs.Rules.WorldRules.{is_resting}
use Rattle.mark_core.specs.declared.kinds.Phase.{Phase}
use Rattle.mark_core.specs.declared.kinds.Phase.TheVariants.{Full, Marking}
use Rattle.mark_core.specs.declared.kinds.Shape.{Shape}
use Rattle.mark_core.specs.declared.kinds.Step.{Step}
use Rattle.mark_core.specs.declared.kinds.Step.TheVariants.{AddStat, ClaimBlock, ReadCount, ReadFree, ReadStat, ReleaseBlock, StorePhase}
use Rattle.gc_table.specs.Log.{Only, events}
use Rattle.gc_table.specs.Notes.{look}
use Rattle.gc_table.specs.Rule.{KnowsFull}
use Rattle.gc_table.specs.Running.{Alone, Known, Ran}
use Rattle.gc_table.specs.declared.view.Entry.{Entry}
use Rattle.gc_table.specs.declared.view.View.{View}
use Rattle.packet_pools.specs.Seeking.{some_event}
use Rattle.alloc_cache.specs.Claiming.{claimed_by}
use Rattle.alloc_cache.specs.declared.cache.Cache.{Cache}
use Rattle.gc_cycle.specs.Answering.{HasCache, StoredAt, TellsFull}
use Rattle.gc_cycle.specs.Cycles.{fills_with_cause}
use Rattle.gc_cycle.specs.Events.{never, since_last}
use Rattle.gc_cycle.specs.Mutating.{keeps_section, pops_in_stops}
use Rattle.cache_refills.specs.Pace.Pacing.{was_not_due}
use Rattle.gc_cycle.specs.Polling.{saw_full}
use Rattle.gc_cycle.specs.Sorts.{ends_cycle, raises_flag, reads_all_ones, resumes, sees_all_empty, sees_last_card}
use Rattle.mark_core.specs.Numbers.{done_count, empty_offset}
use Rattle.gc_cycle.specs.Sparing.{SparesRefill, spares_part}
use Rattle.gc_cycle.specs.Standing.{Mutates, is_at_rest}
use Rattle.cache_refills.specs.Stops.{cycles_with_cause, may_stop_again, misses_block, resumes_with_end, stops_again_with_cause, stops_collect}
use Rattle.gc_cycle.specs.declared.counts.Refill.{Refill}

-- a look at the counter of cards, or at the count of empty packets
abbrev pub looks_for_end : Step → Bool
looks_for_end (ReadStat which) = true
looks_for_end ReadCount = true
looks_for_end step = false

-- the counter of cards was seen at its end, and the count of empty packets as all
pub record SeesEnd (sh : Shape) (es : List Entry) : Type 0 where
  pub cards : IsTrue (some_event (sees_last_card (card_count sh)) es)
  pub empty : IsTrue (some_event (sees_all_empty (empty_offset + sh.packets)) es)

-- each allocation word was read as all ones, and is noted so
pub record SeesFull (sh : Shape) (v w : View) : Type 0 where
  pub seen : (b : ℕ) → b < block_count sh → IsTrue (some_event (reads_all_ones b) (events v w))
  pub noted : (b : ℕ) → b < block_count sh → look (alloc_at b) w.known ≡ Some all_ones

-- no block was claimed only if the heap is full, or if since the last cycle ended a block with a free cell was read and a search found none
abbrev pub HasMissed : Shape → Option Cache → List Entry → View → Type 0
HasMissed sh o es w = IfNone o (IsTrue (misses_block sh (since_last ends_cycle es)) ⊎ KnowsFull w)

-- a step of a mutator on the way to a block: it reads the numbers that pace a cycle, may begin one, and looks for a block
abbrev pub prepares : Step → Bool
prepares (ReadStat which) = true
prepares ReadCount = true
prepares (StorePhase Marking) = true
prepares (ClaimBlock b) = true
prepares ReadFree = true
prepares ReleaseBlock = true
prepares (AddStat which by down) = not (which == done_count)
prepares step = false

-- the seat knows that a cycle is marking, or that the heap is full
abbrev pub KnowsCycle : View → Type 0
KnowsCycle v = Known v the_phase (phase_number Marking) ⊎ Known v the_phase (phase_number Full)

-- by these events no cycle was due, or the seat knows that one is marking
abbrev pub IsPaced : List Entry → View → Type 0
IsPaced es v = IsTrue (was_not_due es) ⊎ KnowsCycle v

-- the last events of the call are those by which this cache was claimed, after the first ones
pub record EndsClaimed (h : Cache) (first : List Entry) (v w : View) : Type 0 where
  pub word : ℕ
  pub count : ℕ
  pub all : events v w ≡ first ++ claimed_by h word count
  pub free : 0 < ones h.cells

-- a mutator claimed this cache outside a stop, by its last events, with its position stored if it left the world before
pub record HasClaimed (h : Cache) (done : ℕ) (v w : View) : Type 0 where
  pub ran : Ran v w
  pub tells : TellsFull v w
  pub position : StoredAt done v w
  pub first : List Entry
  pub claimed : EndsClaimed h first v w
  pub paced : IsPaced first w

-- another round is to be made: the seat stopped the world or waited for another's stop, with its position stored; it is a mutator without a cache, and the heap
-- wasn't said to be full
pub record TriesOn (done : ℕ) (v w : View) : Type 0 where
  pub mutates : Mutates w
  pub cache : w.state.cache ≡ None
  pub position : w.own.position ≡ done
  pub tells : (u : View) → Ran u v → TellsFull u v → TellsFull u w
  pub spares : Only spares_part v w
  -- if it stopped the world itself, it missed a block with a free cell then
  pub missed : IsTrue (may_stop_again v.shape (events v w))
  pub ended : IsTrue (resumes_with_end (events v w))
  pub pops : IsTrue (pops_in_stops (events v w))

-- what a round leaves, whatever its answer
pub record IsRound (o : Option Refill) (done : ℕ) (v w : View) : Type 0 where
  pub ran : Ran v w
  pub only : Only keeps_section v w
  pub fills : IsTrue (fills_with_cause v.shape (events v w))
  pub again : IsTrue (stops_again_with_cause v.shape (events v w))
  pub collects : IsTrue (stops_collect (events v w))
  pub cycles : IsTrue (cycles_with_cause v.shape (events v w))
  pub none : IfNone o (TriesOn done v w)
  pub spares : IfSome o (λ r. SparesRefill r v w)

-- the seat may resume the world, with nothing in hand but perhaps a cache
pub record MayResume (v : View) : Type 0 where
  pub phase : Phase
  pub resting : IsTrue (is_resting (phase_number phase))
  pub alone : Alone phase v
  pub section : IsTrue (is_some v.state.section)
  pub unhelping : IsFalse v.state.helping
  pub rest : IsTrue (is_at_rest v.shape v.state)

-- in the stop a block was claimed, or none: then the heap is full, or it wasn't said to be; the position stayed
pub record ClaimsAlone (o : Option Cache) (v w : View) : Type 0 where
  pub ran : Ran v w
  pub only : Only keeps_section v w
  pub calm : IsTrue (never raises_flag (events v w))
  pub stopped : IsTrue (never resumes (events v w))
  pub going : IsFalse (saw_full (events v w))
  pub resume : MayResume w
  pub cached : HasCache o w
  pub position : w.own.position ≡ v.own.position
  pub some : IfSome o (λ h. Only spares_part v w × ((first : List Entry) × EndsClaimed h first v w))
  pub none : IfNone o (Only spares_part v w ⊎ KnowsFull w)

-- the seat that stopped the world is alone, with no cycle under way
pub record RestsAlone (v : View) : Type 0 where
  pub section : IsTrue (is_some v.state.section)
  pub unhelping : IsFalse v.state.helping
