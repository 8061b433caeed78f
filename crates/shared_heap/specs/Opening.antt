-- The seats of a new shared heap, and what the seat of section 0 comes to while it makes the root and moves the season on.
use Rattle.std.specs.Prelude.{ℕ, ◌≡◌, List, None, Some, IsFalse, length}
use Rattle.mark_core.specs.declared.kinds.Phase.TheVariants.{Idle}
use Rattle.mark_core.specs.declared.kinds.Shape.{Shape}
use Rattle.plain_heap.specs.PlainHeap.{Heap as PlainHeap, empty_heap}
use Rattle.alloc_cache.specs.Caching.{IsCached}
use Rattle.alloc_cache.specs.declared.cache.Cache.{Cache}
use Rattle.gc_table.specs.PlainSteps.{HasSeenPhase}
use Rattle.gc_table.specs.Running.{Alone}
use Rattle.gc_table.specs.Seats.{Sits, view_of}
use Rattle.gc_table.specs.Sections.{planned}
use Rattle.gc_table.specs.declared.seat.Heap.{Heap}
use Rattle.gc_table.specs.declared.seat.HeapSeat.{HeapSeat}
use Rattle.gc_table.specs.declared.view.View.{View}
use Rattle.gc_cycle.specs.Standing.{IsAlone, Mutates}
use Rattle.mutator_ops.specs.Sharing.{SharesReady}
use Rattle.managed_heap.specs.WorldOpening.{AreNewOf, IsNewSeatOf}
use Rattle.shared_heap.specs.Planning.{root_plan}

-- seat k of the heap has done nothing
abbrev pub IsNewSeat : Heap → ℕ → HeapSeat → Type 0
IsNewSeat = IsNewSeatOf root_plan

-- so are these, counted from k
abbrev pub AreNew : Heap → ℕ → List HeapSeat → Type 0
AreNew = AreNewOf root_plan

-- the seat of section 0 in the first season: what it keeps of its section is this plain heap
pub record IsFirst (p : PlainHeap) (v : View) : Type 0 where
  pub section : v.state.section ≡ Some 0
  pub plan : v.plan ≡ root_plan
  pub seasons : v.own.seasons ≡ 0
  pub heap : v.own.meaning.heap ≡ p
  pub counted : length p.objects ≡ v.state.made

-- before it has made anything
abbrev pub empty_in : Shape → PlainHeap
empty_in sh = empty_heap sh.fields 0

-- what its plan says of the first turn
abbrev pub rooted_in : Shape → PlainHeap
rooted_in sh = planned sh root_plan 1

-- it is inside, at its turn, and has made nothing
pub record IsAtFirstTurn (h : Heap) (s : HeapSeat) : Type 0 where
  pub sits : Sits h s
  pub first : IsFirst (empty_in h.shape) (view_of s)
  pub mutates : Mutates (view_of s)
  pub cache : (view_of s).state.cache ≡ None
  pub seen : HasSeenPhase (view_of s).state
  pub turn : (view_of s).state.season_seen ≡ Some 0

-- and it has a cache
pub record HasFirstCache (h : Heap) (cache : Cache) (s : HeapSeat) : Type 0 where
  pub sits : Sits h s
  pub first : IsFirst (empty_in h.shape) (view_of s)
  pub cached : IsCached cache (view_of s)
  pub ready : SharesReady (view_of s)
  -- without the cache it would be a mutator between two calls
  pub mutates : (w : View) → w.shape ≡ (view_of s).shape → w.state ≡ record (view_of s).state { cache = None; made = w.state.made; env = w.state.env } → Mutates w

-- it has made the root, and has no cache any more
pub record HasRoot (h : Heap) (s : HeapSeat) : Type 0 where
  pub sits : Sits h s
  pub first : IsFirst (rooted_in h.shape) (view_of s)
  pub mutates : Mutates (view_of s)
  pub cache : (view_of s).state.cache ≡ None

-- it is alone in a stop with nothing in hand, and no cycle is under way
pub record IsAloneInIdle (h : Heap) (s : HeapSeat) : Type 0 where
  pub sits : Sits h s
  pub rest : IsAlone (view_of s)
  pub unhelping : IsFalse (view_of s).state.helping
  pub alone : Alone Idle (view_of s)

-- and it has made the root
pub record StopsWithRoot (h : Heap) (s : HeapSeat) : Type 0 where
  pub idle : IsAloneInIdle h s
  pub first : IsFirst (rooted_in h.shape) (view_of s)
