-- A mutator's search for a cell in pieces: what a piece of it came to, where it left the seat, and how many steps were taken.
use Rattle.std.specs.Prelude.{ℕ, ◌≡◌, ◌<◌, ◌≤◌, ◌+◌, ◌*◌, ◌⊎◌, length, IfSome, IsTrue}
use Rattle.std.specs.Int.Count.{ones}
use Rattle.gc_table.specs.Log.{events}
use Rattle.gc_table.specs.Rule.{KnowsFull}
use Rattle.gc_table.specs.Running.{Ran}
use Rattle.gc_table.specs.Seats.{view_of}
use Rattle.gc_table.specs.declared.seat.Heap.{Heap}
use Rattle.gc_table.specs.declared.seat.HeapSeat.{HeapSeat}
use Rattle.gc_table.specs.declared.view.View.{View}
use Rattle.alloc_cache.specs.Caching.{IsCached}
use Rattle.alloc_cache.specs.declared.cache.Cache.{Cache}
use Rattle.mutator_ops.specs.Few.{AtMost}
use Rattle.gc_cycle.specs.declared.counts.Paid.{Paid}
use Rattle.plain_heap.specs.declared.operation.Op.{Op}
use Rattle.cache_refills.specs.Getting.{RefillsTo}
use Rattle.gc_cycle.specs.Statistics.{RoundNumbers}
use Rattle.cache_refills.specs.Pace.Pacing.{begins_where_due, card_looks}
use Rattle.cache_refills.specs.Pace.StepBounds.{payment_steps}
use Rattle.cache_refills.specs.Pieces.{IsShort, SeesTo, refill_of}
use Rattle.cache_refills.specs.declared.pieces.Piece.{Piece}
use Rattle.cache_refills.specs.declared.pieces.Piece.TheVariants as pieces
use Rattle.seat_turns.specs.Standing.{Halts, HoldsTurn, Works, flush_steps, plain_of}
use Rattle.seat_steps.specs.Causes.{FoundFull, FoundStop, GoesFreely, HasFree, PassesBy, PassesFreely}
use Rattle.seat_steps.specs.Doing.{Does}
use Rattle.seat_steps.specs.Pacing.{KeepsPace, Paces}
use Rattle.seat_steps.specs.Arriving.{LeavesWorld}
use Rattle.seat_steps.specs.declared.seeking.Sought.{Sought}
use Rattle.seat_steps.specs.declared.seeking.Sought.TheVariants as soughts
use Rattle.seat_steps.specs.declared.came.Came.{Came}
use Rattle.seat_steps.specs.declared.came.Came.TheVariants as cames

-- where a piece leaves the seat: with a cache that has a free cell, or without one
abbrev pub StandsAfter : Piece → Heap → HeapSeat → Type 0
StandsAfter (pieces.Cache h paid) heap s = Works heap s × IsCached h (view_of s) × (0 < ones h.cells)
StandsAfter (pieces.Next n) heap s = Halts heap s
StandsAfter pieces.Ended heap s = Halts heap s
StandsAfter pieces.MarkingDone heap s = Halts heap s
StandsAfter pieces.Full heap s = Halts heap s × KnowsFull (view_of s)

-- what a piece did that looks at this many blocks from this one on: which it saw, how many steps it took, up to the claim of a cache and with what was paid for it,
-- what it paid, that it began a cycle only where one was due, and the numbers
pub record TriesPiece (from most : ℕ) (piece : Piece) (v w : View) : Type 0 where
  pub sees : SeesTo from most piece v w
  pub short : IsShort 5 most piece (events v w)
  pub longest : length (events v w) ≤ 3 * most + 6 + payment_steps 1024 card_looks v.shape
  pub gets : IfSome (refill_of piece) (λ r. RefillsTo r v.state.made v w)
  pub due : IsTrue (begins_where_due (events v w))
  pub numbers : RoundNumbers (refill_of piece) v w

-- this many steps were taken at most, then a piece was made that came to this, and then what is so `Later`
pub record SeeksOnce (before : ℕ) (Later : View → View → Type 0) (from most : ℕ) (piece : Piece) (v w : View) : Type 0 where
  pub asked : View
  pub first : Ran v asked
  pub first_few : AtMost before v asked
  pub got : View
  pub ran : Ran asked got
  pub tries : TriesPiece from most piece asked got
  pub last : Ran got w
  pub later : Later got w
  pub paces : Paces v w

-- what the search came to: the mutator has a cache with a free cell, or is to go on, or no block is left, or marking is done. After the piece a look at the world
-- found no stop
abbrev pub SoughtBy : ℕ → ℕ → ℕ → Sought → View → View → Type 0
SoughtBy before from most soughts.Free v w = HasFree w.state.cache × ((h : Cache) × (paid : Paid) × SeeksOnce before GoesFreely from most (pieces.Cache h paid) v w)
SoughtBy before from most (soughts.Next n) v w = SeeksOnce before GoesFreely from most (pieces.Next n) v w
SoughtBy before from most soughts.Ended v w = SeeksOnce before GoesFreely from most pieces.Ended v w
SoughtBy before from most soughts.MarkingDone v w = SeeksOnce before GoesFreely from most pieces.MarkingDone v w

-- why the mutator left instead
abbrev pub FailsBy : ℕ → ℕ → ℕ → Came → View → View → Type 0
FailsBy before from most cames.Stopped v w = FoundStop v w × ((piece : Piece) × SeeksOnce before (AtMost 8) from most piece v w)
FailsBy before from most cames.Full v w = FoundFull v w × ((piece : Piece) × SeeksOnce before (AtMost 8) from most piece v w)
FailsBy before from most c v w = ⊥

-- what a step of a refill came to: the cache had a free cell, and nothing was done, or a cache without one was given up first
abbrev pub RefillsBy : ℕ → ℕ → Sought → View → View → Type 0
RefillsBy from most soughts.Free v w = HasFree w.state.cache × ((w ≡ v) ⊎ ((h : Cache) × (paid : Paid) × SeeksOnce (flush_steps v + 3) GoesFreely from most (pieces.Cache h paid) v w))
RefillsBy from most sought v w = SoughtBy (flush_steps v + 3) from most sought v w

-- why the mutator left instead, which stored the roots that lagged, and gave up its cache first
abbrev pub RefillFailsBy : ℕ → ℕ → Came → View → View → Type 0
RefillFailsBy from most c v w = FailsBy (flush_steps v + 3) from most c v w

-- a safe point found no stop, and an object was made of a cell that was free in the seat's cache, by this many steps at most
pub record MakesOwn (v w : View) : Type 0 where
  pub had : HasFree v.state.cache
  pub passed : View
  pub passes : PassesFreely v passed
  pub ran : Ran passed w
  pub few : AtMost (v.shape.fields + 5) v w
  pub paces : KeepsPace v w

-- what a mutator found that was to make an object of its cache
abbrev pub CachedBy : Came → View → View → Type 0
CachedBy cames.Done v w = MakesOwn v w
CachedBy cames.NoCache v w = PassesFreely v w × (HasFree v.state.cache → ⊥)
CachedBy cames.Stopped v w = PassesBy cames.Stopped v w
CachedBy cames.Full v w = PassesBy cames.Full v w
CachedBy c v w = ⊥

-- where it is then
abbrev pub MakesHere : Came → Op → Heap → HeapSeat → HeapSeat → Type 0
MakesHere cames.Done op h x y = HoldsTurn h y × Does op h x y
MakesHere cames.NoCache op h x y = HoldsTurn h y × (plain_of y ≡ plain_of x)
MakesHere c op h x y = LeavesWorld c h y × (plain_of y ≡ plain_of x)
