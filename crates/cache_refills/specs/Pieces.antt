-- A refill in pieces: what each of them saw, how long it was, and when several of them give cause for a collection.
use Rattle.std.specs.Prelude.{ℕ, ◌≡◌, ◌<◌, ◌≤◌, ◌+◌, ◌-◌, ◌*◌, ◌==◌, ◌&&◌, ◌||◌, List, [], length, Bool, false, Option, Some, None, IsTrue}
use Rattle.std.specs.List.{range_with_len}
use Rattle.mark_core.specs.Layout.{block_count}
use Rattle.mark_core.specs.Numbers.{free_count}
use Rattle.mark_core.specs.declared.kinds.Shape.{Shape}
use Rattle.mark_core.specs.declared.kinds.Step.{Step}
use Rattle.mark_core.specs.declared.kinds.Step.TheVariants.{AddStat}
use Rattle.gc_table.specs.Log.{events}
use Rattle.gc_table.specs.Running.{Ran}
use Rattle.gc_table.specs.declared.view.Entry.{Entry}
use Rattle.gc_table.specs.declared.view.View.{View}
use Rattle.alloc_cache.specs.Claiming.{blocks_tried, seen_taken}
use Rattle.gc_cycle.specs.declared.counts.Refill.{Refill}
use Rattle.gc_cycle.specs.declared.counts.Refill.TheVariants as refills
use Rattle.gc_cycle.specs.Events.{before_last, never, since_or_all}
use Rattle.gc_cycle.specs.Sorts.{claims, comes_in}
use Rattle.cache_refills.specs.Stops.{marking_done, no_block, this_visit}
use Rattle.cache_refills.specs.declared.pieces.Piece.{Piece}
use Rattle.cache_refills.specs.declared.pieces.Piece.TheVariants as pieces

-- the answer of a refill that a piece came to, if it did
abbrev pub refill_of : Piece → Option Refill
refill_of (pieces.Cache h paid) = Some (refills.Cache h paid)
refill_of (pieces.Next n) = None
refill_of pieces.Ended = None
refill_of pieces.MarkingDone = None
refill_of pieces.Full = Some refills.Full

-- the number of free cells was lowered: the seat got a block with a free cell
abbrev pub takes_cells : Step → ℕ → Bool
takes_cells (AddStat which by down) found = (which == free_count) && down
takes_cells step found = false

-- since the seat last came into the running world, and last got a block with a free cell, each block was seen without one: by one search or by pieces of it
abbrev pub round_failed : Shape → List Entry → Bool
round_failed sh es = no_block sh (since_or_all takes_cells (this_visit es))

-- these events call for a collection, if the search was in pieces: there was no block to make cells in, or marking was done
abbrev pub may_collect : Shape → List Entry → Bool
may_collect sh es = round_failed sh es || marking_done sh es

-- since u the seat neither came in nor got a block with a free cell, and each block below this one was seen without one
pub record SeenBelow (n : ℕ) (u v : View) : Type 0 where
  pub ran : Ran u v
  pub inside : IsTrue (never comes_in (events u v))
  pub without : IsTrue (never takes_cells (events u v))
  pub seen : (b : ℕ) → b < n → IsTrue (seen_taken b (events u v))

-- the blocks from lo on and below hi were tried in this order, and no other; each was seen without a free cell
pub record SeesBlocks (lo hi : ℕ) (v w : View) : Type 0 where
  pub order : lo ≤ hi
  pub inside : IsTrue (never comes_in (events v w))
  pub without : IsTrue (never takes_cells (events v w))
  pub seen : (b : ℕ) → lo ≤ b → b < hi → IsTrue (seen_taken b (events v w))
  pub tried : blocks_tried (events v w) ≡ range_with_len lo (hi - lo)

-- the blocks from lo on were tried in this order up to block b, which is below hi, and no other; each of them but b was seen without a free cell
pub record FindsBlock (lo hi b : ℕ) (v w : View) : Type 0 where
  pub within : (lo ≤ b) × (b < hi)
  pub before : (k : ℕ) → lo ≤ k → k < b → IsTrue (seen_taken k (events v w))
  pub tried : blocks_tried (events v w) ≡ range_with_len lo (b + 1 - lo)

-- no block was tried, and no cell was taken
pub record LeavesBlocks (v w : View) : Type 0 where
  pub untried : blocks_tried (events v w) ≡ []
  pub without : IsTrue (never takes_cells (events v w))

-- what a piece saw that looks at this many blocks from this one on: some of them, or that marking was done
abbrev pub SeesTo : ℕ → ℕ → Piece → View → View → Type 0
SeesTo from most (pieces.Cache h paid) v w = FindsBlock from (from + most) h.block v w
SeesTo from most (pieces.Next n) v w = (n ≡ from + most) × (n < block_count v.shape) × SeesBlocks from n v w
SeesTo from most pieces.Ended v w = (block_count v.shape ≤ from + most) × SeesBlocks from (block_count v.shape) v w
SeesTo from most pieces.MarkingDone v w = (blocks_tried (events v w) ≡ []) × IsTrue (marking_done v.shape (events v w))
SeesTo from most pieces.Full v w = length (blocks_tried (events v w)) ≤ most

-- what pieces come to of which this is the last: the next goes on from there, or a collection is called for
abbrev pub ComesTo : Piece → View → View → Type 0
ComesTo (pieces.Cache h paid) u w = Unit {0}
ComesTo (pieces.Next n) u w = SeenBelow n u w
ComesTo pieces.Ended u w = IsTrue (may_collect w.shape (events u w))
ComesTo pieces.MarkingDone u w = IsTrue (may_collect w.shape (events u w))
ComesTo pieces.Full u w = Unit {0}

-- how many steps a piece takes that looks at this many blocks, after this many others: with a cache up to its claim, after which it is paid for
abbrev pub IsShort : ℕ → ℕ → Piece → List Entry → Type 0
IsShort before most (pieces.Cache h paid) es = length (before_last claims es) ≤ before + 3 * most
IsShort before most (pieces.Next n) es = length es ≤ before + 3 * most
IsShort before most pieces.Ended es = length es ≤ before + 3 * most
IsShort before most pieces.MarkingDone es = length es ≤ before
IsShort before most pieces.Full es = length es ≤ before + 3 * most + 5
