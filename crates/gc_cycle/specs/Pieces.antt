-- Where the seat stands between the pieces of a collection, and what each of them did.
use Rattle.std.specs.Prelude.{ℕ, ◌≡◌, ◌≢◌, ◌≤◌, ◌<◌, ◌+◌, ◌-◌, ◌==◌, max, min, ◌*◌, ◌/◌, List, [], ◌∷◌, Bool, is_some, IsTrue}
use Rattle.mark_core.specs.Cards.{block_cells}
use Rattle.mark_core.specs.Layout.{block_count, card_count}
use Rattle.mark_core.specs.Numbers.{empty_offset}
use Rattle.mark_core.specs.Places.{alloc_at}
use Rattle.mark_core.specs.declared.kinds.Phase.TheVariants.{Clear, Idle}
use Rattle.mark_core.specs.declared.kinds.Shape.{Shape}
use Rattle.mark_core.specs.declared.kinds.Step.TheVariants.{ReadCount}
use Rattle.gc_table.specs.Log.{event, events}
use Rattle.gc_table.specs.Notes.{look}
use Rattle.gc_table.specs.Running.{Ran}
use Rattle.gc_table.specs.declared.view.Entry.{Entry}
use Rattle.gc_table.specs.declared.view.View.{View}
use Rattle.card_clean.specs.DirtyCards.{CleanedFrom}
use Rattle.card_clean.specs.Drained.{AreNotedClean}
use Rattle.card_clean.specs.Looking.{looks_clean, looks_dirty}
use Rattle.card_clean.specs.Taking.{CleansWithPacket}
use Rattle.sweeper.specs.Freeing.{block_floor}
use Rattle.gc_cycle.specs.Cycles.{collects_exactly}
use Rattle.gc_cycle.specs.Finishing.{IsAloneIn, ones_noted}
use Rattle.gc_cycle.specs.Moments.{begins}
use Rattle.gc_cycle.specs.Stepping.{Drains, IsAtRoots, IsOwner, notes_root}
use Rattle.gc_cycle.specs.declared.card_steps.Look.{Look}
use Rattle.gc_cycle.specs.declared.card_steps.Look.TheVariants as looks

-- how many stretches have no more blocks than this between them, but at least one
abbrev pub stretches_in : Shape → ℕ → ℕ
stretches_in sh blocks = max (blocks / sh.stretch) 1

-- alone in a clearing of marks, it hands out blocks
pub record IsAtClear (v : View) : Type 0 where
  pub owner : IsOwner v
  pub alone : IsAloneIn Clear v

-- the seat is alone in a clearing of marks, and has noted that every block was handed out
pub record HasCleared (v : View) : Type 0 where
  pub clears : IsAtClear v
  pub end : block_count v.shape ≤ block_floor v

-- alone in a drain, it sees to the roots from this one on: each root below it is noted as nil, or as naming a cell that is noted as marked
pub record SeesRootsFrom (from : ℕ) (v : View) : Type 0 where
  pub roots : IsAtRoots v
  pub below : (i : ℕ) → i < from → IsTrue (notes_root i v)

-- alone in a drain, with the roots seen to, it looks at the cards from this one on: each card below it is noted as clean
pub record LooksFrom (from : ℕ) (v : View) : Type 0 where
  pub drains : Drains v
  pub below : AreNotedClean 0 from v

-- alone in a drain, with the roots seen to, it has noted that each card is clean
pub record HasLooked (v : View) : Type 0 where
  pub drains : Drains v
  pub cards : AreNotedClean 0 (card_count v.shape) v

-- a look at this many cards, from this one on, saw each of them clean, and fewer only if there are no more; or it saw one dirty, after those that are clean
abbrev pub LooksAt : Shape → ℕ → ℕ → Look → List Entry → Type 0
LooksAt sh from most (looks.Clean n) es = (n ≡ min most (card_count sh - from)) × (es ≡ looks_clean from (from + n))
LooksAt sh from most (looks.Dirty card) es = (from ≤ card) × (card < from + most) × (card < card_count sh) × (es ≡ looks_dirty from card)

-- where such a look leaves the seat
abbrev pub StandsAfter : ℕ → ℕ → Look → View → Type 0
StandsAfter from most (looks.Clean n) v = LooksFrom (from + n) v × (n ≢ most → HasLooked v)
StandsAfter from most (looks.Dirty card) v = Drains v

-- the count of empty packets was read, and this is whether it said all packets
abbrev pub ReadsCount : Bool → View → View → Type 0
ReadsCount all v w = (n : ℕ) × (events v w ≡ event ReadCount n ∷ []) × (all ≡ (n == empty_offset + v.shape.packets))

-- with a packet that was taken for it, this many cards from this one on were each seen clean, or seen dirty and cleaned
abbrev pub CleansCards : ℕ → ℕ → View → View → Type 0
CleansCards from n v w = (rescanned : ℕ) × CleansWithPacket v.shape (CleanedFrom v.shape from n rescanned) (events v w)

-- alone in a stop after the sweep, it counts the cells in use, of the blocks from this one on: this many are in the blocks below it, whose allocation bits are noted
pub record CountsFrom (from counted : ℕ) (v : View) : Type 0 where
  pub owner : IsOwner v
  pub alone : IsAloneIn Idle v
  pub within : from ≤ block_count v.shape
  pub noted : (b : ℕ) → b < from → IsTrue (is_some (look (alloc_at b) v.known))
  pub count : counted ≡ ones_noted from v
  pub bound : counted ≤ block_cells * from

-- the cells in use of all blocks are counted
abbrev pub HasCounted : ℕ → View → Type 0
HasCounted counted v = CountsFrom (block_count v.shape) counted v

-- since then a drain began with no cell marked, and its cycle ended
pub record HasCollectedSince (v w : View) : Type 0 where
  pub ran : Ran v w
  pub collects : IsTrue (collects_exactly v.shape (begins v) (events v w))
