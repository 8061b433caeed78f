-- What a piece of a collection did: this many of the roots, objects, cards or blocks.
use Rattle.std.specs.Prelude.{ℕ, ◌≡◌, ◌≢◌, ◌≤◌, ◌<◌, ◌+◌, ◌⊎◌, [], ◌∷◌, ◌++◌}
use Rattle.std.specs.List.{range_with_len}
use Rattle.mark_core.specs.Layout.{block_count, card_count}
use Rattle.mark_core.specs.Numbers.{block_counter, card_counter, empty_offset}
use Rattle.mark_core.specs.declared.kinds.Phase.TheVariants.{Clear, Drain, Idle, Sweep}
use Rattle.mark_core.specs.declared.kinds.Step.TheVariants.{CloseStep, OpenStep, ReadCount, Reset, SeeHelp}
use Rattle.gc_table.specs.Log.{Only, event, events}
use Rattle.gc_table.specs.Seats.{Took}
use Rattle.gc_table.specs.declared.view.View.{View}
use Rattle.packet_pools.specs.Counts.{count_of}
use Rattle.packet_pools.specs.Fields.{picked}
use Rattle.card_clean.specs.Drained.{roots_read, sees_roots}
use Rattle.card_clean.specs.Looking.{looks_clean}
use Rattle.gc_cycle.specs.Courses.{TakesCourse}
use Rattle.gc_cycle.specs.Finishing.{IsMove, IsOpenPart, IsPart}
use Rattle.gc_cycle.specs.Pieces.{CleansCards}
use Rattle.gc_cycle.specs.Sorts.{draws_block, pops}
use Rattle.gc_cycle.specs.RoundParts.{BringsBack, LacksPacket}
use Rattle.gc_cycle.specs.Turns.{DrainsFor}

-- this many roots from this one on were read, each once and in their order, and nothing else was done but to mark what they refer to
pub record SeesRoots (from n : ℕ) (v w : View) : Type 0 where
  pub part : IsPart Drain v w
  pub only : Only sees_roots v w
  pub reads : picked (roots_read v.shape) (events v w) ≡ range_with_len from n

-- what was deferred was brought back, and this many objects were popped and no more, or fewer, and then at some moment there was none to pop
pub record TracesFor (most : ℕ) (v w : View) : Type 0 where
  pub part : IsPart Drain v w
  pub brings : BringsBack v w
  pub worked : DrainsFor most v w
  pub at_most : count_of pops (events v w) ≤ most

-- each card from this one on was seen clean, and then the count of empty packets said this many
abbrev pub LooksToEnd : ℕ → ℕ → View → View → Type 0
LooksToEnd from n v w = events v w ≡ looks_clean from (card_count v.shape) ++ event ReadCount n ∷ []

-- each card from this one on was seen clean, and then the count said that a packet isn't empty
abbrev pub FindsPacketLeft : ℕ → View → View → Type 0
FindsPacketLeft from v w = (n : ℕ) × (n ≢ empty_offset + v.shape.packets) × LooksToEnd from n v w

-- each card from this one on was seen clean, and all packets were empty; then the clearing of all marks began
pub record BeginsClear (from : ℕ) (v w : View) : Type 0 where
  pub drained : View
  pub looks : LooksToEnd from (empty_offset + v.shape.packets) v drained
  pub moved : IsMove Drain Clear drained w

-- each card from this one on was seen clean, and all packets were empty; then the sweep began, and the stop was opened to helpers
pub record BeginsSweep (from : ℕ) (v w : View) : Type 0 where
  pub drained : View
  pub looks : LooksToEnd from (empty_offset + v.shape.packets) v drained
  pub begun : View
  pub moved : IsMove Drain Sweep drained begun
  pub opens : Took OpenStep begun w

-- the marks of fewer stretches of blocks than this many were cleared, which were all that were left, and then the drain began once more
pub record BeginsAgain (most : ℕ) (v w : View) : Type 0 where
  pub cleared : View
  pub part : IsPart Clear v cleared
  pub stretches : count_of (draws_block (block_count v.shape)) (events v cleared) < most
  pub course : TakesCourse (Drain ∷ []) (Reset card_counter ∷ Reset block_counter ∷ []) cleared w

-- this many roots from this one on were seen to, and then the stop was opened to helpers
pub record BeginsSharing (from n : ℕ) (v w : View) : Type 0 where
  pub rooted : View
  pub sees : SeesRoots from n v rooted
  pub opens : Took OpenStep rooted w

-- what was deferred was brought back, and this many objects were popped and no more, or fewer, and then at some moment there was none to pop; helpers might trace
-- too
pub record SharesFor (most : ℕ) (v w : View) : Type 0 where
  pub part : IsOpenPart Drain v w
  pub brings : BringsBack v w
  pub worked : DrainsFor most v w
  pub at_most : count_of pops (events v w) ≤ most

-- fewer were popped, and then the count said that a packet isn't empty
pub record LeavesPacket (most : ℕ) (v w : View) : Type 0 where
  pub traced : View
  pub traces : SharesFor most v traced
  pub found : ℕ
  pub left : found ≢ empty_offset + v.shape.packets
  pub looks : events traced w ≡ event ReadCount found ∷ []

-- fewer were popped, the count said that all packets are empty, and then no more helpers were let in
pub record EndsSharing (most : ℕ) (v w : View) : Type 0 where
  pub traced : View
  pub traces : SharesFor most v traced
  pub looked : View
  pub looks : events traced looked ≡ event ReadCount (empty_offset + v.shape.packets) ∷ []
  pub shuts : Took CloseStep looked w

-- one look at the helpers found none, and then the roots were to be seen to once more
pub record DrainsAlone (v w : View) : Type 0 where
  pub alone : View
  pub looks : events v alone ≡ event SeeHelp 0 ∷ []
  pub course : TakesCourse [] (Reset block_counter ∷ []) alone w

-- the last blocks were swept, and then no more helpers were let in
pub record EndsSweep (v w : View) : Type 0 where
  pub swept : View
  pub part : IsOpenPart Sweep v swept
  pub shuts : Took CloseStep swept w

-- one look at the helpers found that some are left
pub record FindsHelpers (v w : View) : Type 0 where
  pub found : ℕ
  pub some : found ≢ 0
  pub all : events v w ≡ event SeeHelp found ∷ []

-- one look at the helpers found none, and then the cycle ended
pub record EndsAlone (v w : View) : Type 0 where
  pub alone : View
  pub looks : events v alone ≡ event SeeHelp 0 ∷ []
  pub moved : IsMove Sweep Idle alone w

-- at most this many roots from this one on were seen to, or none, since no packet was found for it
abbrev pub SeesFewRoots : ℕ → ℕ → View → View → Type 0
SeesFewRoots from most v w = ((n : ℕ) × (n ≤ most) × SeesRoots from n v w) ⊎ LacksPacket v w

-- at most this many cards from this one on were looked at, and cleaned if they were dirty, or none, since no packet was found for it
abbrev pub CleansFewCards : ℕ → ℕ → View → View → Type 0
CleansFewCards from most v w = ((n : ℕ) × (n ≤ most) × CleansCards from n v w) ⊎ LacksPacket v w
