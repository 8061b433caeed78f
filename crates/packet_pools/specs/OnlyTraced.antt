-- The steps that a call took, and what it leaves as it was.
use Rattle.std.specs.Prelude.{ℕ, ◌≡◌, ◌/◌, ◌%◌, ◌||◌, ◌==◌, [], Bool, true, false, Some, None, IsTrue, IsFalse}
use Rattle.mark_core.specs.Bits.{has_bit}
use Rattle.mark_core.specs.Cards.{block_cells}
use Rattle.mark_core.specs.Places.{the_empty_count, mark_at, card_at, head_at}
use Rattle.mark_core.specs.Notes.{same_place, steady, keeps_bound}
use Rattle.mark_core.specs.declared.kinds.Step.{Step}
use Rattle.mark_core.specs.declared.kinds.Step.TheVariants.{Reserve, Take, Give, Credit, Push, Pop, Look, ReadCount, ReadAlloc, ReadField, ReadRoot, SetMark, DirtyCard, ClearCard, ReadMarks, ReadCard, StoreLength, ReadLength, LoadSlot}
use Rattle.mark_core.specs.declared.seat.SeatState.{SeatState}
use Rattle.gc_table.specs.declared.view.View.{View}
use Rattle.gc_table.specs.Notes.{look}
use Rattle.gc_table.specs.Log.{events, Grows, Only}
use Rattle.gc_table.specs.Running.{Ran}
use Rattle.packet_pools.specs.Keeping.{all_keep}

-- the region of the mark bits
abbrev pub mark_region : ℕ
mark_region = (mark_at 0).0

-- the region of the cards
abbrev pub card_region : ℕ
card_region = (card_at 0).0

-- the region of the lengths of packets
abbrev pub head_region : ℕ
head_region = (head_at 0).0

-- the region of the entries of packets
abbrev pub entry_region : ℕ
entry_region = 8

-- the region of the pools
abbrev pub pool_region : ℕ
pool_region = 12

-- a word that tracing writes: the count of empty packets, mark bits, cards, and the heads, entries and pools of packets
abbrev pub is_traced : ℕ × ℕ → Bool
is_traced at = same_place at the_empty_count || (at.0 == mark_region) || (at.0 == card_region) || (at.0 == head_region) || (at.0 == entry_region) || (at.0 == pool_region)

-- the record without what tracing changes
abbrev pub rest_of : SeatState → SeatState
rest_of s =
    record s { held = []; reserved = false; credit = false; popped = None; scan = None; value = None; fresh = None; owes = None; cleaning = None }

-- the notes of other words stay
abbrev pub KeepsNotes : View → View → Type 0
KeepsNotes v w = (at : ℕ × ℕ) (n : ℕ) → IsFalse (is_traced at) → IsTrue (steady v.state at n) → look at v.known ≡ Some n → look at w.known ≡ Some n

-- the floors of counters that tracing does not write stay
abbrev pub KeepsFloors : View → View → Type 0
KeepsFloors v w = (at : ℕ × ℕ) (n : ℕ) → IsFalse (is_traced at) → IsTrue (keeps_bound v.state at) → look at v.floors ≡ Some n → look at w.floors ≡ Some n

-- the seat has noted that cell c is marked
abbrev pub IsNotedMarked : View → ℕ → Type 0
IsNotedMarked v c = (n : ℕ) × (look (mark_at (c / block_cells)) v.known ≡ Some n) × IsTrue (has_bit n (c % block_cells))

-- a step of tracing
abbrev pub traces_cells : Step → Bool
traces_cells Reserve = true
traces_cells (Take q p) = true
traces_cells (Give p deferred) = true
traces_cells Credit = true
traces_cells (Push p c) = true
traces_cells (Pop p) = true
traces_cells (Look q g) = true
traces_cells ReadCount = true
traces_cells (ReadAlloc b) = true
traces_cells (ReadField c i) = true
traces_cells (ReadRoot section v) = true
traces_cells (LoadSlot section k) = true
traces_cells (SetMark c) = true
traces_cells (DirtyCard card) = true
traces_cells (ClearCard card) = true
traces_cells (ReadMarks b) = true
traces_cells (ReadCard card) = true
traces_cells (StoreLength p) = true
traces_cells (ReadLength p) = true
traces_cells step = false

-- the seat traced, and did nothing else; if this is asked for, it lost no cell in hand
pub record OnlyTracedBy (strict : Bool) (v w : View) : Type 0 where
  pub shape : w.shape ≡ v.shape
  pub opened : w.opened ≡ v.opened
  pub plan : w.plan ≡ v.plan
  pub own : w.own ≡ v.own
  pub joined : w.joined ≡ v.joined
  pub rest : rest_of w.state ≡ rest_of v.state
  pub log : Grows v w
  pub notes : KeepsNotes v w
  pub floors : KeepsFloors v w
  pub ran : Ran v w
  pub only : Only traces_cells v w
  pub cells : IsTrue strict → IsTrue (all_keep v (events v w))

-- the seat traced: it lost no cell in hand, and did nothing else
abbrev pub OnlyTraced : View → View → Type 0
OnlyTraced v w = OnlyTracedBy true v w

-- the seat traced and cleaned cards, and did nothing else: a card that was cleaned may be dirtied again with no cell in hand
abbrev pub OnlyCleaned : View → View → Type 0
OnlyCleaned v w = OnlyTracedBy false v w
