-- What a seat that is alone has noted by the end of a drain.
use Rattle.std.specs.Prelude.{ℕ, ◌≡◌, ◌≢◌, ◌≤◌, ◌<◌, ◌+◌, ◌-◌, ◌*◌, ◌⊎◌, List, [], ◌∷◌, ◌++◌, Bool, true, false, Some, IsTrue, IsFalse}
use Rattle.mark_core.specs.Layout.{card_count, root_count}
use Rattle.mark_core.specs.Numbers.{deferred_pool_number, empty_offset, high_pool_number, low_pool_number, section_variables}
use Rattle.mark_core.specs.Places.{the_empty_count, the_next_block, card_at}
use Rattle.mark_core.specs.Seats.{empty_handed, work_in_hand}
use Rattle.mark_core.specs.declared.kinds.Phase.TheVariants.{Drain}
use Rattle.mark_core.specs.declared.kinds.Shape.{Shape}
use Rattle.mark_core.specs.declared.kinds.Step.{Step}
use Rattle.mark_core.specs.declared.kinds.Step.TheVariants.{LoadSlot, ReadCount, ReadField, ReadRoot}
use Rattle.gc_table.specs.declared.view.Entry.{Entry}
use Rattle.gc_table.specs.declared.view.View.{View}
use Rattle.gc_table.specs.Log.{event}
use Rattle.gc_table.specs.Notes.{look}
use Rattle.gc_table.specs.Running.{Alone}
use Rattle.packet_pools.specs.Counts.{scans_object}
use Rattle.packet_pools.specs.OnlyTraced.{IsNotedMarked}
use Rattle.packet_pools.specs.Outside.{AreNotedOutside}
use Rattle.card_clean.specs.Looking.{looks_clean, looks_dirty}

-- the cards from this one on and below that one are noted as clean
abbrev pub AreNotedClean : ℕ → ℕ → View → Type 0
AreNotedClean from to v = (card : ℕ) → from ≤ card → card < to → look (card_at card) v.known ≡ Some 0

-- a step of seeing to roots: one is read, or what it refers to is marked and goes into a packet; no cell is taken out of one, and no field read
abbrev pub sees_roots : Step → Bool
sees_roots (ReadRoot section v) = true
sees_roots (LoadSlot section k) = true
sees_roots (ReadField c i) = false
sees_roots step = scans_object step

-- root word i is noted as nil, or as naming a cell that is noted as marked
pub record IsNotedRoot (i : ℕ) (v : View) : Type 0 where
  pub word : ℕ
  pub noted : look (2, i) v.known ≡ Some word
  pub marked : (word ≡ 0) ⊎ IsNotedMarked v (word - 1)

-- the root word of slot k of a section
abbrev pub slot_index : Shape → ℕ → ℕ → ℕ
slot_index sh section k = sh.sections * section_variables + (section * sh.slots + k)

-- the root words from this one on and below that one are each noted as nil, or as naming a cell that is noted as marked
abbrev pub RootsBetween : ℕ → ℕ → View → Type 0
RootsBetween from to v = (i : ℕ) → from ≤ i → i < to → IsNotedRoot i v

-- the root that the step read
abbrev pub roots_read : Shape → Step → ℕ → List ℕ
roots_read sh (ReadRoot section v) found = (section * section_variables + v) ∷ []
roots_read sh (LoadSlot section k) found = slot_index sh section k ∷ []
roots_read sh step found = []

-- each of the first n root words is noted as nil, or as naming a cell that is noted as marked
abbrev pub RootsTo : ℕ → View → Type 0
RootsTo n v = (i : ℕ) → i < n → IsNotedRoot i v

-- the seat is alone in a drain, and knows that no block was handed out
pub record IsBeforeSweep (v : View) : Type 0 where
  pub drains : Alone Drain v
  pub next_block : look the_next_block v.known ≡ Some 0

-- the seat is alone in a drain before the sweep, and has noted that every root is nil or names a marked cell
pub record IsRooted (v : View) : Type 0 where
  pub ready : IsBeforeSweep v
  pub roots : RootsTo (root_count v.shape) v

-- the seat has noted that every root is nil or names a marked cell, that each card is clean, and that all packets are empty; it has no work in hand
pub record IsDrained (v : View) : Type 0 where
  pub rooted : IsRooted v
  pub cards : AreNotedClean 0 (card_count v.shape) v
  pub empty : look the_empty_count v.known ≡ Some (empty_offset + v.shape.packets)
  pub work : IsFalse (work_in_hand v.shape.fields v.state)

-- the seat has noted that each card is clean, and that no packet is in a pool for those with entries; it has none in hand, and none is reserved or owed
pub record IsSettled (v : View) : Type 0 where
  pub cards : AreNotedClean 0 (card_count v.shape) v
  pub low : AreNotedOutside low_pool_number v
  pub high : AreNotedOutside high_pool_number v
  pub deferred : AreNotedOutside deferred_pool_number v
  pub hands : IsTrue (empty_handed v.state)

-- a dirty card was found, or no dirty card and another count of empty packets than that of all
abbrev pub FindsWork : Shape → List Entry → Type 0
FindsWork sh es =
    ((card : ℕ) × (card < card_count sh) × (es ≡ looks_dirty 0 card))
    ⊎ ((n : ℕ) × (n ≢ empty_offset + sh.packets) × (es ≡ looks_clean 0 (card_count sh) ++ event ReadCount n ∷ []))

-- no dirty card was found, and after that the count of empty packets was that of all
abbrev pub FindsNoDirtyCard : Shape → List Entry → Type 0
FindsNoDirtyCard sh es = es ≡ looks_clean 0 (card_count sh) ++ event ReadCount (empty_offset + sh.packets) ∷ []
