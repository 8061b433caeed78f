-- What the events of a cleaning tell.
use Rattle.std.specs.Prelude.{ℕ, ◌≡◌, ◌+◌, ◌*◌, ◌≤◌, ◌⊎◌, ◌==◌, ◌||◌, not, if◌then◌else◌, nat_lt, List, [], ◌∷◌, ◌++◌, length, Bool, true, false, Some, bit_and}
use Rattle.mark_core.specs.Bits.{complement}
use Rattle.mark_core.specs.declared.kinds.Shape.{Shape}
use Rattle.mark_core.specs.declared.kinds.Step.{Step}
use Rattle.mark_core.specs.declared.kinds.Step.TheVariants.{ClearCard, DirtyCard, ReadAlloc, ReadMarks}
use Rattle.gc_table.specs.declared.view.Entry.{Entry}
use Rattle.gc_table.specs.declared.view.View.{View}
use Rattle.gc_table.specs.Log.{events, event}
use Rattle.packet_pools.specs.Counts.{count_of, dirties, marks_white, pushes}
use Rattle.card_clean.specs.declared.cleaned.Cleaned.{Cleaned}
use Rattle.card_clean.specs.Cells.{cells_of_card}
use Rattle.card_clean.specs.Rescanning.{Rescans, seen_cells}
use Rattle.card_clean.specs.Taking.{CleansWithPacket}
use Rattle.mark_core.specs.Cards.{block_of_card, card_bits}

-- a card was cleared, whether it was dirty or clean
abbrev pub clears : Step → ℕ → Bool
clears (ClearCard card) found = true
clears step found = false

-- what went into packets, and was left to cards that were dirtied, is at most twice what was found white
abbrev pub SpillsWhite : List Entry → Type 0
SpillsWhite es = count_of pushes es + count_of dirties es ≤ 2 * count_of marks_white es

-- the card has a marked cell that isn't published, by the mark and allocation bits of its block
abbrev pub has_unpublished : ℕ → ℕ → ℕ → Bool
has_unpublished card marks allocs = not (bit_and (bit_and marks (card_bits card)) (complement allocs) == 0)

-- the marked cells of the card that are published, by the same bits
abbrev pub published_cells : ℕ → ℕ → ℕ → ℕ
published_cells card marks allocs = bit_and (bit_and marks (card_bits card)) allocs

-- the seat read the bits of the block of the card that it just cleaned: these cells are left
pub record LearnsCells (card left : ℕ) (debt : Bool) (v w : View) : Type 0 where
  pub marks : ℕ
  pub allocs : ℕ
  pub left_is : left ≡ published_cells card marks allocs
  pub debt_is : debt ≡ has_unpublished card marks allocs
  pub state : w.state ≡ record v.state { cleaning = Some (seen_cells card left debt) }
  pub events_are : events v w ≡ event (ReadMarks (block_of_card card)) marks ∷ event (ReadAlloc (block_of_card card)) allocs ∷ []

-- the card was found clean: nothing else was done
pub record FoundClean (card : ℕ) (r : Cleaned) (es : List Entry) : Type 0 where
  pub result : r ≡ record { rescanned = 0; redirtied = false }
  pub events_are : es ≡ event (ClearCard card) 0 ∷ []

-- a card that was found dirty: its marked published cells were scanned again, and then it was dirtied if it has a marked cell that isn't published, or if
-- a cell found no packet
pub record RescansCard (sh : Shape) (card : ℕ) (r : Cleaned) (es : List Entry) : Type 0 where
  pub marks : ℕ
  pub allocs : ℕ
  pub scan : List Entry
  pub lost : ℕ
  pub events_are : es ≡ event (ReadMarks (block_of_card card)) marks ∷ event (ReadAlloc (block_of_card card)) allocs ∷ (scan ++ (if r.redirtied then event (DirtyCard card) 1 ∷ [] else []))
  pub rescans : Rescans sh (cells_of_card card (published_cells card marks allocs)) lost scan
  pub rescanned : r.rescanned ≡ length (cells_of_card card (published_cells card marks allocs))
  pub redirtied : r.redirtied ≡ (has_unpublished card marks allocs || nat_lt 0 lost)

-- the card was found dirty and cleared, and then its cells were scanned again
abbrev pub FoundDirty : Shape → ℕ → Cleaned → List Entry → Type 0
FoundDirty sh card r es = (rest : List Entry) × (es ≡ event (ClearCard card) 1 ∷ rest) × RescansCard sh card r rest

-- the card was found clean; or it was found dirty, cleared, and its cells were scanned again
abbrev pub Cleans : Shape → ℕ → Cleaned → List Entry → Type 0
Cleans sh card r es = FoundClean card r es ⊎ FoundDirty sh card r es

-- the card was cleaned with a packet that was taken for it and given back
abbrev pub CleansOne : Shape → ℕ → Cleaned → List Entry → Type 0
CleansOne sh card r es = CleansWithPacket sh (Cleans sh card r) es
