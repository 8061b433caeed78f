-- How often fields are read in a run, and how often the cells that they name are marked, or found marked.
use Rattle.std.specs.Prelude.{ℕ, ◌+◌, ◌-◌, ◌*◌, ◌≤◌, List, Bool, true, false, if◌then◌else◌, ◌==◌, Option, None, Some, is_some, slice_index}
use Rattle.std.specs.List.{sum_by, count_by, range_with_len}
use Rattle.mark_core.specs.Layout.{words_of}
use Rattle.mark_core.specs.Cards.{card_cells}
use Rattle.mark_core.specs.Seats.{left_in}
use Rattle.mark_core.specs.Steps.{Core, run_of}
use Rattle.mark_core.specs.Laws.{IsCore, AllNumbersFit}
use Rattle.mark_core.specs.declared.kinds.Event.{Event}
use Rattle.mark_core.specs.declared.kinds.Step.TheVariants.{ReadField, ReadRoot, LoadSlot, SetMark, ClearCard}
use Rattle.mark_core.specs.declared.seat.Cleaning.{Cleaning}
use Rattle.mark_core.specs.declared.seat.SeatState.{SeatState}
use Rattle.work_laws.specs.Counting.{Sort, count_events}
use Rattle.work_laws.specs.Queueing.{pops}

-- a field is read
abbrev pub reads_field : Sort
reads_field c s (ReadField x i) = true
reads_field c s step = false

-- a root is read: a variable or a slot
abbrev pub reads_root : Sort
reads_root c s (ReadRoot section v) = true
reads_root c s (LoadSlot section k) = true
reads_root c s step = false

-- a cell is marked, or was already
abbrev pub marks : Sort
marks c s (SetMark x) = true
marks c s step = false

-- a dirty card is cleaned
abbrev pub cleans : Sort
cleans c s (ClearCard card) = slice_index (words_of c.shape c.words).cards card == 1
cleans c s step = false

-- the fields of the cell in scan that are still to be read
abbrev pub left_of_scan : ℕ → Option (ℕ × ℕ) → ℕ
left_of_scan fields None = 0
left_of_scan fields (Some x) = fields - x.1

-- the cells of a card that are still to be scanned, at most
abbrev pub left_of_card : Option Cleaning → ℕ
left_of_card None = 0
left_of_card (Some x) = if x.known then count_by (left_in (Some x)) (range_with_len (card_cells * x.card) card_cells) else card_cells

-- the fields that the seat may read of what it has in hand
abbrev pub fields_left : ℕ → SeatState → ℕ
fields_left fields s = left_of_scan fields s.scan + fields * (if is_some s.popped then 1 else 0) + fields * left_of_card s.cleaning

-- the fields that all seats may read of what they have in hand
abbrev pub fields_in_hand : Core → ℕ
fields_in_hand c = sum_by (fields_left c.shape.fields) c.seats

-- the seat has loaded a cell, and is to mark it
abbrev pub has_value : SeatState → Bool
has_value s = is_some s.value

-- how many cells seats are to mark
abbrev pub values_in_hand : Core → ℕ
values_in_hand c = count_by has_value c.seats

-- over every run: the fields that are read are those of cells that were popped, and of the sixteen of each dirty card that was cleaned; and what is marked, or
-- found marked, was loaded from a field or a root
pub record ReadsAreBounded : Type 0 where
  pub fields : (c : Core) (es : List Event) → IsCore c → AllNumbersFit es
      → count_events reads_field es c + fields_in_hand (run_of es c) ≤ fields_in_hand c + (c.shape.fields * count_events pops es c + card_cells * c.shape.fields * count_events cleans es c)
  pub marks : (c : Core) (es : List Event) → IsCore c → AllNumbersFit es → count_events marks es c + values_in_hand (run_of es c) ≤ values_in_hand c + (count_events reads_field es c + count_events reads_root es c)
