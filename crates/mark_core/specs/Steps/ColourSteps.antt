-- The steps of tracing: kinds 9 to 16 and 55. They turn white cells grey and grey cells black, and clean cards.
use Rattle.std.specs.Prelude.{ℕ, ◌+◌, ◌/◌, ◌%◌, List, [], ◌∷◌, Bool, true, false, not, ◌&&◌, ◌||◌, if◌then◌else◌, ◌==◌, nat_lt, is_some, Some, None, Option, bit_and}
use Rattle.mark_core.specs.Layout.{block_count, card_count}
use Rattle.mark_core.specs.Places.{the_phase, root_at, slot_at, alloc_at, mark_at, card_at, field_at}
use Rattle.mark_core.specs.Bits.{has_bit, with_bit, without_bit, complement, cell_named}
use Rattle.mark_core.specs.Held.{holds_any}
use Rattle.mark_core.specs.Seats.{phase_of, may_trace, work_in_hand, takes_part, is_the, scan_left, scans, may_scan}
use Rattle.mark_core.specs.Effect.{Effect, reads, stores, changes}
use Rattle.mark_core.specs.declared.kinds.Shape.{Shape}
use Rattle.mark_core.specs.declared.seat.SeatState.{SeatState}
use Rattle.mark_core.specs.declared.seat.Cleaning.{Cleaning}
use Rattle.mark_core.specs.declared.seat.BlockState.{BlockState}
use Rattle.mark_core.specs.Cards.{block_cells, block_of_card, card_bits, card_of}
use Rattle.mark_core.specs.Numbers.{section_variables}

-- a popped cell of block b, once the block's allocation bits were read: it stays only if its bit is clear
abbrev pub popped_after : Option (ℕ × Bool) → ℕ → ℕ → Option (ℕ × Bool)
popped_after None b word = None
popped_after (Some x) b word = if x.0 / block_cells == b then if has_bit word (x.0 % block_cells) then None else Some (x.0, true) else Some x

-- a popped cell of block b is scanned from its first field on, if its bit is set
abbrev pub scan_after : Option (ℕ × Bool) → Option (ℕ × ℕ) → ℕ → ℕ → Option (ℕ × ℕ)
scan_after None scan b word = scan
scan_after (Some x) scan b word = if (x.0 / block_cells == b) && has_bit word (x.0 % block_cells) then Some (x.0, 0) else scan

-- the cells left whose bit is set may be scanned, and the others leave the list, so that their card must be dirty again
abbrev pub seen_in : Cleaning → ℕ → Cleaning
seen_in x word =
    record x { left = bit_and x.left word; published = bit_and x.left word; redirty = x.redirty || not (bit_and x.left (complement word) == 0) }

-- a cleaning of block b, once the block's allocation bits were read
abbrev pub cleaning_after : Option Cleaning → ℕ → ℕ → Option Cleaning
cleaning_after None b word = None
cleaning_after (Some x) b word = Some (if x.known && (block_of_card x.card == b) then seen_in x word else x)

-- the block in hand keeps its allocation bits
abbrev pub with_alloc_word : Option BlockState → ℕ → ℕ → Option BlockState
with_alloc_word None b word = None
with_alloc_word (Some x) b word = Some (if x.block == b then record x { alloc_word = Some word } else x)

-- 9: a seat reads a block's allocation bits
abbrev pub read_alloc_parts : Shape → SeatState → ℕ → List Bool
read_alloc_parts sh s b = (nat_lt b (block_count sh) && takes_part s) ∷ []

-- 9: a popped cell of the block comes into scan if its bit is set; a cleaning loses its unpublished cells; a block in hand keeps the word
abbrev pub read_alloc_effect : SeatState → ℕ → Effect
read_alloc_effect s b =
    reads
    (alloc_at b)
    (λ old.
    record s {
      popped = popped_after s.popped b old;
      scan = scan_after s.popped s.scan b old;
      cleaning = cleaning_after s.cleaning b old;
      block = with_alloc_word s.block b old;
    })

-- the next field of the cell in scan, or the first one of a cell left in cleaning
abbrev pub may_read_field : Shape → SeatState → ℕ → ℕ → Bool
may_read_field sh s c i = scans s.scan c i || ((i == 0) && may_scan s.cleaning c && not (scan_left sh.fields s.scan))

-- cell c is no longer left
abbrev pub without_cell : Option Cleaning → ℕ → Option Cleaning
without_cell None c = None
without_cell (Some x) c = Some (if block_of_card x.card == c / block_cells then record x { left = without_bit x.left (c % block_cells); published = without_bit x.published (c % block_cells) } else x)

-- 10: a seat loads a field of the cell that it scans
abbrev pub read_field_parts : Shape → SeatState → ℕ → ℕ → List Bool
read_field_parts sh s c i =
    (nat_lt c sh.cells && nat_lt i sh.fields && may_read_field sh s c i) ∷ not (is_some s.popped || is_some s.value || is_some s.fresh) ∷ []

-- 10: the cell in scan is read up to this field, and the cell that the field names is the value to mark
abbrev pub read_field_effect : Shape → SeatState → ℕ → ℕ → Effect
read_field_effect sh s c i =
    reads (field_at sh c i) (λ old. record s { scan = Some (c, i + 1); cleaning = without_cell s.cleaning c; value = cell_named old })

-- 10: a tracer loads a root
abbrev pub read_root_parts : Shape → ℕ → SeatState → ℕ → ℕ → List Bool
read_root_parts sh phase s section v =
    (nat_lt section sh.sections && nat_lt v section_variables && may_trace phase s && holds_any s.held) ∷ not (work_in_hand sh.fields s) ∷ []

-- 10: the cell that the root names is the value to mark
abbrev pub read_root_effect : SeatState → ℕ → ℕ → Effect
read_root_effect s section v = reads (root_at section v) (λ old. record s { value = cell_named old })

-- 10: a tracer loads a slot
abbrev pub load_slot_parts : Shape → ℕ → SeatState → ℕ → ℕ → List Bool
load_slot_parts sh phase s section k =
    (nat_lt section sh.sections && nat_lt k sh.slots && may_trace phase s && holds_any s.held) ∷ not (work_in_hand sh.fields s) ∷ []

-- 10: the cell that the slot names is the value to mark
abbrev pub load_slot_effect : Shape → SeatState → ℕ → ℕ → Effect
load_slot_effect sh s section k = reads (slot_at sh section k) (λ old. record s { value = cell_named old })

-- 11: a tracer marks the cell that it loaded, which is fresh if it was white
abbrev pub set_mark_parts : Shape → ℕ → SeatState → ℕ → List Bool
set_mark_parts sh phase s c = (nat_lt c sh.cells && is_the s.value c) ∷ may_trace phase s ∷ []

-- 11: the mark bit is set; a cell that was white is fresh, and no value is left to mark
abbrev pub set_mark_effect : SeatState → ℕ → Effect
set_mark_effect s c =
    changes
    (mark_at (c / block_cells))
    (λ old. with_bit old (c % block_cells))
    (λ old. record s { value = None; fresh = if has_bit old (c % block_cells) then s.fresh else Some c })

-- a fresh cell of the card is answered for
abbrev pub fresh_off : Option ℕ → ℕ → Option ℕ
fresh_off None card = None
fresh_off (Some c) card = if card_of c == card then None else Some c

-- a popped cell of the card that was seen unpublished is answered for
abbrev pub popped_off : Option (ℕ × Bool) → ℕ → Option (ℕ × Bool)
popped_off None card = None
popped_off (Some x) card = if x.1 && (card_of x.0 == card) then None else Some x

-- a cleaning of the card has not to dirty it any more
abbrev pub redirty_off : Option Cleaning → ℕ → Option Cleaning
redirty_off None card = None
redirty_off (Some x) card = Some (if x.card == card then record x { redirty = false } else x)

-- 12, 55: a seat dirties a card, or checks whether it is dirty
abbrev pub dirty_card_parts : Shape → SeatState → ℕ → List Bool
dirty_card_parts sh s card = (nat_lt card (card_count sh) && takes_part s) ∷ []

-- 12: the card is dirty, and the seat owes it nothing more
abbrev pub dirty_card_effect : SeatState → ℕ → Effect
dirty_card_effect s card =
    stores
    (card_at card)
    1
    (record s {
      fresh = fresh_off s.fresh card;
      popped = popped_off s.popped card;
      owes = if is_the s.owes card then None else s.owes;
      cleaning = redirty_off s.cleaning card;
    })

-- 55: if the card is dirty already, the seat owes it no more
abbrev pub check_card_effect : SeatState → ℕ → Effect
check_card_effect s card = reads (card_at card) (λ old. record s { owes = if is_the s.owes card && (old == 1) then None else s.owes })

-- 13: a tracer cleans a card, and begins to look for its marked cells
abbrev pub clear_card_parts : Shape → ℕ → SeatState → ℕ → List Bool
clear_card_parts sh phase s card = (nat_lt card (card_count sh) && may_trace phase s && holds_any s.held) ∷ not (work_in_hand sh.fields s) ∷ []

-- 13: the card is clean; if it was dirty, its cleaning begins
abbrev pub clear_card_effect : SeatState → ℕ → Effect
clear_card_effect s card =
    changes
    (card_at card)
    (λ old. 0)
    (λ old.
    record s {
      cleaning = if old == 1 then Some (record { card = card; known = false; left = 0; published = 0; redirty = false }) else s.cleaning;
    })

-- the marked cells of the cleaned card are left to scan
abbrev pub known_in : Option Cleaning → ℕ → ℕ → Option Cleaning
known_in None b word = None
known_in (Some x) b word =
    Some (if not x.known && (block_of_card x.card == b) then record x { known = true; left = bit_and word (card_bits x.card); published = 0 } else x)

-- 14: a seat reads a block's mark bits, and so knows which cells of its card are left to scan
abbrev pub read_marks_parts : Shape → SeatState → ℕ → List Bool
read_marks_parts sh s b = (nat_lt b (block_count sh) && takes_part s) ∷ []

-- 14: a cleaning of a card in the block learns which cells are marked
abbrev pub read_marks_effect : SeatState → ℕ → Effect
read_marks_effect s b = reads (mark_at b) (λ old. record s { cleaning = known_in s.cleaning b old })

-- 15: anyone looks at a card
abbrev pub read_card_parts : Shape → ℕ → List Bool
read_card_parts sh card = nat_lt card (card_count sh) ∷ []

-- 15: nothing changes
abbrev pub read_card_effect : SeatState → ℕ → Effect
read_card_effect s card = reads (card_at card) (λ old. s)

-- 16: a seat reads the phase
abbrev pub read_phase_effect : SeatState → Effect
read_phase_effect s = reads the_phase (λ old. record s { phase_seen = if takes_part s then Some (phase_of old) else s.phase_seen })
