-- What is written of a seat's record.
use Rattle.std.specs.Prelude.{ℕ, ◌+◌, List, [], ◌∷◌, ◌++◌, Bool, if◌then◌else◌, Option, Some, None, is_some, unwrap_or, codes}
use Rattle.std.specs.List.{flat_map}
use Rattle.mark_core.specs.Held.{Slot, Slots}
use Rattle.mark_core.specs.Seats.{phase_number}
use Rattle.mark_core.specs.declared.kinds.Phase.{Phase}
use Rattle.mark_core.specs.declared.seat.SeatState.{SeatState}
use Rattle.mark_core.specs.declared.seat.Cleaning.{Cleaning}
use Rattle.mark_core.specs.declared.seat.CacheState.{CacheState}
use Rattle.mark_core.specs.declared.seat.BlockState.{BlockState}
use Rattle.schedule_states.specs.Rows.{number_text, numbers_text, name_text, row_text}

-- false and true
abbrev pub flag_number : Bool → ℕ
flag_number b = if b then 1 else 0

-- 0, or the number and 1
abbrev pub number_or_none : Option ℕ → ℕ
number_or_none None = 0
number_or_none (Some n) = n + 1

-- likewise of a phase, by its number
abbrev pub phase_or_none : Option Phase → ℕ
phase_or_none None = 0
phase_or_none (Some p) = phase_number p + 1

-- who it is, how it stands to the world, to helpers and to the phase, how many cells it made, and whether it was joined into another
abbrev pub standing_numbers : SeatState → List ℕ
standing_numbers s =
    s.number
    ∷ number_or_none s.section
    ∷ flag_number s.counted
    ∷ flag_number s.active
    ∷ flag_number s.raised
    ∷ flag_number s.knows
    ∷ flag_number s.helping
    ∷ flag_number s.admitted
    ∷ flag_number s.opened
    ∷ flag_number s.alone
    ∷ flag_number s.exact
    ∷ phase_or_none s.phase_seen
    ∷ flag_number (is_some s.season_seen)
    ∷ unwrap_or s.season_seen 0
    ∷ s.made
    ∷ flag_number s.spent
    ∷ []

-- a packet in hand, its length, and whether its head holds that
abbrev pub packet_numbers : Slot → List ℕ
packet_numbers None = 0 ∷ 0 ∷ 0 ∷ []
packet_numbers (Some x) = (x.0 + 1) ∷ number_or_none x.1 ∷ flag_number x.2 ∷ []

abbrev pub packets_text : Slots → List ℕ
packets_text held = flat_map (λ h. numbers_text (packet_numbers h)) held

abbrev pub held_rest : Slots → List ℕ
held_rest held = packets_text held ++ codes "]\n"

-- the packets in hand
abbrev pub held_text : Slots → List ℕ
held_text held = name_text (codes "packets") ++ held_rest held

-- the cell of a pair, if there is one
abbrev pub first_or_none : {A : Type 0} → Option (ℕ × A) → ℕ
first_or_none None = 0
first_or_none (Some x) = (x.0 + 1)

-- whether the popped cell was seen unpublished
abbrev pub clear_number : Option (ℕ × Bool) → ℕ
clear_number None = 0
clear_number (Some x) = flag_number x.1

-- the field or part that is next
abbrev pub next_number : Option (ℕ × ℕ) → ℕ
next_number None = 0
next_number (Some x) = x.1

-- the reservation and the credit, the popped cell and whether its bit was clear, the cell in scan and its next field, the value, the fresh cell, the owed card,
-- and the register
abbrev pub hand_numbers : SeatState → List ℕ
hand_numbers s =
    flag_number s.reserved
    ∷ flag_number s.credit
    ∷ first_or_none s.popped
    ∷ clear_number s.popped
    ∷ first_or_none s.scan
    ∷ next_number s.scan
    ∷ number_or_none s.value
    ∷ number_or_none s.fresh
    ∷ number_or_none s.owes
    ∷ s.got
    ∷ []

-- the card that it cleared, whether its marked cells are known, those left and those that may be scanned, and whether the card must be dirty again
abbrev pub cleaning_numbers : Option Cleaning → List ℕ
cleaning_numbers None = 0 ∷ 0 ∷ 0 ∷ 0 ∷ 0 ∷ []
cleaning_numbers (Some x) = (x.card + 1) ∷ flag_number x.known ∷ x.left ∷ x.published ∷ flag_number x.redirty ∷ []

abbrev pub variables_text : List ℕ → List ℕ
variables_text env = flat_map number_text env

abbrev pub variables_rest : List ℕ → List ℕ
variables_rest env = variables_text env ++ codes "]\n"

-- its own copy of its section's variables
abbrev pub env_text : List ℕ → List ℕ
env_text env = name_text (codes "variables") ++ variables_rest env

-- the block in which it makes cells, whether its free cells weren't read, those free and those used, the cell being made and its next part, and the one made last
abbrev pub cache_numbers : Option CacheState → List ℕ
cache_numbers None = 0 ∷ 0 ∷ 0 ∷ 0 ∷ 0 ∷ 0 ∷ 0 ∷ []
cache_numbers (Some x) =
    (x.block + 1) ∷ flag_number x.unread ∷ x.free ∷ x.used ∷ first_or_none x.making ∷ next_number x.making ∷ number_or_none x.last ∷ []

-- the block that it sweeps or clears and the end of its stretch, its allocation and mark bits if they were read, and whether what survives was stored
abbrev pub block_numbers : Option BlockState → List ℕ
block_numbers None = 0 ∷ 0 ∷ 0 ∷ 0 ∷ 0 ∷ 0 ∷ 0 ∷ []
block_numbers (Some x) =
    (x.block + 1)
    ∷ x.until
    ∷ flag_number (is_some x.alloc_word)
    ∷ unwrap_or x.alloc_word 0
    ∷ flag_number (is_some x.mark_word)
    ∷ unwrap_or x.mark_word 0
    ∷ flag_number x.stored
    ∷ []

-- whether it read the counters of cards and of blocks below their ends
abbrev pub counter_numbers : SeatState → List ℕ
counter_numbers s = flag_number s.below_card ∷ flag_number s.below_block ∷ []

-- the rows of a record, from the last on
abbrev pub sweeping_text : SeatState → List ℕ
sweeping_text s = row_text (codes "block") (block_numbers s.block) ++ row_text (codes "counters") (counter_numbers s)

abbrev pub making_text : SeatState → List ℕ
making_text s = row_text (codes "cache") (cache_numbers s.cache) ++ sweeping_text s

abbrev pub memory_text : SeatState → List ℕ
memory_text s = env_text s.env ++ making_text s

abbrev pub cleaning_text : SeatState → List ℕ
cleaning_text s = row_text (codes "cleaning") (cleaning_numbers s.cleaning) ++ memory_text s

abbrev pub hand_text : SeatState → List ℕ
hand_text s = row_text (codes "hand") (hand_numbers s) ++ cleaning_text s

abbrev pub work_text : SeatState → List ℕ
work_text s = held_text s.held ++ hand_text s

-- a seat's record
abbrev pub seat_text : SeatState → List ℕ
seat_text s = row_text (codes "seat") (standing_numbers s) ++ work_text s
