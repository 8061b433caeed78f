-- The steps of a mutator: kinds 17 to 24, 50 to 54, and 56 and 57. They read and change objects and roots, and make cells in a cached block.
use Rattle.std.specs.Prelude.{ℕ, ◌+◌, ◌-◌, ◌*◌, ◌/◌, ◌%◌, List, [], ◌∷◌, Bool, true, false, not, ◌&&◌, ◌||◌, if◌then◌else◌, ◌==◌, nat_lt, nat_le, is_some, is_none, Some, None, Option, unwrap_or, slice_index, slice_set, bit_or}
use Rattle.std.specs.List.{list_any}
use Rattle.mark_core.specs.Layout.{block_count}
use Rattle.mark_core.specs.Places.{root_at, slot_at, owner_at, alloc_at, identity_at, value_at, field_at}
use Rattle.mark_core.specs.Bits.{has_bit, with_bit, without_bit, complement, cell_of, reference_in}
use Rattle.mark_core.specs.Seats.{is_phase, is_the, may_mutate, free_in, used_in, has_used, is_unread, has_making, makes, last_made, cache_block}
use Rattle.mark_core.specs.Effect.{Effect, reads, stores, changes}
use Rattle.mark_core.specs.declared.kinds.Shape.{Shape}
use Rattle.mark_core.specs.declared.kinds.Phase.TheVariants.{Idle}
use Rattle.mark_core.specs.declared.seat.SeatState.{SeatState}
use Rattle.mark_core.specs.declared.seat.CacheState.{CacheState}
use Rattle.mark_core.specs.Cards.{block_cells, card_of}
use Rattle.mark_core.specs.Numbers.{section_variables, section_span, value_bound}

-- the seat's variables or its register name cell c
abbrev pub knows_cell : SeatState → ℕ → Bool
knows_cell s c = (s.got == c + 1) || list_any (λ x. x == c + 1) s.env

-- 17: a mutator reads an object that it knows
abbrev pub read_object_parts : Shape → SeatState → ℕ → List Bool
read_object_parts sh s c = (nat_lt c sh.cells && may_mutate s) ∷ knows_cell s c ∷ []

-- 17: a mutator reads a field of an object that it knows
abbrev pub read_own_parts : Shape → SeatState → ℕ → ℕ → List Bool
read_own_parts sh s c i = (nat_lt c sh.cells && nat_lt i sh.fields && may_mutate s) ∷ knows_cell s c ∷ []

-- 17: the register has the reference in the field
abbrev pub read_own_effect : Shape → SeatState → ℕ → ℕ → Effect
read_own_effect sh s c i = reads (field_at sh c i) (λ old. record s { got = reference_in old })

-- 17: nothing changes
abbrev pub read_value_effect : SeatState → ℕ → Effect
read_value_effect s c = reads (value_at c) (λ old. s)

-- 17: nothing changes
abbrev pub read_identity_effect : SeatState → ℕ → Effect
read_identity_effect s c = reads (identity_at c) (λ old. s)

-- 17: a warehouse reads a variable of the catalogue
abbrev pub read_cat_parts : SeatState → ℕ → List Bool
read_cat_parts s v = (nat_lt v section_variables && may_mutate s) ∷ not (is_the s.section 0) ∷ []

-- 17: the register has the reference in the catalogue's variable
abbrev pub read_cat_effect : SeatState → ℕ → Effect
read_cat_effect s v = reads (root_at 0 v) (λ old. record s { got = reference_in old })

-- variable v of the seat
abbrev pub seat_variable : SeatState → ℕ → ℕ
seat_variable s v = slice_index s.env v

-- variable v names an object of the seat's section
abbrev pub has_own : List ℕ → SeatState → ℕ → Bool
has_own identities s v = not (seat_variable s v == 0) && is_the s.section (slice_index identities (seat_variable s v - 1) / section_span)

-- a mutator may store in what variable v names: an object of its section, or any object if the heap shares them
abbrev pub may_change : Shape → List ℕ → SeatState → ℕ → Bool
may_change sh identities s v = not (seat_variable s v == 0) && (sh.sharing || is_the s.section (slice_index identities (seat_variable s v - 1) / section_span))

-- no variable, or one that exists
abbrev pub in_variables : Option ℕ → Bool
in_variables None = true
in_variables (Some w) = nat_lt w section_variables

-- what variable w holds, or nil if none is named
abbrev pub variable_or_nil : SeatState → Option ℕ → ℕ
variable_or_nil s None = 0
variable_or_nil s (Some w) = seat_variable s w

-- 18: a mutator stores a reference in an object, and owes its card unless nobody else can know the object
abbrev pub store_field_parts : Shape → List ℕ → SeatState → ℕ → ℕ → Option ℕ → List Bool
store_field_parts sh identities s v i w =
    (nat_lt v section_variables && nat_lt i sh.fields && in_variables w && may_mutate s) ∷ may_change sh identities s v ∷ is_none s.owes ∷ []

-- 18: the field has the reference; the seat owes the card, unless the object is a used cell of its cache
abbrev pub store_field_effect : Shape → SeatState → ℕ → ℕ → Option ℕ → Effect
store_field_effect sh s v i w =
    let c = cell_of (seat_variable s v) in
    stores (field_at sh c i) (variable_or_nil s w) (record s { owes = if used_in s.cache c then s.owes else Some (card_of c) })

-- 18: a mutator stores a value in an object
abbrev pub store_value_parts : Shape → List ℕ → SeatState → ℕ → List Bool
store_value_parts sh identities s v = (nat_lt v section_variables && may_mutate s) ∷ may_change sh identities s v ∷ is_none s.owes ∷ []

-- 18: the object has the value
abbrev pub store_value_effect : SeatState → ℕ → ℕ → Effect
store_value_effect s v n = stores (value_at (cell_of (seat_variable s v))) n s

-- the reference names the used cell made last
abbrev pub names_last : Option CacheState → ℕ → Bool
names_last cache r = not (r == 0) && is_the (last_made cache) (r - 1)

-- nil, or a reference that the seat has
abbrev pub has_reference : SeatState → ℕ → Bool
has_reference s r = (r == 0) || (r == s.got) || list_any (λ x. x == r) s.env || names_last s.cache r

-- 19: a mutator stores a reference in a root of its section
abbrev pub store_root_parts : SeatState → ℕ → ℕ → List Bool
store_root_parts s v r = (nat_lt v section_variables && may_mutate s) ∷ has_reference s r ∷ (is_none s.owes && not (has_making s.cache)) ∷ []

-- 19: the root has the reference, as has the variable in the record, and the register is empty
abbrev pub store_root_effect : SeatState → ℕ → ℕ → Effect
store_root_effect s v r = stores (root_at (unwrap_or s.section 0) v) r (record s { env = slice_set s.env v (reference_in r); got = 0 })

-- 50: if objects are shared, a mutator compares a field of one with what a variable holds, and stores what another holds if they are equal; it owes no card
abbrev pub exchange_field_parts : Shape → SeatState → ℕ → ℕ → Option ℕ → Option ℕ → List Bool
exchange_field_parts sh s v i x y =
    (nat_lt v section_variables && nat_lt i sh.fields && (in_variables x && in_variables y) && may_mutate s) ∷ (not (seat_variable s v == 0) && sh.sharing) ∷ is_none s.owes ∷ []

-- 50: if the field was what x holds, it is what y holds, and the seat owes the card as after a store; else nothing changes
abbrev pub exchange_field_effect : Shape → SeatState → ℕ → ℕ → Option ℕ → Option ℕ → Effect
exchange_field_effect sh s v i x y =
    let c = cell_of (seat_variable s v) in
    changes
    (field_at sh c i)
    (λ old. if old == variable_or_nil s x then variable_or_nil s y else old)
    (λ old. record s { owes = if old == variable_or_nil s x then (if used_in s.cache c then s.owes else Some (card_of c)) else s.owes })

-- 51: if objects are shared, a mutator compares the value of one with a number, and stores another if they are equal
abbrev pub exchange_value_parts : Shape → SeatState → ℕ → ℕ → List Bool
exchange_value_parts sh s v n = (nat_lt v section_variables && nat_lt n value_bound && may_mutate s) ∷ (not (seat_variable s v == 0) && sh.sharing) ∷ is_none s.owes ∷ []

-- 51: if the value was m, it is n
abbrev pub exchange_value_effect : SeatState → ℕ → ℕ → ℕ → Effect
exchange_value_effect s v m n = changes (value_at (cell_of (seat_variable s v))) (λ old. if old == m then n else old) (λ old. s)

-- 52: a mutator stores a reference in a slot of its section
abbrev pub store_slot_parts : Shape → SeatState → ℕ → ℕ → List Bool
store_slot_parts sh s k r = (nat_lt k sh.slots && may_mutate s) ∷ has_reference s r ∷ (is_none s.owes && not (has_making s.cache)) ∷ []

-- 52: the slot has the reference, and the register is empty
abbrev pub store_slot_effect : Shape → SeatState → ℕ → ℕ → Effect
store_slot_effect sh s k r = stores (slot_at sh (unwrap_or s.section 0) k) r (record s { got = 0 })

-- 53: a mutator reads a slot of its section
abbrev pub read_slot_parts : Shape → SeatState → ℕ → List Bool
read_slot_parts sh s k = (nat_lt k sh.slots && may_mutate s) ∷ []

-- 53: the register has the reference in the slot
abbrev pub read_slot_effect : Shape → SeatState → ℕ → Effect
read_slot_effect sh s k = reads (slot_at sh (unwrap_or s.section 0) k) (λ old. record s { got = reference_in old })

-- 54: a mutator asks for a cell, whether or not it knows it
abbrev pub read_weak_parts : Shape → SeatState → ℕ → List Bool
read_weak_parts sh s c = (nat_lt c sh.cells && may_mutate s) ∷ []

-- the reference to cell c, if its allocation bit is set or the seat itself made it, and nil otherwise
abbrev pub weak_reference : SeatState → ℕ → ℕ → ℕ
weak_reference s c word = if has_bit word (c % block_cells) || used_in s.cache c then reference_in (c + 1) else 0

-- 54: the register has this reference
abbrev pub read_weak_effect : SeatState → ℕ → Effect
read_weak_effect s c = reads (alloc_at (c / block_cells)) (λ old. record s { got = weak_reference s c old })

-- 56: a mutator holds a reference in a variable of its record alone, under the condition of 19: the root lags, and the register is empty
abbrev pub hold_root_effect : SeatState → ℕ → ℕ → Effect
hold_root_effect s v r =
    reads (root_at (unwrap_or s.section 0) v) (λ old. record s { env = slice_set s.env v (reference_in r); lags = with_bit s.lags v; got = 0 })

-- 57: a mutator stores a variable in its root
abbrev pub flush_root_parts : SeatState → ℕ → List Bool
flush_root_parts s v = (nat_lt v section_variables && may_mutate s) ∷ []

-- 57: the root has the variable, and doesn't lag
abbrev pub flush_root_effect : SeatState → ℕ → Effect
flush_root_effect s v = stores (root_at (unwrap_or s.section 0) v) (seat_variable s v) (record s { lags = without_bit s.lags v })

-- 20: a seat with a section takes a block for itself to make cells in
abbrev pub claim_block_parts : Shape → ℕ → SeatState → ℕ → List Bool
claim_block_parts sh phase s b =
    (nat_lt b (block_count sh) && is_none s.cache) ∷ ((s.active || s.knows) && is_some s.section) ∷ (not s.knows || is_phase phase Idle) ∷ []

-- 20: if the block had no owner, it is the seat's cache, unread
abbrev pub claim_block_effect : SeatState → ℕ → Effect
claim_block_effect s b =
    changes
    (owner_at b)
    (λ old. if old == 0 then s.number + 1 else old)
    (λ old.
    record s {
      cache = if old == 0 then Some (record { block = b; unread = true; free = 0; used = 0; making = None; last = None }) else s.cache;
    })

-- the block of the cache, if there is one
abbrev pub cached_block : SeatState → ℕ
cached_block s = unwrap_or (cache_block s.cache) 0

-- 21: the seat gives its block up
abbrev pub release_block_parts : SeatState → List Bool
release_block_parts s = is_some s.cache ∷ (not (has_used s.cache) && not (has_making s.cache)) ∷ []

-- 21: the block has no owner, and the seat no cache
abbrev pub release_block_effect : SeatState → Effect
release_block_effect s = stores (owner_at (cached_block s)) 0 (record s { cache = None })

-- the free cells of the cache are those whose bit is clear
abbrev pub with_free : Option CacheState → ℕ → Option CacheState
with_free None word = None
with_free (Some x) word = Some (record x { unread = false; free = complement word })

-- 22: the seat reads which cells of its block are free
abbrev pub read_free_parts : SeatState → List Bool
read_free_parts s = is_unread s.cache ∷ []

-- 22: the free cells of the cache are known
abbrev pub read_free_effect : SeatState → Effect
read_free_effect s = reads (alloc_at (cached_block s)) (λ old. record s { cache = with_free s.cache old })

-- the first word is stored in a free cell, and each further one in the cell being made
abbrev pub is_next_part : SeatState → ℕ → ℕ → Bool
is_next_part s c part = if part == 0 then free_in s.cache c && not (has_making s.cache) else makes s.cache c part

-- nil fields, then the value, then the identity
abbrev pub fits_part : Shape → SeatState → ℕ → ℕ → Bool
fits_part sh s part word =
    if nat_lt part sh.fields then word == 0
    else if part == sh.fields then nat_lt word value_bound
    else is_some s.section && nat_lt s.made sh.objects && (word == unwrap_or s.section 0 * section_span + s.made)

-- the place where a word of a new cell is stored
abbrev pub part_at : Shape → ℕ → ℕ → ℕ × ℕ
part_at sh c part = if nat_lt part sh.fields then field_at sh c part else if part == sh.fields then value_at c else identity_at c

-- the next part of the cell being made
abbrev pub with_making : Option CacheState → ℕ → ℕ → Option CacheState
with_making None c part = None
with_making (Some x) c part = Some (record x { making = Some (c, part) })

-- the cell is made, and is used
abbrev pub with_made : Option CacheState → ℕ → Option CacheState
with_made None c = None
with_made (Some x) c = Some (record x { free = without_bit x.free (c % block_cells); used = with_bit x.used (c % block_cells); making = None; last = Some c })

-- 23: a mutator stores the words of a new cell, one after another
abbrev pub store_new_parts : Shape → SeatState → ℕ → ℕ → ℕ → List Bool
store_new_parts sh s c part word = (nat_lt c sh.cells && nat_le part (sh.fields + 1) && may_mutate s) ∷ is_next_part s c part ∷ fits_part sh s part word ∷ []

-- 23: the part is stored; with the last part, the identity, the cell is made and used
abbrev pub store_new_effect : Shape → SeatState → ℕ → ℕ → ℕ → Effect
store_new_effect sh s c part word =
    stores
    (part_at sh c part)
    word
    (record s {
      cache = if nat_le part sh.fields then with_making s.cache c (part + 1) else with_made s.cache c;
      made = if nat_le part sh.fields then s.made else s.made + 1;
    })

-- the bits of the used cells
abbrev pub used_bits : Option CacheState → ℕ
used_bits None = 0
used_bits (Some x) = x.used

-- no cell is used any more
abbrev pub without_used : Option CacheState → Option CacheState
without_used None = None
without_used (Some x) = Some (record x { used = 0; last = None })

-- 24: the seat publishes its used cells
abbrev pub publish_cells_parts : SeatState → List Bool
publish_cells_parts s = is_some s.cache ∷ (is_none s.owes && not (has_making s.cache)) ∷ []

-- 24: the allocation bits of the used cells are set, and no cell is used any more
abbrev pub publish_cells_effect : SeatState → Effect
publish_cells_effect s =
    changes (alloc_at (cached_block s)) (λ old. bit_or old (used_bits s.cache)) (λ old. record s { cache = without_used s.cache })
