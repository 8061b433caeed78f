-- Searches for packets, computed: two packets of four entries, which lie in the low pool with one cell and in the high pool with two.
use Rattle.std.specs.Prelude.{ℕ, ◌≡◌, List, [], ◌∷◌, ◌++◌, Bool, true, false, refl}
use Rattle.mark_core.specs.Numbers.{deferred_pool_number, empty_pool_number, high_pool_number, low_pool_number}
use Rattle.mark_core.specs.declared.kinds.Shape.{Shape}
use Rattle.mark_core.specs.declared.kinds.Step.TheVariants.{DirtyCard, Give, Look, Push, ReadAlloc, ReadField, ReadLength, SetMark, StoreLength, Take}
use Rattle.gc_table.specs.declared.view.Entry.{Entry}
use Rattle.gc_table.specs.Log.{event}
use Rattle.packet_pools.specs.Seeking.{all_missed, deferred_pools, no_input, no_output}
use Rattle.packet_pools.specs.Counts.{dirties}
use Rattle.packet_pools.specs.Orders.{each_after, some_end}
use Rattle.packet_pools.specs.Tried.{all_tried, may_overflow}

abbrev pub roomy : Shape
roomy = record { cells = 64; packets = 2; entries = 4; sections = 2; fields = 1; objects = 2000000; sharing = false; slots = 0; stretch = 1 }

-- both pools to read from show no packet
both_bare : no_input roomy (event (Look high_pool_number 0) 0 ∷ event (Look low_pool_number 0) 0 ∷ []) ≡ true
both_bare = refl

-- the low pool shows both packets, and another seat is first at each
lost_in_low : no_input roomy (event (Look high_pool_number 0) 0 ∷ event (Look low_pool_number 0) 3 ∷ event (Take low_pool_number 0) 0 ∷ event (Take low_pool_number 1) 0 ∷ []) ≡ true
lost_in_low = refl

-- the low pool wasn't looked at
high_alone : no_input roomy (event (Look high_pool_number 0) 0 ∷ []) ≡ false
high_alone = refl

-- both packets lie in the low pool, and are to be taken out of the high one
taken_from_another : no_input roomy (event (Look high_pool_number 0) 0 ∷ event (Look low_pool_number 0) 3 ∷ event (Take high_pool_number 0) 0 ∷ event (Take high_pool_number 1) 0 ∷ []) ≡ false
taken_from_another = refl

-- no pool was looked at
taken_unseen : no_input roomy (event (Take high_pool_number 0) 0 ∷ event (Take high_pool_number 1) 0 ∷ []) ≡ false
taken_unseen = refl

-- a packet is outside the pools because this seat took it
holds_it_itself : no_input roomy (event (Take high_pool_number 0) 1 ∷ event (Look high_pool_number 0) 0 ∷ event (Look low_pool_number 0) 0 ∷ []) ≡ false
holds_it_itself = refl

-- no pool shows a packet
all_bare : no_output roomy (event (Look empty_pool_number 0) 0 ∷ event (Look low_pool_number 0) 0 ∷ event (Look high_pool_number 0) 0 ∷ []) ≡ true
all_bare = refl

-- the high pool has both packets, and both are full
abbrev found_full : List Entry
found_full =
    event (Look high_pool_number 0) 3
    ∷ event (Take high_pool_number 0) 3
    ∷ event (ReadLength 0) 4
    ∷ event (StoreLength 0) 4
    ∷ event (Give 0 false) 2
    ∷ event (Take high_pool_number 1) 3
    ∷ event (ReadLength 1) 4
    ∷ event (StoreLength 1) 4
    ∷ event (Give 1 false) 1
    ∷ []

all_full : no_output roomy (event (Look empty_pool_number 0) 0 ∷ event (Look low_pool_number 0) 0 ∷ found_full) ≡ true
all_full = refl

-- the empty and the low pool weren't looked at
full_alone : no_output roomy found_full ≡ false
full_alone = refl

-- one packet lies in the low pool and one in the high pool, and both are to be taken out of the empty one
taken_from_empty : no_output roomy (event (Look empty_pool_number 0) 0 ∷ event (Look low_pool_number 0) 1 ∷ event (Look high_pool_number 0) 2 ∷ event (Take empty_pool_number 0) 0 ∷ event (Take empty_pool_number 1) 0 ∷ []) ≡ false
taken_from_empty = refl

-- each was lost where it lay
lost_where_it_lay : no_output roomy (event (Look empty_pool_number 0) 0 ∷ event (Look low_pool_number 0) 1 ∷ event (Take low_pool_number 0) 0 ∷ event (Look high_pool_number 0) 2 ∷ event (Take high_pool_number 1) 0 ∷ []) ≡ true
lost_where_it_lay = refl

-- the pool of deferred packets
none_deferred : all_missed roomy deferred_pools (event (Look deferred_pool_number 0) 0 ∷ []) ≡ true
none_deferred = refl

another_pool : all_missed roomy deferred_pools (event (Look low_pool_number 0) 0 ∷ []) ≡ false
another_pool = refl

-- no packet has room: the first search of a call
abbrev pub search : List Entry
search = event (Look empty_pool_number 0) 0 ∷ event (Look low_pool_number 0) 0 ∷ event (Look high_pool_number 0) 0 ∷ []

abbrev pub excused_none : ℕ → Bool
excused_none p = false

-- the events of a call dirtied each card after all packets were tried
abbrev pub dirties_last : List Entry → Bool
dirties_last es = each_after (some_end (all_tried roomy excused_none)) dirties [] es

searched_first : dirties_last (search ++ event (DirtyCard 0) 0 ∷ []) ≡ true
searched_first = refl

-- one search of a call does for all its cards
one_search_for_two : dirties_last (search ++ event (DirtyCard 0) 0 ∷ event (DirtyCard 1) 0 ∷ []) ≡ true
one_search_for_two = refl

searched_last : dirties_last (event (DirtyCard 0) 0 ∷ search) ≡ false
searched_last = refl

one_before : dirties_last (event (DirtyCard 0) 0 ∷ search ++ event (DirtyCard 1) 0 ∷ []) ≡ false
one_before = refl

-- the empty pool has a packet
found_room : dirties_last (event (Look empty_pool_number 0) 1 ∷ event (Look low_pool_number 0) 0 ∷ event (Look high_pool_number 0) 0 ∷ event (DirtyCard 0) 0 ∷ []) ≡ false
found_room = refl

-- packet 0 has room for one cell in the high pool, and packet 1 is outside
abbrev pub taken : List Entry
taken = event (Look empty_pool_number 0) 0 ∷ event (Look low_pool_number 0) 0 ∷ event (Look high_pool_number 0) 1 ∷ event (Take high_pool_number 0) 1 ∷ event (ReadLength 0) 3 ∷ []

-- a cell is pushed into it, and it is given back full
filled : dirties_last (taken ++ event (Push 0 5) 0 ∷ event (StoreLength 0) 4 ∷ event (Give 0 false) 0 ∷ event (DirtyCard 0) 0 ∷ []) ≡ true
filled = refl

-- it is still in hand
filled_in_hand : dirties_last (taken ++ event (Push 0 5) 0 ∷ event (DirtyCard 0) 0 ∷ []) ≡ true
filled_in_hand = refl

-- it has room
room_in_hand : dirties_last (taken ++ event (DirtyCard 0) 0 ∷ []) ≡ false
room_in_hand = refl

given_with_room : dirties_last (taken ++ event (StoreLength 0) 3 ∷ event (Give 0 false) 0 ∷ event (DirtyCard 0) 0 ∷ []) ≡ false
given_with_room = refl

filled_too_late : dirties_last (taken ++ event (DirtyCard 0) 0 ∷ event (Push 0 5) 0 ∷ []) ≡ false
filled_too_late = refl

another_filled : dirties_last (taken ++ event (Push 1 5) 0 ∷ event (DirtyCard 0) 0 ∷ []) ≡ false
another_filled = refl

-- the events of a call dirtied each card for a cell that was just marked after all packets were tried
abbrev pub overflows_last : List Entry → Bool
overflows_last es = each_after (may_overflow roomy excused_none) dirties [] es

-- cell 5 was white, and is left to its card
left_unsearched : overflows_last (event (SetMark 5) 0 ∷ event (DirtyCard 0) 0 ∷ []) ≡ false
left_unsearched = refl

left_once_searched : overflows_last (event (SetMark 5) 0 ∷ search ++ event (DirtyCard 0) 0 ∷ []) ≡ true
left_once_searched = refl

searched_too_late : overflows_last (event (SetMark 5) 0 ∷ event (DirtyCard 0) 0 ∷ search) ≡ false
searched_too_late = refl

-- a packet was moved in between
left_after_a_move : overflows_last (event (SetMark 5) 0 ∷ event (StoreLength 0) 4 ∷ event (Give 0 false) 0 ∷ event (DirtyCard 0) 0 ∷ []) ≡ false
left_after_a_move = refl

-- the card of a cell that isn't published is dirtied again
owed_unsearched : overflows_last (event (ReadAlloc 0) 0 ∷ event (DirtyCard 0) 0 ∷ []) ≡ true
owed_unsearched = refl

-- cell 5 was marked already
found_marked : overflows_last (event (ReadField 1 0) 6 ∷ event (SetMark 5) 32 ∷ event (DirtyCard 0) 0 ∷ []) ≡ true
found_marked = refl
