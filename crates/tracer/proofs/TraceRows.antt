-- Traces that end for want of work, computed: two packets of four entries, which lie in the low pool with one cell.
use Rattle.std.specs.Prelude.{◌≡◌, List, [], ◌∷◌, Bool, true, false, refl, Some}
use Rattle.mark_core.specs.Numbers.{deferred_pool_number, empty_pool_number, high_pool_number, low_pool_number}
use Rattle.mark_core.specs.Start.{start_seat}
use Rattle.mark_core.specs.declared.kinds.Phase.TheVariants.{Marking}
use Rattle.mark_core.specs.declared.kinds.Step.TheVariants.{DirtyCard, Give, Look, Pop, ReadAlloc, ReadField, ReadLength, StoreLength, Take}
use Rattle.gc_table.specs.declared.view.Entry.{Entry}
use Rattle.gc_table.specs.Log.{event}
use Rattle.packet_pools.specs.Counts.{dirties}
use Rattle.packet_pools.specs.Orders.{each_after, some_end}
use Rattle.packet_pools.proofs.SearchRows.{roomy}
use Rattle.tracer.specs.Moments.{Moment, at_some_moment, finds_no_packet, finds_no_work}
use Rattle.tracer.specs.Searched.{tries_all}

-- a mutator that saw marking, with nothing in hand
abbrev marker : Moment
marker = record { state = record (start_seat roomy 1) { counted = true; active = true; phase_seen = Some Marking }; deferring = [] }

-- both pools show no packet
none_there : at_some_moment roomy (finds_no_work roomy) marker (event (Look high_pool_number 0) 0 ∷ event (Look low_pool_number 0) 0 ∷ []) ≡ true
none_there = refl

-- nothing was done
nothing_done : at_some_moment roomy (finds_no_work roomy) marker [] ≡ false
nothing_done = refl

-- a packet lies in the low pool
one_ready : at_some_moment roomy (finds_no_work roomy) marker (event (Look high_pool_number 0) 0 ∷ event (Look low_pool_number 0) 1 ∷ []) ≡ false
one_ready = refl

-- both packets lie in the low pool, and are to be taken out of the high one
taken_from_another : at_some_moment roomy (finds_no_work roomy) marker (event (Look high_pool_number 0) 0 ∷ event (Look low_pool_number 0) 3 ∷ event (Take high_pool_number 0) 0 ∷ event (Take high_pool_number 1) 0 ∷ []) ≡ false
taken_from_another = refl

-- so too, out of the deferred pool
taken_unseen : at_some_moment roomy (finds_no_work roomy) marker (event (Take deferred_pool_number 0) 0 ∷ event (Take deferred_pool_number 1) 0 ∷ []) ≡ false
taken_unseen = refl

-- packet 0 was taken and given back
abbrev taken_and_given : List Entry
taken_and_given = event (Look high_pool_number 0) 0 ∷ event (Look low_pool_number 0) 1 ∷ event (Take low_pool_number 0) 1 ∷ event (ReadLength 0) 1 ∷ event (StoreLength 0) 1 ∷ event (Give 0 false) 0 ∷ []

gave_back : at_some_moment roomy (finds_no_work roomy) marker taken_and_given ≡ false
gave_back = refl

-- a cell was traced, and then no packet had another
traced : at_some_moment roomy (finds_no_work roomy) marker (event (Look high_pool_number 0) 0 ∷ event (Look low_pool_number 0) 1 ∷ event (Take low_pool_number 0) 1 ∷ event (ReadLength 0) 1 ∷ event (Pop 0) 6 ∷ event (ReadAlloc 0) 32 ∷ event (ReadField 5 0) 0 ∷ event (Look high_pool_number 0) 0 ∷ event (Look low_pool_number 0) 0 ∷ []) ≡ true
traced = refl

-- it was popped and its field not read
scan_left : at_some_moment roomy (finds_no_work roomy) marker (event (Look high_pool_number 0) 0 ∷ event (Look low_pool_number 0) 1 ∷ event (Take low_pool_number 0) 1 ∷ event (ReadLength 0) 1 ∷ event (Pop 0) 6 ∷ event (ReadAlloc 0) 32 ∷ event (Look high_pool_number 0) 0 ∷ event (Look low_pool_number 0) 0 ∷ []) ≡ false
scan_left = refl

-- no packet could be had
no_packet : finds_no_packet roomy marker (event (Look empty_pool_number 0) 0 ∷ event (Look low_pool_number 0) 0 ∷ event (Look high_pool_number 0) 0 ∷ event (Look high_pool_number 0) 0 ∷ event (Look low_pool_number 0) 0 ∷ []) ≡ true
no_packet = refl

-- one lies in the low pool, and is to be taken out of the others
packet_passed_by : finds_no_packet roomy marker (event (Look empty_pool_number 0) 0 ∷ event (Take empty_pool_number 0) 0 ∷ event (Look low_pool_number 0) 1 ∷ event (Look high_pool_number 0) 0 ∷ event (Take high_pool_number 0) 0 ∷ []) ≡ false
packet_passed_by = refl

-- a card is dirtied after these events
abbrev dirty_after : List Entry → Bool
dirty_after es = each_after (some_end (tries_all roomy)) dirties es (event (DirtyCard 0) 0 ∷ [])

-- nothing was looked for
unsearched : dirty_after [] ≡ false
unsearched = refl

-- no pool with room shows a packet
all_outside : dirty_after (event (Look empty_pool_number 0) 0 ∷ event (Look low_pool_number 0) 0 ∷ event (Look high_pool_number 0) 0 ∷ []) ≡ true
all_outside = refl

-- the high pool wasn't looked at
high_untried : dirty_after (event (Look empty_pool_number 0) 0 ∷ event (Look low_pool_number 0) 0 ∷ []) ≡ false
high_untried = refl

-- packet 0 becomes the input, and another seat is first at packet 1
one_in_hand : dirty_after (event (Look empty_pool_number 0) 0 ∷ event (Look low_pool_number 0) 0 ∷ event (Take high_pool_number 0) 3 ∷ event (ReadLength 0) 2 ∷ event (Take high_pool_number 1) 0 ∷ []) ≡ true
one_in_hand = refl

-- packet 0 was the input before the search, and went back
in_hand_before : dirty_after (event (Take high_pool_number 0) 3 ∷ event (ReadLength 0) 2 ∷ event (StoreLength 0) 0 ∷ event (Give 0 false) 0 ∷ event (Look empty_pool_number 0) 0 ∷ event (Look low_pool_number 0) 0 ∷ event (Take high_pool_number 1) 0 ∷ []) ≡ false
in_hand_before = refl

-- it lies in the empty pool
one_is_empty : dirty_after (event (Take high_pool_number 0) 3 ∷ event (ReadLength 0) 2 ∷ event (StoreLength 0) 0 ∷ event (Give 0 false) 0 ∷ event (Look empty_pool_number 0) 1 ∷ event (Look low_pool_number 0) 0 ∷ event (Take high_pool_number 1) 0 ∷ []) ≡ false
one_is_empty = refl

-- two cards after one search
one_search_for_two : each_after (some_end (tries_all roomy)) dirties [] (event (Look empty_pool_number 0) 0 ∷ event (Look low_pool_number 0) 0 ∷ event (Look high_pool_number 0) 0 ∷ event (DirtyCard 0) 0 ∷ event (Pop 0) 6 ∷ event (DirtyCard 1) 0 ∷ []) ≡ true
one_search_for_two = refl
