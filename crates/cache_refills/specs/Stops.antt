-- Why a mutator stops the world.
use Rattle.std.specs.Prelude.{ℕ, ◌+◌, ◌&&◌, ◌||◌, not, if◌then◌else◌, List, [], ◌∷◌, ◌++◌, Bool, false}
use Rattle.std.specs.List.{list_all, range_with_len}
use Rattle.mark_core.specs.Layout.{block_count, card_count}
use Rattle.mark_core.specs.Numbers.{empty_offset}
use Rattle.mark_core.specs.declared.kinds.Phase.TheVariants.{Marking}
use Rattle.mark_core.specs.declared.kinds.Shape.{Shape}
use Rattle.gc_table.specs.declared.view.Entry.{Entry}
use Rattle.packet_pools.specs.Seeking.{some_event}
use Rattle.alloc_cache.specs.Claiming.{seeks_block, seen_taken}
use Rattle.gc_cycle.specs.Cycles.{sees_free_cell}
use Rattle.gc_cycle.specs.Events.{before_last, front, each_after, never, since_last, since_or_all}
use Rattle.gc_cycle.specs.Polling.{saw_full}
use Rattle.gc_cycle.specs.Sorts.{comes_in, ends_cycle, raises_flag, reads_phase, resumes, sees_last_card, sees_all_empty, stores_new}

-- each block was seen claimed, or was got and seen with all allocation bits set
abbrev pub no_block : Shape → List Entry → Bool
no_block sh es = list_all (λ b. seen_taken b es) (range_with_len 0 (block_count sh))

-- a search for a block found none: so it is of consecutive steps of searching
abbrev pub claim_failed : Shape → List Entry → Bool
claim_failed sh [] = false
claim_failed sh (e ∷ es) = no_block sh (front seeks_block (e ∷ es)) || claim_failed sh es

-- the phase was read as Marking, and after that the counter of cards at its end and the count of empty packets as all
abbrev pub marking_done : Shape → List Entry → Bool
marking_done sh [] = false
marking_done sh (e ∷ es) =
    (reads_phase Marking e.step e.found && some_event (sees_last_card (card_count sh)) es && some_event (sees_all_empty (empty_offset + sh.packets)) es) || marking_done sh es

-- these events give cause to stop the world: there was no block to make cells in, or marking was done
abbrev pub may_stop : Shape → List Entry → Bool
may_stop sh es = claim_failed sh es || marking_done sh es

-- the flag was raised only if the events of the call before gave cause
abbrev pub stops_with_cause : Shape → List Entry → Bool
stops_with_cause sh es = each_after (may_stop sh) raises_flag [] es

-- the events since the seat last came into the running world, or all
abbrev pub this_visit : List Entry → List Entry
this_visit es = since_or_all comes_in es

-- the flag was raised only if the events since the seat last came in gave cause: no cause outlives another seat's stop
abbrev pub stops_in_visit : Shape → List Entry → Bool
stops_in_visit sh es = each_after (λ earlier. may_stop sh (this_visit earlier)) raises_flag [] es

-- a cycle ended since the flag was raised
abbrev pub has_ended : List Entry → Bool
has_ended es = some_event ends_cycle (since_last raises_flag es)

-- the world was resumed only if a cycle had ended in the stop
abbrev pub resumes_with_end : List Entry → Bool
resumes_with_end es = each_after has_ended resumes [] es

-- in each stop a cycle ended, but perhaps not in the last one, if the phase was read as Full
abbrev pub stops_collect : List Entry → Bool
stops_collect es = resumes_with_end (if saw_full es then before_last resumes es else es)

-- since the last cycle ended the flag was raised, or a search for a block found none
abbrev pub may_end : Shape → List Entry → Bool
may_end sh es = some_event raises_flag (since_or_all ends_cycle es) || claim_failed sh (since_or_all ends_cycle es)

-- a cycle ended only so: in one stop a second one only after a search for a block in vain
abbrev pub cycles_with_cause : Shape → List Entry → Bool
cycles_with_cause sh es = each_after (may_end sh) ends_cycle [] es

-- a block with a free cell was read, and a search for a block found none
abbrev pub misses_block : Shape → List Entry → Bool
misses_block sh es = sees_free_cell sh es && claim_failed sh es

-- these events neither stopped the world nor ended a cycle, or a block was missed so since the last cycle ended
abbrev pub may_stop_again : Shape → List Entry → Bool
may_stop_again sh es = (never raises_flag es && never ends_cycle es) || misses_block sh (since_last ends_cycle es)

-- after a stop of the same call the flag was raised again only so
abbrev pub stops_again_with_cause : Shape → List Entry → Bool
stops_again_with_cause sh es = each_after (may_stop_again sh) raises_flag [] es

-- how often the flag was raised without cause in the events since the last store into a new cell; `since` are those before the list
abbrev pub stops_without_cause : Shape → List Entry → List Entry → ℕ
stops_without_cause sh since [] = 0
stops_without_cause sh since (e ∷ es) =
    (if raises_flag e.step e.found && not (may_stop sh since) then 1 else 0)
    + stops_without_cause sh (if stores_new e.step e.found then [] else since ++ e ∷ []) es
