-- What the polls and the looks at the phase of a call found.
use Rattle.std.specs.Prelude.{◌||◌, not, List, Bool}
use Rattle.mark_core.specs.declared.kinds.Phase.TheVariants.{Full}
use Rattle.gc_table.specs.declared.view.Entry.{Entry}
use Rattle.packet_pools.specs.Seeking.{some_event}
use Rattle.gc_cycle.specs.Events.{first_is, last_is}
use Rattle.gc_cycle.specs.Sorts.{joins, polls, reads_phase, sees_flag, sees_no_flag}

-- the phase was read as Full
abbrev pub saw_full : List Entry → Bool
saw_full es = some_event (reads_phase Full) es

-- the first poll found a stop under way
abbrev pub poll_found_stop : List Entry → Bool
poll_found_stop es = first_is polls sees_flag es

-- the last poll found none
abbrev pub saw_resumed : List Entry → Bool
saw_resumed es = last_is polls sees_no_flag es

-- if the first poll found a stop under way, the seat offered its help
abbrev pub offered_help : List Entry → Bool
offered_help es = not (poll_found_stop es) || some_event joins es
