-- The moves of the phase in a call: a whole cycle, a precise one, and when helpers were let in.
use Rattle.std.specs.Prelude.{◌&&◌, ◌||◌, List, [], ◌∷◌, Bool, false}
use Rattle.mark_core.specs.declared.kinds.Phase.TheVariants.{Idle, Drain, Sweep, Full}
use Rattle.mark_core.specs.declared.kinds.Shape.{Shape}
use Rattle.gc_table.specs.declared.view.Entry.{Entry}
use Rattle.gc_cycle.specs.Events.{followed_by, since_last, each_after, never}
use Rattle.gc_cycle.specs.Sorts.{begins_exactly, ends_cycle, moves_to, opens_help, names, raises_flag, reads_all_ones, reads_free_cell}
use Rattle.gc_cycle.specs.Moments.{Moment, after_moment, at_some_moment}
use Rattle.mark_core.specs.Layout.{block_count}
use Rattle.std.specs.List.{list_all, range_with_len}
use Rattle.packet_pools.specs.Seeking.{some_event}

-- a drain began in which no cell was marked, and after it a cycle ended
abbrev pub collects : List Entry → Bool
collects es = followed_by begins_exactly ends_cycle es

-- the next event ends a cycle, of a seat whose drain began with no cell marked
abbrev pub ends_exactly : Moment → List Entry → Bool
ends_exactly m [] = false
ends_exactly m (e ∷ es) = m.state.exact && ends_cycle e.step e.found

-- a drain began in which no cell was marked, and after it a cycle ended exactly
abbrev pub collects_exactly : Shape → Moment → List Entry → Bool
collects_exactly sh m [] = false
collects_exactly sh m (e ∷ es) =
    (begins_exactly e.step e.found && at_some_moment sh ends_exactly (after_moment sh m e) es) || collects_exactly sh (after_moment sh m e) es

-- help was opened between the last move to Drain and the last move to Sweep
abbrev pub opens_in_drain : List Entry → Bool
opens_in_drain es = followed_by opens_help (moves_to Sweep) (since_last (moves_to Drain) es)

-- help was opened between the last move to Sweep and the last move to Idle
abbrev pub opens_in_sweep : List Entry → Bool
opens_in_sweep es = followed_by opens_help (moves_to Idle) (since_last (moves_to Sweep) es)

-- help was opened for both
abbrev pub lets_help : List Entry → Bool
lets_help es = opens_in_drain es && opens_in_sweep es

-- every allocation word was read as all ones
abbrev pub sees_all_full : Shape → List Entry → Bool
sees_all_full sh es = list_all (λ b. some_event (reads_all_ones b) es) (range_with_len 0 (block_count sh))

-- some block was read with a free cell
abbrev pub sees_free_cell : Shape → List Entry → Bool
sees_free_cell sh es = some_event (reads_free_cell (block_count sh)) es

-- in this stop a precise collection was made, at its end every allocation word was all ones, and the section was named
abbrev pub may_fill : Shape → List Entry → Bool
may_fill sh stop = collects stop && sees_all_full sh (since_last ends_cycle stop) && some_event names stop

-- each time that the heap was said to be full there was cause for it in the same stop
abbrev pub fills_with_cause : Shape → List Entry → Bool
fills_with_cause sh es = each_after (λ earlier. may_fill sh (since_last raises_flag earlier)) (moves_to Full) [] es

-- the heap was not said to be full
abbrev pub never_fills : List Entry → Bool
never_fills es = never (moves_to Full) es
