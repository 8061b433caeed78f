use Rattle.std.proofs.Common.{◌≡◌, ◌≤◌, ◌-◌}
use Rattle.mark_core.specs.Layout.{block_count}
use Rattle.gc_table.specs.Log.{events, Only}
use Rattle.gc_table.specs.Running.{Ran}
use Rattle.gc_table.specs.Seats.{Sits, view_of}
use Rattle.packet_pools.specs.Counts.{count_of}
use Rattle.sweeper.specs.Freeing.{block_floor}
use Rattle.gc_cycle.specs.Lower.{sweeps_next}
use Rattle.gc_cycle.specs.Sorts.{draws_block}
use Rattle.gc_cycle.specs.Standing.{Helps}
use Rattle.gc_cycle.proofs.helping.help_sweep.Given as goal

abbrev pub invariant-loop-swept : goal.invariant-loop-swept
invariant-loop-swept l = record {
  sits : Sits l.heap l.seat;
  helps : Helps (view_of l.seat);
  ran : Ran (view_of l.fn.seat) (view_of l.seat);
  only : Only sweeps_next (view_of l.fn.seat) (view_of l.seat);
  phase : (view_of l.seat).state.phase_seen ≡ (view_of l.fn.seat).state.phase_seen;
  count : count_of (draws_block (block_count l.heap.shape)) (events (view_of l.fn.seat) (view_of l.seat)) ≡ l.swept;
  few : l.swept ≤ block_floor (view_of l.seat);
}

abbrev pub decreases-loop-swept : goal.decreases-loop-swept
decreases-loop-swept l = block_count l.heap.shape - block_floor (view_of l.seat)
