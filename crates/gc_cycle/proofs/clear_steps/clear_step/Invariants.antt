use Rattle.std.proofs.Common.{◌≡◌, ◌≤◌, ◌+◌, ◌*◌}
use Rattle.std.specs.Prelude.{length}
use Rattle.mark_core.specs.Layout.{block_count}
use Rattle.mark_core.specs.declared.kinds.Phase.TheVariants.{Clear}
use Rattle.gc_table.specs.Log.{events, Only}
use Rattle.gc_table.specs.Seats.{Sits, view_of}
use Rattle.packet_pools.specs.Counts.{count_of}
use Rattle.gc_cycle.specs.Finishing.{IsPart}
use Rattle.gc_cycle.specs.Sorts.{draws_block}
use Rattle.gc_cycle.specs.Statistics.{leaves_numbers}
use Rattle.gc_cycle.proofs.clear_steps.clear_step.Given as goal

abbrev pub invariant-loop-stretches : goal.invariant-loop-stretches
invariant-loop-stretches l = record {
  sits : Sits l.heap l.seat;
  part : IsPart Clear (view_of l.fn.seat) (view_of l.seat);
  numbers : Only leaves_numbers (view_of l.fn.seat) (view_of l.seat);
  count : count_of (draws_block (block_count l.heap.shape)) (events (view_of l.fn.seat) (view_of l.seat)) ≡ l.stretches;
  few : length (events (view_of l.fn.seat) (view_of l.seat)) ≤ l.stretches * (2 + l.heap.shape.stretch);
}
