use Rattle.std.proofs.Common.{◌≡◌, ◌≤◌, ◌+◌, ◌*◌, length, None}
use Rattle.std.specs.Prelude.{min}
use Rattle.mark_core.specs.Layout.{block_count}
use Rattle.gc_table.specs.Log.{events}
use Rattle.gc_table.specs.Seats.{Sits, state_of, view_of}
use Rattle.packet_pools.specs.Counts.{count_of}
use Rattle.sweeper.specs.Freeing.{freed_in}
use Rattle.gc_cycle.specs.SharedSteps.{MaySweep, SweepsSome}
use Rattle.gc_cycle.specs.Sorts.{draws_block}
use Rattle.gc_cycle.proofs.sweep_steps.sweep_some.Given as goal

abbrev pub invariant-loop-stretches : goal.invariant-loop-stretches
invariant-loop-stretches l = record {
  sits : Sits l.heap l.seat;
  may : MaySweep (view_of l.seat);
  free : (state_of l.seat).block ≡ None;
  swept : SweepsSome (view_of l.fn.seat) (view_of l.seat);
  count : count_of (draws_block (block_count l.heap.shape)) (events (view_of l.fn.seat) (view_of l.seat)) ≡ l.stretches;
  freed : l.freed ≡ min (freed_in (view_of l.fn.seat) (events (view_of l.fn.seat) (view_of l.seat))) 4294967295;
  few : length (events (view_of l.fn.seat) (view_of l.seat)) ≤ l.stretches * (2 + 4 * l.heap.shape.stretch);
}
