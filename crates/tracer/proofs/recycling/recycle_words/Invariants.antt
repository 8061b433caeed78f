use Rattle.std.proofs.Common.{◌≡◌, ◌≤◌, ◌+◌, ◌*◌, length}
use Rattle.mark_core.specs.Numbers.{word_bits}
use Rattle.gc_table.specs.Seats.{Sits, view_of}
use Rattle.packet_pools.specs.OnlyTraced.{OnlyTraced}
use Rattle.gc_table.specs.Log.{events}
use Rattle.packet_pools.specs.Tracing.{Traces}
use Rattle.tracer.specs.Recycling.{Recycles}
use Rattle.tracer.specs.StepBounds.{packet_steps}
use Rattle.tracer.proofs.recycling.recycle_words.Given as goal

abbrev pub invariant-loop-g : goal.invariant-loop-g
invariant-loop-g l = record {
  sits : Sits l.heap l.seat;
  traces : Traces (view_of l.seat);
  only : OnlyTraced (view_of l.fn.seat) (view_of l.seat);
  state : (view_of l.seat).state ≡ (view_of l.fn.seat).state;
  most : l.moved ≤ word_bits * l.g;
  recycles : Recycles 0 (word_bits * l.g) l.moved (events (view_of l.fn.seat) (view_of l.seat));
  few : length (events (view_of l.fn.seat) (view_of l.seat)) ≤ l.g + packet_steps * (word_bits * l.g);
}
