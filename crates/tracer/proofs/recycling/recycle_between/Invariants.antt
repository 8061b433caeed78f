use Rattle.std.proofs.Common.{◌≡◌, ◌≤◌, ◌+◌, ◌-◌, ◌*◌, length}
use Rattle.gc_table.specs.Seats.{Sits, view_of}
use Rattle.packet_pools.specs.OnlyTraced.{OnlyTraced}
use Rattle.gc_table.specs.Log.{events}
use Rattle.packet_pools.specs.Tracing.{Traces}
use Rattle.tracer.specs.Recycling.{Recycles}
use Rattle.tracer.specs.StepBounds.{packet_steps}
use Rattle.tracer.proofs.recycling.recycle_between.Given as goal

abbrev pub invariant-loop-p : goal.invariant-loop-p
invariant-loop-p l = record {
  sits : Sits l.heap l.seat;
  traces : Traces (view_of l.seat);
  only : OnlyTraced (view_of l.fn.seat) (view_of l.seat);
  state : (view_of l.seat).state ≡ (view_of l.fn.seat).state;
  most : l.moved + l.fn.first ≤ l.p;
  recycles : Recycles l.fn.first l.p l.moved (events (view_of l.fn.seat) (view_of l.seat));
  few : length (events (view_of l.fn.seat) (view_of l.seat)) ≤ packet_steps * (l.p - l.fn.first);
}
