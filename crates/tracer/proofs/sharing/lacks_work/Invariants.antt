use Rattle.std.proofs.Common.{◌≡◌, ◌≤◌, ◌*◌, length}
use Rattle.std.specs.Prelude.{IsTrue}
use Rattle.gc_table.specs.Seats.{Sits, view_of}
use Rattle.gc_table.specs.Log.{events}
use Rattle.packet_pools.specs.OnlyTraced.{OnlyTraced}
use Rattle.packet_pools.specs.Seeking.{input_pools, only_moves}
use Rattle.packet_pools.specs.Tracing.{Traces}
use Rattle.tracer.proofs.sharing.lacks_work.Given as goal

abbrev pub invariant-loop-g : goal.invariant-loop-g
invariant-loop-g l = record {
  sits : Sits l.heap l.seat;
  traces : Traces (view_of l.seat);
  only : OnlyTraced (view_of l.fn.seat) (view_of l.seat);
  state : (view_of l.seat).state ≡ (view_of l.fn.seat).state;
  moves : IsTrue (only_moves input_pools (events (view_of l.fn.seat) (view_of l.seat)));
  few : length (events (view_of l.fn.seat) (view_of l.seat)) ≤ 2 * l.g;
}
