use Rattle.std.proofs.Common.{◌≡◌, ◌≤◌, ◌+◌, ◌-◌, ◌*◌, length}
use Rattle.std.specs.Prelude.{IsTrue, IsFalse}
use Rattle.std.specs.List.{range_with_len}
use Rattle.mark_core.specs.Seats.{work_in_hand}
use Rattle.gc_table.specs.Seats.{Sits, view_of}
use Rattle.packet_pools.specs.Fields.{picked}
use Rattle.packet_pools.specs.OnlyTraced.{OnlyTraced}
use Rattle.packet_pools.specs.Tracing.{Traces}
use Rattle.packet_pools.specs.Scanning.{Fills}
use Rattle.card_clean.specs.Drained.{RootsBetween, roots_read, sees_roots}
use Rattle.card_clean.specs.Leaving.{rescanned_in}
use Rattle.gc_table.specs.Log.{Only, events}
use Rattle.packet_pools.specs.StepBounds.{follow_steps, room_left}
use Rattle.packet_pools.specs.Tried.{SearchesOn}
use Rattle.card_clean.proofs.roots.mark_between.Given as goal

abbrev pub invariant-loop-i : goal.invariant-loop-i
invariant-loop-i l = record {
  sits : Sits l.heap l.seat;
  traces : Traces (view_of l.seat);
  order : l.fn.from ≤ l.i;
  end : l.i ≤ l.fn.end;
  only : OnlyTraced (view_of l.fn.seat) (view_of l.seat);
  packet : Fills l.fn.out l.out (view_of l.fn.seat) (view_of l.seat);
  work : IsFalse (work_in_hand l.heap.shape.fields (view_of l.seat).state);
  left : rescanned_in (view_of l.fn.seat) (events (view_of l.fn.seat) (view_of l.seat)) ≡ 0;
  steps : Only sees_roots (view_of l.fn.seat) (view_of l.seat);
  noted : IsTrue (view_of l.fn.seat).state.alone → RootsBetween l.fn.from l.i (view_of l.seat);
  reads : picked (roots_read l.heap.shape) (events (view_of l.fn.seat) (view_of l.seat)) ≡ range_with_len l.fn.from (l.i - l.fn.from);
  tried : SearchesOn l.heap.shape l.fn.search l.search l.fn.out l.out (events (view_of l.fn.seat) (view_of l.seat));
  few : length (events (view_of l.fn.seat) (view_of l.seat)) + room_left l.heap.shape l.search l.out.length ≤ room_left l.heap.shape l.fn.search l.fn.out.length + (l.i - l.fn.from) * follow_steps l.heap.shape;
}
