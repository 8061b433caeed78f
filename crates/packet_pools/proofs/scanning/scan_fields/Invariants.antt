use Rattle.std.proofs.Common.{◌-◌, ◌≡◌, ◌≤◌, ◌+◌, length, Some}
use Rattle.gc_table.specs.Seats.{Sits, view_of}
use Rattle.packet_pools.specs.OnlyTraced.{OnlyTraced}
use Rattle.gc_table.specs.Log.{events}
use Rattle.packet_pools.specs.Tracing.{Traces}
use Rattle.packet_pools.specs.Scanning.{Pushes}
use Rattle.packet_pools.specs.Counts.{CountsMarked}
use Rattle.packet_pools.specs.Fields.{Follows, fields_from}
use Rattle.packet_pools.specs.StepBounds.{room_left, scan_steps}
use Rattle.packet_pools.specs.Tried.{SearchesOn}
use Rattle.packet_pools.proofs.Rounds.{cleaned}
use Rattle.packet_pools.proofs.scanning.scan_fields.Given as goal

abbrev pub invariant-loop-i : goal.invariant-loop-i
invariant-loop-i l = record {
  sits : Sits l.heap l.seat;
  traces : Traces (view_of l.seat);
  only : OnlyTraced (view_of l.fn.seat) (view_of l.seat);
  order : l.fn.next ≤ l.i;
  still : l.heap.shape.fields ≤ l.fn.next → l.i ≡ l.fn.next;
  pushes : Pushes l.fn.out l.out (Some (l.fn.cell, l.i)) (cleaned l.fn.cell l.fn.next l.i (view_of l.fn.seat).state.cleaning) (view_of l.fn.seat) (view_of l.seat);
  most : (l.scanned.overflowed ≤ l.scanned.marked) × (l.scanned.marked + l.fn.next ≤ l.i);
  counts : CountsMarked l.heap.shape l.scanned.marked (l.scanned.marked - l.scanned.overflowed) l.scanned.overflowed (events (view_of l.fn.seat) (view_of l.seat));
  follows : Follows (fields_from l.fn.cell l.fn.next (l.i - l.fn.next)) (events (view_of l.fn.seat) (view_of l.seat));
  tried : SearchesOn l.heap.shape l.fn.search l.search l.fn.out l.out (events (view_of l.fn.seat) (view_of l.seat));
  few : length (events (view_of l.fn.seat) (view_of l.seat)) + room_left l.heap.shape l.search l.out.length ≤ room_left l.heap.shape l.fn.search l.fn.out.length + scan_steps (l.i - l.fn.next) l.heap.shape;
}
