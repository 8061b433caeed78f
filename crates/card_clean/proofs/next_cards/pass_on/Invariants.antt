use Rattle.std.proofs.Common.{List, ◌≡◌, ◌≤◌, ◌+◌, ◌*◌, length}
use Rattle.std.specs.Prelude.{IsFalse}
use Rattle.mark_core.specs.Seats.{work_in_hand}
use Rattle.gc_table.specs.Log.{events}
use Rattle.gc_table.specs.Seats.{Sits, view_of}
use Rattle.gc_table.specs.declared.view.View.{View}
use Rattle.packet_pools.specs.Scanning.{Fills}
use Rattle.packet_pools.specs.StepBounds.{room_left}
use Rattle.packet_pools.specs.Tracing.{Traces}
use Rattle.packet_pools.specs.Tried.{SearchesThrough}
use Rattle.card_clean.specs.NextCards.{OnlyPassed, PassesEach}
use Rattle.card_clean.specs.StepBounds.{next_steps}
use Rattle.card_clean.proofs.next_cards.pass_on.Given as goal

abbrev pub invariant-loop-look : goal.invariant-loop-look
invariant-loop-look l = record {
  sits : Sits l.heap l.seat;
  traces : Traces (view_of l.seat);
  only : OnlyPassed (view_of l.fn.seat) (view_of l.seat);
  packet : Fills l.fn.out l.out (view_of l.fn.seat) (view_of l.seat);
  work : IsFalse (work_in_hand l.heap.shape.fields (view_of l.seat).state);
  passes : (us : List View) × (length us ≡ l.look) × PassesEach us (view_of l.fn.seat) (view_of l.seat);
  tried : SearchesThrough l.heap.shape l.fn.search l.search l.fn.out l.out (events (view_of l.fn.seat) (view_of l.seat));
  few : length (events (view_of l.fn.seat) (view_of l.seat)) + room_left l.heap.shape l.search l.out.length ≤ room_left l.heap.shape l.fn.search l.fn.out.length + l.look * next_steps l.heap.shape;
}
