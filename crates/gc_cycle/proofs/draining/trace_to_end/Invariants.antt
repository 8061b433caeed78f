use Rattle.std.proofs.Common.{◌≡◌}
use Rattle.gc_table.specs.Log.{events}
use Rattle.gc_table.specs.Seats.{Sits, view_of}
use Rattle.card_clean.specs.Leaving.{rescanned_in}
use Rattle.gc_cycle.specs.Finishing.{DrainsInStop}
use Rattle.gc_cycle.specs.Lower.{HasTraced}
use Rattle.gc_cycle.proofs.draining.trace_to_end.Given as goal

abbrev pub invariant-loop : goal.invariant-loop
invariant-loop g l = record {
  next : (goal.iterator-loop g).can_next l.iterator';
  finite : (goal.iterator-loop g).is_finite l.iterator';
  sits : Sits l.heap l.seat;
  drains : DrainsInStop (view_of l.seat);
  traced : HasTraced (view_of l.fn.seat) (view_of l.seat);
  none : rescanned_in (view_of l.fn.seat) (events (view_of l.fn.seat) (view_of l.seat)) ≡ 0;
}
