use Rattle.gc_table.specs.Seats.{Sits, view_of}
use Rattle.gc_cycle.specs.Answering.{HasCache}
use Rattle.warehouse.specs.Playing.{Stays, DoesNothing}
use Rattle.gc_cycle.specs.Standing.{Mutates}
use Rattle.warehouse.proofs.turn.await_turn.Given as goal

-- the section is as it was, whatever it waited for
abbrev pub invariant-loop : goal.invariant-loop
invariant-loop g l = record {
  next : (goal.iterator-loop g).can_next l.iterator';
  finite : (goal.iterator-loop g).is_finite l.iterator';
  sits : Sits l.heap l.seat;
  mutates : Mutates (view_of l.seat);
  cached : HasCache l.cache (view_of l.seat);
  stays : Stays (view_of l.fn.seat) (view_of l.seat);
  waits : DoesNothing (view_of l.fn.seat) (view_of l.seat);
}
