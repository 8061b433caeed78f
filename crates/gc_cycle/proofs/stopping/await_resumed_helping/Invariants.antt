use Rattle.gc_table.specs.Seats.{Sits, view_of}
use Rattle.std.proofs.Common.{◌≡◌, List, true}
use Rattle.gc_cycle.specs.Events.{never}
use Rattle.gc_cycle.specs.Sorts.{leaves, lets_in}
use Rattle.gc_table.specs.Log.{events, Only}
use Rattle.gc_table.specs.declared.view.View.{View}
use Rattle.gc_cycle.specs.Mutating.{GoesOut}
use Rattle.gc_cycle.specs.Standing.{IsOut}
use Rattle.gc_cycle.specs.Statistics.{leaves_numbers}
use Rattle.gc_cycle.specs.Turns.{HelpsBetween, help_quota}
use Rattle.gc_cycle.proofs.Stops.OutAndIn.{Offered}
use Rattle.gc_cycle.proofs.stopping.await_resumed_helping.Given as goal

abbrev pub invariant-loop : goal.invariant-loop
invariant-loop g l = record {
  next : (goal.iterator-loop g).can_next l.iterator';
  finite : (goal.iterator-loop g).is_finite l.iterator';
  sits : Sits l.heap l.seat;
  out : IsOut (view_of l.seat);
  goes : GoesOut (view_of l.fn.seat) (view_of l.seat);
  own : (view_of l.seat).own ≡ (view_of l.fn.seat).own;
  offered : Offered (events (view_of l.fn.seat) (view_of l.seat));
  inside : never leaves (events (view_of l.fn.seat) (view_of l.seat)) ≡ true;
  numbers : Only leaves_numbers (view_of l.fn.seat) (view_of l.seat);
  helps : (turns : List (View × View)) × HelpsBetween help_quota (view_of l.fn.seat) turns (view_of l.fn.seat) (view_of l.seat);
  first : l.cards ≡ never lets_in (events (view_of l.fn.seat) (view_of l.seat));
}
