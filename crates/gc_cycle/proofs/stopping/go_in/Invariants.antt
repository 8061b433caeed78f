use Rattle.gc_table.specs.Seats.{Sits, view_of}
use Rattle.std.proofs.Common.{◌≡◌, ◌++◌, List, true, false}
use Rattle.gc_table.specs.Log.{events, Only}
use Rattle.gc_table.specs.declared.view.Entry.{Entry}
use Rattle.packet_pools.specs.Seeking.{some_event}
use Rattle.gc_cycle.specs.Answering.{waits_helping}
use Rattle.gc_cycle.specs.Polling.{offered_help}
use Rattle.gc_cycle.specs.Mutating.{GoesOut, is_in_stop}
use Rattle.gc_cycle.specs.Events.{each_after}
use Rattle.gc_cycle.specs.Sorts.{pops_or_clears, resumes}
use Rattle.gc_cycle.specs.Standing.{IsOut}
use Rattle.gc_cycle.specs.Statistics.{leaves_numbers}
use Rattle.gc_cycle.specs.Turns.{HelpsInTurns}
use Rattle.gc_cycle.proofs.stopping.go_in.Given as goal

abbrev pub invariant-loop : goal.invariant-loop
invariant-loop g l = record {
  next : (goal.iterator-loop g).can_next l.iterator';
  finite : (goal.iterator-loop g).is_finite l.iterator';
  sits : Sits l.heap l.seat;
  out : IsOut (view_of l.seat);
  goes : GoesOut (view_of l.fn.seat) (view_of l.seat);
  own : (view_of l.seat).own ≡ (view_of l.fn.seat).own;
  waits : (ys : List Entry) → waits_helping ys ≡ true → offered_help ys ≡ true → waits_helping (events (view_of l.fn.seat) (view_of l.seat) ++ ys) ≡ true;
  offered : offered_help (events (view_of l.fn.seat) (view_of l.seat)) ≡ true;
  numbers : Only leaves_numbers (view_of l.fn.seat) (view_of l.seat);
  helps : HelpsInTurns (view_of l.fn.seat) (view_of l.seat);
  away : (before : List Entry) → is_in_stop before ≡ true → (each_after is_in_stop pops_or_clears before (events (view_of l.fn.seat) (view_of l.seat)) ≡ true) × (is_in_stop (before ++ events (view_of l.fn.seat) (view_of l.seat)) ≡ true);
  unresumed : some_event resumes (events (view_of l.fn.seat) (view_of l.seat)) ≡ false;
}
