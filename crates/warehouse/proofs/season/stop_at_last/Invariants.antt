use Rattle.std.proofs.Common.{◌≡◌}
use Rattle.std.specs.Prelude.{IsTrue}
use Rattle.gc_table.specs.Log.{events}
use Rattle.gc_table.specs.Seats.{Sits, view_of}
use Rattle.gc_cycle.specs.Events.{never}
use Rattle.gc_cycle.specs.Standing.{IsOut}
use Rattle.warehouse.specs.Pacing.{EndsCyclesAlone}
use Rattle.warehouse.specs.Turns.{KeepsPart, turns_season}
use Rattle.warehouse.proofs.season.stop_at_last.Given as goal

-- the seat is outside again, and the section as it was
abbrev pub invariant-loop : goal.invariant-loop
invariant-loop g l = record {
  next : (goal.iterator-loop g).can_next l.iterator';
  finite : (goal.iterator-loop g).is_finite l.iterator';
  sits : Sits l.heap l.seat;
  out : IsOut (view_of l.seat);
  keeps : KeepsPart (view_of l.fn.seat) (view_of l.seat);
  seasons : (view_of l.seat).own.seasons ≡ (view_of l.fn.seat).own.seasons;
  unturned : IsTrue (never turns_season (events (view_of l.fn.seat) (view_of l.seat)));
  paces : EndsCyclesAlone (view_of l.fn.seat) (view_of l.seat);
}
