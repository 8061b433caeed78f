use Rattle.std.proofs.Common.{◌≡◌, List}
use Rattle.gc_table.specs.Seats.{view_of}
use Rattle.gc_table.specs.declared.view.View.{View}
use Rattle.seat_turns.specs.Tallying.{Tallies}
use Rattle.seat_turns.specs.Tracing.{TakesTurns}
use Rattle.seat_turns.proofs.background.Tracer.run.Given as goal

abbrev pub invariant-loop : goal.invariant-loop
invariant-loop g l = record {
  can : (goal.iterator-loop g).can_next l.iterator';
  ends : (goal.iterator-loop g).is_finite l.iterator';
  tally : Tallies l.initial.self.traced l.self.traced (view_of l.initial.self.seat) (view_of l.self.seat);
  turns : (us : List View) × TakesTurns us (view_of l.initial.self.seat) (view_of l.self.seat);
  world : (l.self.heap ≡ l.initial.self.heap) × (l.self.name ≡ l.initial.self.name);
}
