use Rattle.std.proofs.Common.{◌≡◌}
use Rattle.std.specs.Prelude.{◌⊎◌}
use Rattle.gc_table.specs.Log.{Only}
use Rattle.gc_table.specs.Running.{Ran}
use Rattle.gc_table.specs.Seats.{view_of}
use Rattle.gc_cycle.specs.Answering.{HasCache}
use Rattle.gc_cycle.specs.Mutating.{spares_blocks}
use Rattle.seat_turns.specs.Sharing.{LeavesHeap}
use Rattle.seat_turns.specs.SeasonLooks.{SeesOther}
use Rattle.seat_turns.specs.Standing.{Works, plain_of}
use Rattle.seat_turns.proofs.Coming.{Calm}
use Rattle.seat_turns.proofs.turns.pass.Given as goal

abbrev pub invariant-loop : goal.invariant-loop
invariant-loop g l = record {
  next : (goal.iterator-loop g).can_next l.iterator';
  finite : (goal.iterator-loop g).is_finite l.iterator';
  works : Works l.heap l.seat;
  cached : HasCache l.cache (view_of l.seat);
  same : plain_of l.seat ≡ plain_of l.fn.seat;
  ran : Ran (view_of l.fn.seat) (view_of l.seat);
  leaves : LeavesHeap (view_of l.fn.seat) (view_of l.seat);
  quiet : Calm l.fn.cache l.cache (view_of l.fn.seat) (view_of l.seat);
  since : (view_of l.seat ≡ view_of l.fn.seat) ⊎ SeesOther 1 (view_of l.seat);
  apart : Only spares_blocks (view_of l.fn.seat) (view_of l.seat);
}
