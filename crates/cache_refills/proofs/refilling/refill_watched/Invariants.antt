use Rattle.std.proofs.Common.{[], true, ◌≡◌}
use Rattle.gc_table.specs.Seats.{Sits, view_of}
use Rattle.gc_cycle.specs.Statistics.{ChangesNumbers}
use Rattle.cache_refills.proofs.Refills.RoundsSoFar.{HasTried}
use Rattle.gc_table.specs.Log.{events}
use Rattle.cache_refills.specs.Pace.Pacing.{begins_where_due}
use Rattle.cache_refills.specs.Notices.{IsTold}
use Rattle.cache_refills.specs.Telling.{TellsStops}
use Rattle.cache_refills.proofs.refilling.refill_watched.Given as goal

abbrev pub invariant-loop : goal.invariant-loop
invariant-loop g l = record {
  next : (goal.iterator-loop g).can_next l.iterator';
  finite : (goal.iterator-loop g).is_finite l.iterator';
  sits : Sits l.heap l.seat;
  numbers : ChangesNumbers [] (view_of l.fn.seat) (view_of l.seat);
  due : begins_where_due (events (view_of l.fn.seat) (view_of l.seat)) ≡ true;
  tried : HasTried l.fn.done (view_of l.fn.seat) (view_of l.seat);
  told : IsTold g.W.Watch.hears (λ ns. TellsStops ns (view_of l.fn.seat) (view_of l.seat)) l.fn.watch l.watch;
}
