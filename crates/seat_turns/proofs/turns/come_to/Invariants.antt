use Rattle.std.proofs.Common.{◌≡◌, List, Option}
use Rattle.gc_table.specs.Seats.{view_of}
use Rattle.gc_cycle.specs.Answering.{HasCache}
use Rattle.gc_table.specs.declared.view.View.{View}
use Rattle.alloc_cache.specs.declared.cache.Cache.{Cache}
use Rattle.seat_turns.specs.Coming.{GoesRounds}
use Rattle.seat_turns.specs.Sharing.{LeavesHeap}
use Rattle.seat_turns.specs.Standing.{Works, plain_of}
use Rattle.cache_refills.specs.Notices.{IsTold}
use Rattle.seat_turns.specs.Telling.{TellsFills}
use Rattle.seat_turns.proofs.turns.come_to.Given as goal

abbrev pub invariant-loop : goal.invariant-loop
invariant-loop g l = record {
  next : (goal.iterator-loop g).can_next l.iterator';
  finite : (goal.iterator-loop g).is_finite l.iterator';
  works : Works l.heap l.seat;
  cached : HasCache l.cache (view_of l.seat);
  same : plain_of l.seat ≡ plain_of l.fn.seat;
  leaves : LeavesHeap (view_of l.fn.seat) (view_of l.seat);
  rounds : (moments : List (Option Cache × View)) × GoesRounds l.in_stops l.heap.shape moments l.fn.cache l.cache (view_of l.fn.seat) (view_of l.seat);
  told : IsTold g.W.Watch.hears (λ ns. TellsFills l.in_stops l.heap.shape ns (view_of l.fn.seat) (view_of l.seat)) l.fn.watch l.watch;
}
