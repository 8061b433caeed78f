use Rattle.std.proofs.Common.{◌≡◌, ◌≤◌, true}
use Rattle.gc_table.specs.Log.{events}
use Rattle.gc_table.specs.Seats.{Sits, view_of}
use Rattle.packet_pools.specs.Counts.{count_of}
use Rattle.gc_cycle.specs.Draining.{HelpsOn}
use Rattle.gc_cycle.specs.Events.{never}
use Rattle.gc_cycle.specs.Sorts.{passes_card, reads_count}
use Rattle.gc_cycle.proofs.helping.help_drain.Given as goal

abbrev pub invariant-loop-look : goal.invariant-loop-look
invariant-loop-look l = record {
  sits : Sits l.heap l.seat;
  helps : HelpsOn l.quota l.helped (view_of l.fn.seat) (view_of l.seat);
  none : l.helped.rescanned ≡ 0;
  unpassed : never passes_card (events (view_of l.fn.seat) (view_of l.seat)) ≡ true;
  looked : l.look ≤ count_of reads_count (events (view_of l.fn.seat) (view_of l.seat));
}
