use Rattle.std.proofs.Common.{ℕ, ◌≡◌, ◌<◌}
use Rattle.gc_table.specs.Seats.{Sits, view_of}
use Rattle.gc_table.specs.Log.{events}
use Rattle.card_clean.specs.Leaving.{rescanned_in}
use Rattle.gc_cycle.specs.Finishing.{DrainsInStop}
use Rattle.gc_cycle.specs.Lower.{HasTraced}
use Rattle.gc_cycle.specs.Turns.{SeesToRoots}
use Rattle.gc_cycle.proofs.draining.scan_all_roots.Given as goal

abbrev pub invariant-loop-section : goal.invariant-loop-section
invariant-loop-section l = record {
  sits : Sits l.heap l.seat;
  drains : DrainsInStop (view_of l.seat);
  traced : HasTraced (view_of l.fn.seat) (view_of l.seat);
  none : rescanned_in (view_of l.fn.seat) (events (view_of l.fn.seat) (view_of l.seat)) ≡ 0;
  roots : (s : ℕ) → s < l.section → SeesToRoots s (view_of l.fn.seat) (view_of l.seat);
}
