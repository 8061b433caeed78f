use Rattle.std.proofs.Common.{ℕ, ◌≡◌, ◌<◌, true}
use Rattle.mark_core.specs.Bits.{all_ones}
use Rattle.mark_core.specs.Places.{alloc_at}
use Rattle.mark_core.specs.declared.kinds.Phase.TheVariants.{Idle}
use Rattle.gc_table.specs.Log.{events, Only}
use Rattle.gc_table.specs.Running.{Known}
use Rattle.gc_table.specs.Seats.{Sits, view_of}
use Rattle.packet_pools.specs.Seeking.{some_event}
use Rattle.gc_cycle.specs.Finishing.{IsPart}
use Rattle.gc_cycle.specs.Sorts.{reads_all_ones}
use Rattle.gc_cycle.specs.Statistics.{leaves_numbers}
use Rattle.cache_refills.proofs.claiming.all_allocated.Given as goal

abbrev pub invariant-loop-b : goal.invariant-loop-b
invariant-loop-b l = record {
  sits : Sits l.heap l.seat;
  numbers : Only leaves_numbers (view_of l.fn.seat) (view_of l.seat);
  part : IsPart Idle (view_of l.fn.seat) (view_of l.seat);
  seen : (k : ℕ) → k < l.b → some_event (reads_all_ones k) (events (view_of l.fn.seat) (view_of l.seat)) ≡ true;
  noted : (k : ℕ) → k < l.b → Known (view_of l.seat) (alloc_at k) all_ones;
}
