use Rattle.std.specs.Prelude.{IsTrue}
use Rattle.mark_core.specs.Seats.{may_mutate}
use Rattle.gc_table.specs.Seats.{Across, Sits, state_of}
use Rattle.mutator_ops.proofs.Flushed.{FlushesTo}
use Rattle.mutator_ops.proofs.flushing.flush_roots.Given as goal

abbrev pub invariant-loop-v : goal.invariant-loop-v
invariant-loop-v l = record {
  sits : Sits l.heap l.seat;
  turn : IsTrue (may_mutate (state_of l.seat));
  flushes : Across (FlushesTo l.v) l.fn.seat l.seat;
}
