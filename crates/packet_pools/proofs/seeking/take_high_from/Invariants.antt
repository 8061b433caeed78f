use Rattle.gc_table.specs.Seats.{Sits, view_of}
use Rattle.packet_pools.proofs.HighSearch.{Passes}
use Rattle.packet_pools.proofs.seeking.take_high_from.Given as goal

abbrev pub invariant-loop-p : goal.invariant-loop-p
invariant-loop-p l = record {
  sits : Sits l.heap l.seat;
  passes : Passes l.heap.shape l.fn.from l.p (view_of l.fn.seat) (view_of l.seat);
}
