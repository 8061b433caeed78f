use Rattle.std.proofs.Common.{◌≡◌, ◌+◌, All}
use Rattle.std.specs.Prelude.{vec_capacity, vec_len}
use Rattle.gc_table.specs.declared.seat.Heap.{Heap}
use Rattle.seat_turns.specs.Standing.{RestsOutside}
use Rattle.managed_heap.specs.Gathering.{AreOf, Gathers, handed}
use Rattle.managed_heap.proofs.gathering.gather.Given as goal

abbrev pub invariant-loop-at : goal.invariant-loop-at
invariant-loop-at g l = record {
  gathers : Gathers (handed g.M.Lent.seat_in g.M.Lent.leaves) l.fn.all.items l.all.items l.fn.seats.items l.seats.items;
  rest : (h : Heap) → AreOf g.M.Lent.heap_in h l.fn.all.items → All (RestsOutside h) l.fn.seats.items → AreOf g.M.Lent.heap_in h l.all.items × All (RestsOutside h) l.seats.items;
  count : vec_len l.all + l._at ≡ l.count;
  long : vec_len l.all + vec_len l.seats ≡ vec_len l.fn.all + vec_len l.fn.seats;
  capacity : vec_capacity l.seats ≡ vec_capacity l.fn.seats;
}
