use Rattle.std.proofs.Common.{◌≡◌, ℕ, ◌+◌, ◌≤◌, vec_len, length, Some}
use Rattle.std.specs.Prelude.{slice_get, vec_capacity}
use Rattle.gc_table.specs.declared.seat.HeapSeat.{HeapSeat}
use Rattle.gc_table.specs.Seats.{Sits, view_of, IsFresh}
use Rattle.gc_table.proofs.seat.Heap.create_all.Given as goal

abbrev pub invariant-loop-number : goal.invariant-loop-number
invariant-loop-number l = record {
  shape : l.heap.shape ≡ l.fn.shape;
  keyed : l.heap.table.shared.key.plan ≡ l.fn.plan;
  sits : Sits l.heap l.first;
  fresh : IsFresh l.fn.shape l.fn.plan.parts 0 (view_of l.first);
  opened : (view_of l.first).opened ≡ l.number;
  count : vec_len l.all + 1 ≡ l.number;
  long : length l.all.items + 1 ≡ l.number;
  room : l.fn.seats ≤ vec_capacity l.all;
  each : (i : ℕ) (s : HeapSeat) → slice_get l.all.items i ≡ Some s → Sits l.heap s × IsFresh l.fn.shape l.fn.plan.parts (i + 1) (view_of s);
}
