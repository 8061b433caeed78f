use Rattle.gc_table.specs.Rule.{KnowsFull}
use Rattle.std.proofs.Common.{◌⊎◌, ◌≡◌, ℕ, ◌+◌, ◌<◌, length, vec_len, Some}
use Rattle.std.specs.Prelude.{slice_get, Contains}
use Rattle.gc_table.specs.declared.seat.HeapSeat.{HeapSeat}
use Rattle.gc_table.specs.Ends.{IsLeft}
use Rattle.gc_table.specs.Seats.{seen_of, view_of}
use Rattle.gc_table.proofs.seat.Heap.join_all.Given as goal

abbrev pub decreases-loop-seat : goal.decreases-loop-seat
decreases-loop-seat l = vec_len l.seats

abbrev pub invariant-loop-seat : goal.invariant-loop-seat
invariant-loop-seat l = record {
  kept : IsLeft l.self l.first;
  first : (s : HeapSeat) → slice_get l.fn.seats.items 0 ≡ Some s → (l.first.me.0.view.state ≡ (view_of s).state) × (l.first.me.0.view.own ≡ (view_of s).own) × (l.first.me.0.view.plan ≡ (view_of s).plan) × (l.first.me.0.view.opened ≡ (view_of s).opened) × (l.first.me.0.view.log ≡ (view_of s).log);
  joined : (i : ℕ) (s : HeapSeat) (w : ℕ) → length l.seats.items < i → slice_get l.fn.seats.items i ≡ Some s → (view_of s).state.section ≡ Some w → Contains l.first.me.0.view.joined (w, (view_of s).own);
  logs : (i : ℕ) (s : HeapSeat) → length l.seats.items < i → slice_get l.fn.seats.items i ≡ Some s → Contains l.first.me.0.view.logs (i, (view_of s).log);
  seen : (s : HeapSeat) → slice_get l.fn.seats.items 0 ≡ Some s → l.first.me.0.seen ≡ seen_of s;
  told : (i : ℕ) (s : HeapSeat) → length l.seats.items < i → slice_get l.fn.seats.items i ≡ Some s → Contains l.first.me.0.heard (seen_of s);
  full : (i : ℕ) (s : HeapSeat) → (i ≡ 0) ⊎ (length l.seats.items < i) → slice_get l.fn.seats.items i ≡ Some s → KnowsFull (view_of s) → KnowsFull l.first.me.0.view;
  left : (i : ℕ) (s : HeapSeat) → slice_get l.seats.items i ≡ Some s → slice_get l.fn.seats.items (i + 1) ≡ Some s;
}
