-- A mutator inside the world does an operation of its seat.
use Rattle.std.proofs.Common.{ℕ, ◌≡◌, subst, sym, false}
use Rattle.std.specs.Arc.{arc_value}
use Rattle.plain_heap.specs.Sections.{lends}
use Rattle.plain_heap.specs.declared.operation.Op.{Op}
use Rattle.gc_table.specs.Seats.{Sits, view_of}
use Rattle.gc_table.specs.declared.seat.Heap.{Heap}
use Rattle.gc_table.specs.declared.seat.HeapSeat.{HeapSeat}
use Rattle.mutator_ops.specs.Doing.{Does}
use Rattle.mutator_ops.specs.Ready.{IsReady}
use Rattle.seat_turns.proofs.Done.{turn-ready, Operated, operated}
use Rattle.managed_heap.specs.declared.mutator.Mutator.{Mutator}
use Rattle.managed_heap.specs.declared.mutator.Place.TheVariants.{Inside}

pub ready : (m : Mutator) (h : Heap) → h ≡ arc_value m.heap → m.place ≡ Inside → Sits h m.seat × IsReady (view_of m.seat)
ready m h e inside = subst (λ (x : Heap). Sits x m.seat × IsReady (view_of m.seat)) (sym e) (turn-ready (arc_value m.heap) m.seat (m.inside inside) m.owned)

pub done : (op : Op) (d : ℕ) (m : Mutator) (h : Heap) (y : HeapSeat) → lends op ≡ false → h ≡ arc_value m.heap → m.place ≡ Inside → Sits h y × IsReady (view_of y) → Does op d (view_of m.seat) (view_of y) → Operated op (arc_value m.heap) m.seat y
done op d m h y own e inside r k =
    operated op d (arc_value m.heap) m.seat y own (m.inside inside) m.owned (subst (λ (x : Heap). Sits x y × IsReady (view_of y)) e r) k
