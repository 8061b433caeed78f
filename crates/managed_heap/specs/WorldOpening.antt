-- The seats of a new heap, and the tracers that are made of them.
use Rattle.std.specs.Prelude.{ℕ, ◌≡◌, ◌+◌, [], ◌∷◌, List, Some, slice_get}
use Rattle.std.specs.Arc.{arc_value}
use Rattle.plain_heap.specs.declared.operation.Op.{Op}
use Rattle.gc_table.specs.Seats.{IsFresh, Sits, view_of}
use Rattle.gc_table.specs.declared.seat.Heap.{Heap}
use Rattle.gc_table.specs.declared.seat.HeapSeat.{HeapSeat}
use Rattle.seat_turns.specs.declared.background.Tracer.{Tracer}

-- seat k of a heap with this plan has done nothing
abbrev pub IsNewSeatOf : List (List Op) → Heap → ℕ → HeapSeat → Type 0
IsNewSeatOf plan h k s = Sits h s × IsFresh h.shape plan k (view_of s)

-- so are these, counted from k
abbrev pub AreNewOf : List (List Op) → Heap → ℕ → List HeapSeat → Type 0
AreNewOf plan h k xs = (i : ℕ) (s : HeapSeat) → slice_get xs i ≡ Some s → IsNewSeatOf plan h (k + i) s

-- the first of these is number k by P, and the others those after it, one after the other
abbrev pub AreNumbered : {X : Type 0} → (ℕ → X → Type 0) → ℕ → List X → Type 0
AreNumbered P k [] = Unit {0}
AreNumbered P k (x ∷ xs) = P k x × AreNumbered P (k + 1) xs

-- the tracer with seat k of this heap and with this name, that has done nothing
pub record IsFreshTracer (plan : List (List Op)) (h : Heap) (name k : ℕ) (t : Tracer) : Type 0 where
  pub heap : arc_value t.heap ≡ h
  pub name_is : t.name ≡ name
  pub traced : t.traced ≡ 0
  pub seat : IsNewSeatOf plan h k t.seat
