-- The seat of section 0 tells the tracers that they are dismissed, and keeps what is known of it.
use Rattle.std.proofs.Common.{◌∙◌, ℕ, Option, ap}
use Rattle.std.specs.Prelude.{IsTrue, is_some}
use Rattle.gc_table.specs.Log.{Only}
use Rattle.gc_table.specs.Running.{Ran}
use Rattle.gc_table.specs.Seats.{state_of, view_of}
use Rattle.gc_table.specs.declared.seat.Heap.{Heap}
use Rattle.gc_table.specs.declared.seat.HeapSeat.{HeapSeat}
use Rattle.gc_table.proofs.Running.{ran-opened}
use Rattle.seat_turns.specs.Sharing.{spares_heap}
use Rattle.seat_turns.specs.Standing.{RestsOutside}
use Rattle.shared_heap.specs.Rooting.{HasSeats, IsRootSeat}
use Rattle.shared_heap.proofs.Keeping.{root-kept}

-- it has a section
pub section-zero : (h : Heap) (s : HeapSeat) → IsRootSeat h s → IsTrue (is_some (state_of s).section)
section-zero h s r = ap (λ (o : Option ℕ). is_some o) r.keeps.section

-- what a world keeps of it
pub record IsZero (h : Heap) (tracers : ℕ) (s : HeapSeat) : Type 0 where
  pub rests : RestsOutside h s
  pub first : IsRootSeat h s
  pub opened : HasSeats h tracers s

pub zero-told : (h : Heap) (tracers : ℕ) (s t : HeapSeat) → IsRootSeat h s → HasSeats h tracers s → RestsOutside h t → Ran (view_of s) (view_of t) → Only spares_heap (view_of s) (view_of t) → IsZero h tracers t
zero-told h tracers s t root seats rests ran only =
    record { rests = rests; first = root-kept h s t root (record { ran = ran; only = only }); opened = ran-opened (view_of s) (view_of t) ran ∙ seats }
