-- The seat of section 0 as it begins, and as it goes on.
use Rattle.std.proofs.Common.{ℕ, ap, ◌∙◌}
use Rattle.gc_table.specs.Running.{Ran}
use Rattle.gc_table.specs.SeatRecords.{resting}
use Rattle.gc_table.specs.Seats.{view_of}
use Rattle.gc_table.specs.declared.seat.Heap.{Heap}
use Rattle.gc_table.specs.declared.seat.HeapSeat.{HeapSeat}
use Rattle.gc_table.specs.declared.view.SectionState.{SectionState}
use Rattle.gc_table.proofs.Running.{ran-number, ran-opened}
use Rattle.managed_heap.specs.Opening.{IsNewSeat, Opens}
use Rattle.managed_heap.specs.Gathering.{IsFirstSeat}

pub new-opens : (h : Heap) (x : HeapSeat) → IsNewSeat h 0 x → Opens h resting x
new-opens h x new = ((new.0, new.1.state), ap (λ (o : SectionState). o.meaning) new.1.own, ap (λ (o : SectionState). o.seasons) new.1.own, new.1.plan_is)

-- it stays the seat of section 0, whatever steps it takes
pub first-kept : (h : Heap) (tracers : ℕ) (s t : HeapSeat) → IsFirstSeat h tracers s → Ran (view_of s) (view_of t) → IsFirstSeat h tracers t
first-kept h tracers s t first ran = record { number = ran-number (view_of s) (view_of t) ran ∙ first.number; opened = ran-opened (view_of s) (view_of t) ran ∙ first.opened }
