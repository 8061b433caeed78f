-- Seats that have done nothing are dealt out to mutators.
use Rattle.std.proofs.Common.{[], ℕ, ◌≡◌, ◌+◌, ◌<◌, ◌∙◌, List, ◌∷◌, ◌++◌, ap, length, subst, sym, ⊎_elim, Some}
use Rattle.std.specs.Prelude.{slice_get}
use Rattle.std.specs.Arc.{arc_value}
use Rattle.mark_core.specs.declared.seat.SeatState.{SeatState}
use Rattle.gc_table.specs.declared.seat.Heap.{Heap}
use Rattle.gc_table.proofs.Records.{got-snoc}
use Rattle.managed_heap.proofs.Starting.{own-section}
use Rattle.shared_heap.specs.Lending.{AreFresh, IsFreshSharer}
use Rattle.shared_heap.specs.Opening.{IsNewSeat}
use Rattle.shared_heap.specs.declared.mutator.Place.TheVariants.{Outside}
use Rattle.shared_heap.specs.declared.mutator.SharedMutator.{SharedMutator}

-- a mutator of such a seat has done nothing
pub fresh-of : (h : Heap) (name k : ℕ) (m : SharedMutator) → IsNewSeat h k m.seat → k < h.shape.sections → arc_value m.heap ≡ h → m.place ≡ Outside → m.name ≡ name → IsFreshSharer h name k m
fresh-of h name k m new low heap place named =
    record {
      heap = heap;
      place = place;
      name_is = named;
      number = ap (λ (s : SeatState). s.number) new.1.state;
      section = ap (λ (s : SeatState). s.section) new.1.state ∙ own-section h.shape k low;
      variables = ap (λ (s : SeatState). s.env) new.1.state;
      made = ap (λ (s : SeatState). s.made) new.1.state;
      log = new.1.log;
    }

-- one more
pub fresh-push : (h : Heap) (name k : ℕ) (ms all : List SharedMutator) (m : SharedMutator) → AreFresh h name k ms → IsFreshSharer h name (k + length ms) m → all ≡ ms ++ m ∷ [] → AreFresh h name k all
fresh-push h name k ms all m fresh new e i x at =
    ⊎_elim (λ (old : slice_get ms i ≡ Some x). fresh i x old)
    (λ (last : (i ≡ length ms) × (m ≡ x)). subst (λ (q : ℕ × SharedMutator). IsFreshSharer h name (k + q.0) q.1) (λ j. (sym last.0 j, last.1 j)) new)
    (got-snoc ms m x i (ap (λ (l : List SharedMutator). slice_get l i) (sym e) ∙ at))
