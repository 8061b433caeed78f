-- What a stepper counts as traced in a step of a refill.
use Rattle.std.proofs.Common.{ℕ, ◌≡◌, sym, subst}
use Rattle.gc_table.specs.Seats.{view_of}
use Rattle.gc_table.specs.declared.seat.HeapSeat.{HeapSeat}
use Rattle.gc_table.specs.declared.view.View.{View}
use Rattle.seat_steps.specs.PaidTries.{CountsRefill}
use Rattle.seat_steps.specs.Payments.{PaysRefill}
use Rattle.seat_steps.specs.Refilling.{reach}
use Rattle.seat_steps.specs.declared.stepper.Stepper.{Stepper}

-- a step of a refill, by how many blocks it looks at
pub refill-at : (most n paid : ℕ) (x : Stepper) (w : View) → n ≡ reach most x → CountsRefill x.block n x.paid paid (view_of x.seat) w → CountsRefill x.block (reach most x) x.paid paid (view_of x.seat) w
refill-at most n paid x w is p = subst (λ (i : ℕ). CountsRefill x.block i x.paid paid (view_of x.seat) w) is p

-- the stepper noted it
pub pays-refill : (most n paid : ℕ) (s : HeapSeat) (x y : Stepper) → n ≡ reach most x → y.seat ≡ s → y.paid ≡ paid → CountsRefill x.block n x.paid paid (view_of x.seat) (view_of s) → PaysRefill most x y
pays-refill most n paid s x y is seat same p =
    refill-at most n y.paid x (view_of y.seat) is
    (subst (λ (t : HeapSeat). CountsRefill x.block n x.paid y.paid (view_of x.seat) (view_of t)) (sym seat)
    (subst (λ (k : ℕ). CountsRefill x.block n x.paid k (view_of x.seat) (view_of s)) (sym same) p))
