-- A step of a collection, by the stages before and after it.
use Rattle.std.proofs.Common.{ℕ, Bool, ◌≡◌, refl, sym, subst, inr}
use Rattle.gc_table.specs.Seats.{Across}
use Rattle.gc_table.specs.declared.seat.Heap.{Heap}
use Rattle.seat_steps.specs.Course.{EndsBy}
use Rattle.seat_steps.specs.Arriving.{Arrives}
use Rattle.seat_steps.specs.declared.came.Came.{Came}
use Rattle.seat_steps.specs.declared.came.Came.TheVariants as cames
use Rattle.seat_steps.specs.Bounds.{IsBounded, IsBoundedStep}
use Rattle.seat_steps.specs.Stepping.{KeepsCycle, KeepsRest}
use Rattle.seat_steps.specs.Steps.{KeepsTold, StepsCollection, StepsOn, counts_of}
use Rattle.seat_steps.specs.declared.stepper.Stage.{Stage}
use Rattle.seat_steps.specs.declared.stepper.Stage.TheVariants as stages
use Rattle.seat_steps.specs.declared.stepper.Stepper.{Stepper}

pub step-on : (precise : Bool) (most : ℕ) (x y : Stepper) (s t : Stage) → x.stage ≡ s → y.stage ≡ t → KeepsTold t x y → StepsOn precise s t most x y → KeepsRest x y → StepsCollection precise most cames.NotYet x y
step-on precise most x y s t e f told p k = (subst (λ (a : Stage). StepsOn precise a y.stage most x y) (sym e) (subst (λ (b : Stage). StepsOn precise s b most x y) (sym f) p), k, subst (λ (b : Stage). KeepsTold b x y) (sym f) told)

pub bounded-on : (most : ℕ) (x y : Stepper) (s t : Stage) → x.stage ≡ s → y.stage ≡ t → IsBounded s t most x y → IsBoundedStep most x y
bounded-on most x y s t e f p = subst (λ (a : Stage). IsBounded a y.stage most x y) (sym e) (subst (λ (b : Stage). IsBounded s b most x y) (sym f) p)

-- the last step, if the stepper left
pub ends-out : (precise : Bool) (most : ℕ) (came : Came) (h : Heap) (x y : Stepper) → (came ≡ cames.Done → ⊥) → Arrives came h y.seat → x.stage ≡ stages.Ending → Across (EndsBy x.exact (counts_of x) came) x.seat y.seat → KeepsCycle x y → y.stage ≡ stages.Outside → KeepsRest x y → StepsCollection precise most came x y
ends-out precise most cames.Done h x y other a e p q f k = absurd (other refl)
ends-out precise most cames.Stopped h x y other a e p q f k = (inr (e, p, q), f, k)
ends-out precise most cames.Full h x y other a e p q f k = (inr (e, p, q), a.1, f, k)
ends-out precise most came h x y other a e p q f k = absurd a
