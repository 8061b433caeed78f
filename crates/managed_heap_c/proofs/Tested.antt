-- What asking came to.
use Rattle.std.proofs.Common.{ℕ, ◌≡◌, Bool, true, false, refl, sym, subst, inl, inr}
use Rattle.std.specs.Prelude.{Result, Ok, Err, IfOk, IfErr, IsTrue, IsFalse}
use Rattle.plain_heap.specs.declared.operation.Op.{Op}
use Rattle.seat_steps.specs.declared.came.Came.{Came}
use Rattle.seat_steps.specs.declared.came.Came.TheVariants as cames
use Rattle.seat_steps.specs.Asking.{DeclinesToTell, MayAsk}
use Rattle.seat_steps.specs.declared.stepper.Stepper.{Stepper}
use Rattle.managed_heap_c.specs.Asking.{TestsTo, WritesAnswer, number_of_answer, SaysWhether}

-- there is no answer
declined : (P : Stepper → Type 0) (op : Op) (before after : ℕ) (came : Came) (s : Stepper) → DeclinesToTell came op s → after ≡ before → TestsTo P op before after came s s
declined P op before after cames.Done s d q = absurd d
declined P op before after came s d q = (d, refl, q)

said : (P : Type 0) (told : Bool) → (IsTrue told → P) → (IsFalse told → P → ⊥) → SaysWhether P (number_of_answer told)
said P true y n = inl (refl, y refl)
said P false y n = inr (refl, n refl)

pub tested :
    (P : Stepper → Type 0) (op : Op) (before after : ℕ) (came : Came) (r : Result Bool Came) (s : Stepper) → IfOk r (λ told. IsTrue told → P s) → IfOk r (λ told. IsFalse told → P s → ⊥) → IfOk r (λ _. MayAsk op s) → IfErr r (λ why. DeclinesToTell why op s)
    → WritesAnswer came r before after → TestsTo P op before after came s s
tested P op before after came (Ok told) s y n may none w =
    subst (λ c. TestsTo P op before after c s s) (sym w.0) (subst (λ k. SaysWhether (P s) k) (sym w.1) (said (P s) told y n), may, refl)
tested P op before after came (Err why) s y n may none w = subst (λ c. TestsTo P op before after c s s) (sym w.0) (declined P op before after why s none w.1)
