-- What the mutator behind a handle came to, if there is one.
use Rattle.std.proofs.Common.{ℕ, ◌≡◌, refl, sym, subst, Option, Some, None, inl, inr}
use Rattle.std.specs.Prelude.{IsTrue}
use Rattle.seat_steps.specs.declared.came.Came.{Came}
use Rattle.seat_steps.specs.Stepping.{is_collecting}
use Rattle.seat_steps.specs.declared.stepper.Stepper.{Stepper}
use Rattle.managed_heap_c.specs.Answering.{Answers, GivesBack, StaysWith, status_of_came}
use Rattle.managed_heap_c.specs.Kinds.{Refuses, TakesBack}
use Rattle.managed_heap_c.specs.declared.hands.AnyWorld.{AnyWorld}

pub answered : (P : Came → Stepper → Stepper → Type 0) (n : ℕ) (x : Option Stepper) (s t : Stepper) (came : Came) → x ≡ Some s → n ≡ status_of_came came → P came s t → Answers P n x (Some t)
answered P n x s t came e k p = subst (λ q. Answers P n q (Some t)) (sym e) (came, t, k, refl, p)

-- it went back to the world
pub gone : (s : Stepper) (w x : AnyWorld) (o y : Option Stepper) → o ≡ Some s → y ≡ None → TakesBack s w x → GivesBack 0 w x o y
gone s w x o y e n b = subst (λ q. GivesBack 0 w x q y) (sym e) (subst (λ q. GivesBack 0 w x (Some s) q) (sym n) (refl, b))

-- the handle keeps it
kept_on : (n : ℕ) (w x : AnyWorld) (s t : Stepper) (o y : Option Stepper) → o ≡ Some s → y ≡ Some t → StaysWith n w x s t → GivesBack n w x o y
kept_on n w x s t o y e k p = subst (λ q. GivesBack n w x q y) (sym e) (subst (λ q. GivesBack n w x (Some s) q) (sym k) p)

-- it collects, and is kept
pub kept : (w : AnyWorld) (s : Stepper) (o y : Option Stepper) → o ≡ Some s → y ≡ Some s → IsTrue (is_collecting s.stage) → GivesBack 5 w w o y
kept w s o y e k c = kept_on 5 w w s s o y e k (inl (refl, c, refl, refl))

-- the world refused it
pub refused : (w x : AnyWorld) (s t : Stepper) (o y : Option Stepper) → o ≡ Some s → y ≡ Some t → Refuses s t w x → GivesBack 14 w x o y
refused w x s t o y e k r = kept_on 14 w x s t o y e k (inr (refl, r))
