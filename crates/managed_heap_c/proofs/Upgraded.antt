-- What a call for a weak reference came to, by what is written for its answer, and by the numbers of C.
use Rattle.std.proofs.Common.{ℕ, ◌≡◌, sym, subst}
use Rattle.std.specs.Prelude.{Result, Ok, Err, IfOk, IfErr}
use Rattle.seat_turns.specs.Weak.{TakesWeakIn}
use Rattle.seat_turns.specs.declared.weak.Weak.{Weak}
use Rattle.seat_steps.specs.declared.came.Came.{Came}
use Rattle.seat_steps.specs.declared.came.Came.TheVariants as cames
use Rattle.seat_steps.specs.Acting.{IsVariable, StepperActs}
use Rattle.seat_steps.specs.Weak.{CanUpgrade, HasNoWeak, UpgradesTo}
use Rattle.seat_steps.specs.declared.stepper.Stepper.{Stepper}
use Rattle.managed_heap_c.specs.Bytes.{IsByteOf}
use Rattle.managed_heap_c.specs.Weak.{WeaksTo, WritesWeak}
use Rattle.managed_heap_c.proofs.Numbered.{byte-in, same}

no-weak : (v : ℕ) (before after : Weak) (came : Came) (x y : Stepper) → HasNoWeak came v x y → after ≡ before → WeaksTo v before after came x y
no-weak v before after cames.Done x y d q = absurd d
no-weak v before after came x y d q = (d, q)

pub weakened :
    (v : ℕ) (before after : Weak) (came : Came) (r : Result Weak Came) (x y : Stepper) → IfOk r (λ weak. StepperActs (IsVariable v) 4 (TakesWeakIn x.name v weak) x y)
    → IfErr r (λ why. HasNoWeak why v x y) → WritesWeak came r before after → WeaksTo v before after came x y
weakened v before after came (Ok weak) x y done none w =
    subst (λ c. WeaksTo v before after c x y) (sym w.0) (subst (λ (k : Weak). WeaksTo v before k cames.Done x y) (sym w.1) done)
weakened v before after came (Err why) x y done none w = subst (λ c. WeaksTo v before after c x y) (sym w.0) (no-weak v before after why x y none w.1)

pub weak-by : (came : Came) (v b : ℕ) (before after : Weak) (x y : Stepper) → IsByteOf v b → WeaksTo b before after came x y → WeaksTo v before after came x y
weak-by cames.Done v b before after x y i e = subst (λ k. WeaksTo k before after cames.Done x y) (same v b i e.in_range) e
weak-by cames.Unpublished v b before after x y i e = subst (λ k. WeaksTo k before after cames.Unpublished x y) (same v b i e.0.in_range) e
weak-by cames.Nil v b before after x y i e = subst (λ k. WeaksTo k before after cames.Nil x y) (same v b i e.0.0) e
weak-by cames.OutOfRange v b before after x y i e = ((λ l. e.0.0 (byte-in v b i l), e.0.1), e.1)
weak-by came v b before after x y i e = e

can-by : (weak : Weak) (v b : ℕ) (x : Stepper) → IsByteOf v b → CanUpgrade x weak v → CanUpgrade x weak b
can-by weak v b x i can = (byte-in v b i can.0, can.1, can.2, can.3)

pub upgrade-by : (came : Came) (weak : Weak) (v b : ℕ) (x y : Stepper) → IsByteOf v b → UpgradesTo came weak b x y → UpgradesTo came weak v x y
upgrade-by cames.Done weak v b x y i e = subst (λ k. UpgradesTo cames.Done weak k x y) (same v b i e.1.in_range.0) e
upgrade-by cames.Dead weak v b x y i e = subst (λ k. UpgradesTo cames.Dead weak k x y) (same v b i e.1.in_range.0) e
upgrade-by cames.OutOfRange weak v b x y i e = (λ can. e.0 (can-by weak v b x i can), e.1)
upgrade-by came weak v b x y i e = e
