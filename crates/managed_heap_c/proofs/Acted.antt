-- What a call for a shared world came to, by what is written for its answer.
use Rattle.std.proofs.Common.{ℕ, ◌≡◌, ◌+◌, ◌-◌, ◌<◌, Bool, refl, sym, subst}
use Rattle.std.specs.Arc.{arc_value}
use Rattle.std.specs.Prelude.{Result, Ok, Err, IfOk, IfErr}
use Rattle.mark_core.specs.Steps.MutatorSteps.{seat_variable as word_in}
use Rattle.mark_core.specs.declared.kinds.Step.TheVariants.{ReadIdent}
use Rattle.gc_table.specs.Seats.{Found, state_of}
use Rattle.seat_turns.specs.Exchanging.{ExchangesField, ExchangesValue}
use Rattle.seat_steps.specs.declared.came.Came.{Came}
use Rattle.seat_steps.specs.declared.came.Came.TheVariants as cames
use Rattle.seat_steps.specs.Asking.{LacksObject}
use Rattle.seat_steps.specs.Acting.{CanExchange, IsVariable, StepperActs, WantsObject}
use Rattle.seat_steps.specs.declared.stepper.Stage.TheVariants.{Inside}
use Rattle.seat_steps.specs.declared.stepper.Stepper.{Stepper}
use Rattle.managed_heap_c.specs.Acting.{ExchangesTo, ExchangesValueTo, NumbersTo, PlacesTo, WritesNumber, WritesPlace}
use Rattle.managed_heap_c.specs.Asking.{WritesAnswer}

-- no exchange was made
unexchanged : (v i m n before after : ℕ) (came : Came) (x y : Stepper) → WantsObject came (CanExchange x v i m n) v x y → after ≡ before → ExchangesTo v i m n before after came x y
unexchanged v i m n before after cames.Done x y d q = absurd d
unexchanged v i m n before after came x y d q = (d, q)

pub exchanged :
    (v i m n before after : ℕ) (came : Came) (r : Result Bool Came) (x y : Stepper) → IfOk r (λ won. StepperActs (CanExchange x v i m n) 3 (ExchangesField v i m n won) x y)
    → IfErr r (λ why. WantsObject why (CanExchange x v i m n) v x y) → WritesAnswer came r before after → ExchangesTo v i m n before after came x y
exchanged v i m n before after came (Ok won) x y done none w = subst (λ c. ExchangesTo v i m n before after c x y) (sym w.0) (won, w.1, done)
exchanged v i m n before after came (Err why) x y done none w = subst (λ c. ExchangesTo v i m n before after c x y) (sym w.0) (unexchanged v i m n before after why x y none w.1)

uncounted : (v m n before after : ℕ) (came : Came) (x y : Stepper) → WantsObject came (IsVariable v) v x y → after ≡ before → ExchangesValueTo v m n before after came x y
uncounted v m n before after cames.Done x y d q = absurd d
uncounted v m n before after came x y d q = (d, q)

pub counted :
    (v m n before after : ℕ) (came : Came) (r : Result Bool Came) (x y : Stepper) → IfOk r (λ won. StepperActs (IsVariable v) 1 (ExchangesValue v m n won) x y)
    → IfErr r (λ why. WantsObject why (IsVariable v) v x y) → WritesAnswer came r before after → ExchangesValueTo v m n before after came x y
counted v m n before after came (Ok won) x y done none w = subst (λ c. ExchangesValueTo v m n before after c x y) (sym w.0) (won, w.1, done)
counted v m n before after came (Err why) x y done none w = subst (λ c. ExchangesValueTo v m n before after c x y) (sym w.0) (uncounted v m n before after why x y none w.1)

unplaced : (v before after : ℕ) (came : Came) (x : Stepper) → LacksObject came v x → after ≡ before → PlacesTo v before after came x x
unplaced v before after cames.Done x d q = absurd d
unplaced v before after came x d q = (d, refl, q)

pub placed :
    (v before after : ℕ) (came : Came) (r : Result ℕ Came) (x : Stepper) → IfOk r (λ c. word_in (state_of x.seat) v ≡ c + 1) → IfOk r (λ c. c < (arc_value x.heap).shape.cells) → IfOk r (λ _. IsVariable v × (x.stage ≡ Inside))
    → IfErr r (λ why. LacksObject why v x) → WritesPlace came r before after → PlacesTo v before after came x x
placed v before after came (Ok place) x at inside may none w =
    subst (λ c. PlacesTo v before after c x x) (sym w.0) (subst (λ k. PlacesTo v before k cames.Done x x) (sym w.1) (at, inside, may.0, may.1, refl))
placed v before after came (Err why) x at inside may none w = subst (λ c. PlacesTo v before after c x x) (sym w.0) (unplaced v before after why x none w.1)

unnumbered : (v a b c d : ℕ) (came : Came) (x y : Stepper) → WantsObject came (IsVariable v) v x y → c ≡ a → d ≡ b → NumbersTo v a b c d came x y
unnumbered v a b c d cames.Done x y e p q = absurd e
unnumbered v a b c d came x y e p q = (e, p, q)

pub numbered :
    (v a b c d : ℕ) (came : Came) (r : Result ℕ Came) (x y : Stepper) → IfOk r (λ n. StepperActs (IsVariable v) 1 (Found (ReadIdent (word_in (state_of x.seat) v - 1)) n) x y)
    → IfErr r (λ why. WantsObject why (IsVariable v) v x y) → WritesNumber came r a b c d → NumbersTo v a b c d came x y
numbered v a b c d came (Ok n) x y done none w = subst (λ k. NumbersTo v a b c d k x y) (sym w.0) (n, w.1, w.2, done)
numbered v a b c d came (Err why) x y done none w = subst (λ k. NumbersTo v a b c d k x y) (sym w.0) (unnumbered v a b c d why x y none w.1 w.2)
