-- The fields of a new object are set one after the other, and in how many steps.
use Rattle.std.proofs.Common.{ℕ, ◌≡◌, ◌<◌, ◌+◌, ◌*◌, ◌^◌, zero, suc, List, get_or, length, refl, sym, subst, arith, ⊎_elim}
use Rattle.std.proofs.lemmas.List.{length-drop}
use Rattle.mark_core.specs.Numbers.{section_variables}
use Rattle.gc_table.specs.Seats.{view_of}
use Rattle.gc_table.specs.declared.view.View.{View}
use Rattle.mutator_ops.specs.Few.{AtMost}
use Rattle.mutator_ops.proofs.Few.{at-most-none}
use Rattle.plain_heap.specs.declared.operation.Op.TheVariants as ops
use Rattle.seat_turns.specs.Standing.{flush_steps}
use Rattle.seat_steps.specs.Filling.{make_steps}
use Rattle.seat_steps.specs.declared.came.Came.{Came}
use Rattle.seat_steps.specs.declared.came.Came.TheVariants as cames
use Rattle.seat_steps.specs.Stepping.{Operates, StepperMakes}
use Rattle.seat_steps.specs.declared.stepper.Stepper.{Stepper}
use Rattle.managed_heap_c.specs.Making.{CanMakeWith, MakesThenSets, MakesWith, SetsFirst, SetsGiven, no_variable}

pub sets-none : (v : ℕ) (ns : List ℕ) (x : Stepper) → SetsFirst 0 v ns x x
unfolding SetsFirst
sets-none v ns x = refl

pub sets-more : (k v : ℕ) (ns : List ℕ) (x z y : Stepper) → SetsFirst k v ns x z → SetsGiven v k (get_or ns k 0) z y → SetsFirst (k + 1) v ns x y
unfolding SetsFirst
sets-more k v ns x z y done more = let e : suc k ≡ k + 1 = omega arith in subst (λ n. SetsFirst n v ns x y) e (z, done, more)

-- one call after another, by the lengths of the logs
pub then_more : (j k : ℕ) (u v w : View) → AtMost j u v → AtMost k v w → AtMost (j + k) u w
then_more j k u v w p q =
    let first = length-drop (length u.log) v.log in
    let last = length-drop (length v.log) w.log in
    let all = length-drop (length u.log) w.log in
    omega (arith, first, last, all, p, q)

pub none-taken : (k : ℕ) (x y : Stepper) → y ≡ x → AtMost k (view_of x.seat) (view_of y.seat)
none-taken k x y same = subst (λ (z : Stepper). AtMost k (view_of x.seat) (view_of z.seat)) (sym same) (at-most-none k (view_of x.seat))

given_few : (v i n : ℕ) (x y : Stepper) → SetsGiven v i n x y → AtMost 4 (view_of x.seat) (view_of y.seat)
given_few v i n x y s = ⊎_elim (λ (nil : (n ≡ no_variable) × (y ≡ x)). none-taken 4 x y nil.1) (λ (set : (n < section_variables) × Operates cames.Done (ops.Set v i n) x y). set.1.1) s

sets_few : (k v : ℕ) (ns : List ℕ) (x y : Stepper) → SetsFirst k v ns x y → AtMost (4 * k) (view_of x.seat) (view_of y.seat)
unfolding SetsFirst
sets_few zero v ns x y same = none-taken 0 x y same
sets_few (suc k) v ns x y s =
    let all = then_more (4 * k) 4 (view_of x.seat) (view_of s.0.seat) (view_of y.seat) (sets_few k v ns x s.0 s.1) (given_few v k (get_or ns k 0) s.0 y s.2) in
    omega (arith, all)

pub made-sets : (v value : ℕ) (ns : List ℕ) (x z y : Stepper) → StepperMakes cames.Done (ops.New v value) x z → SetsFirst (length ns) v ns z y → MakesThenSets v value ns x y
made-sets v value ns x z y made sets =
    record {
      made = z;
      makes = made;
      sets = sets;
      few = then_more (make_steps (view_of x.seat).shape + flush_steps (view_of x.seat)) (4 * length ns) (view_of x.seat) (view_of z.seat) (view_of y.seat) made.1.longest (sets_few (length ns) v ns z y sets);
    }

-- no object was made, and nothing else was done
pub made-none : (came : Came) (v value : ℕ) (ns : List ℕ) (x y : Stepper) → (came ≡ cames.Done → ⊥) → value < 2 ^ 32 → CanMakeWith v ns x → StepperMakes came (ops.New v value) x y → MakesWith v value ns came x y
made-none cames.Done v value ns x y other fits can made = absurd (other refl)
made-none cames.OutOfRange v value ns x y other fits can made = absurd (made.0 (can.0, fits))
made-none came v value ns x y other fits can made = (can, made)
