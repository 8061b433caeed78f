-- An object's fields are taken one after the other, and in how many steps.
use Rattle.std.proofs.Common.{ℕ, ◌≡◌, ◌+◌, ◌*◌, zero, suc, refl, subst, arith}
use Rattle.gc_table.specs.Seats.{view_of}
use Rattle.mutator_ops.specs.Few.{AtMost}
use Rattle.plain_heap.specs.declared.operation.Op.TheVariants as ops
use Rattle.seat_steps.specs.declared.came.Came.TheVariants as cames
use Rattle.seat_steps.specs.Stepping.{Operates}
use Rattle.seat_steps.specs.declared.stepper.Stepper.{Stepper}
use Rattle.managed_heap_c.specs.Looking.{TakesFirst}
use Rattle.managed_heap_c.proofs.Made.{none-taken, then_more}

pub takes-none : (v first : ℕ) (x : Stepper) → TakesFirst 0 v first x x
unfolding TakesFirst
takes-none v first x = refl

pub takes-more : (k v first : ℕ) (x z y : Stepper) → TakesFirst k v first x z → Operates cames.Done (ops.Get (first + k) v k) z y → TakesFirst (k + 1) v first x y
unfolding TakesFirst
takes-more k v first x z y done more = let e : suc k ≡ k + 1 = omega arith in subst (λ n. TakesFirst n v first x y) e (z, done, more)

pub takes-few : (k v first : ℕ) (x y : Stepper) → TakesFirst k v first x y → AtMost (2 * k) (view_of x.seat) (view_of y.seat)
unfolding TakesFirst
takes-few zero v first x y same = none-taken 0 x y same
takes-few (suc k) v first x y s =
    let all = then_more (2 * k) 2 (view_of x.seat) (view_of s.0.seat) (view_of y.seat) (takes-few k v first x s.0 s.1) s.2.1 in
    omega (arith, all)
