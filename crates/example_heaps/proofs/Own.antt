-- The two mutators of a new world are its own, and what they did ends whole.
use Rattle.std.proofs.Common.{ℕ, ◌≡◌, ◌+◌, ◌∙◌, List, [], ◌∷◌, ◌++◌, ap, arith, length, subst, sym}
use Rattle.std.specs.Arc.{arc_value}
use Rattle.gc_table.specs.declared.words.Words.{Words}
use Rattle.managed_heap.specs.Closing.{IsWorldEnd}
use Rattle.managed_heap.specs.Lending.{IsFreshMutator, IsOpened, KeepsRest}
use Rattle.managed_heap.specs.WorldOpening.{AreNumbered}
use Rattle.managed_heap.specs.Threads.{ThreadsRun}
use Rattle.managed_heap.specs.declared.mutator.Mutator.{Mutator}
use Rattle.managed_heap.specs.declared.sizes.Sizes.{Sizes}
use Rattle.managed_heap.specs.declared.world.World.{World}
use Rattle.example_heaps.specs.Ending.{EndsWhole}
use Rattle.example_heaps.specs.Pairs.{AreOwn}

-- the last of a numbered list, and those before it
last-numbered : {X : Type 0} (P : ℕ → X → Type 0) (k : ℕ) (xs : List X) (x : X) → AreNumbered P k (xs ++ x ∷ []) → AreNumbered P k xs × P (k + length xs) x
last-numbered P k [] x a = let e : k ≡ k + 0 = omega arith in (tt, subst (λ n. P n x) e a.0)
last-numbered P k (y ∷ ys) x a =
    let rest = last-numbered P (k + 1) ys x a.1 in
    let e : k + 1 + length ys ≡ k + length (y ∷ ys) = omega arith in
    ((a.0, rest.0), subst (λ n. P n x) e rest.1)

pub are-own : (sizes : Sizes) (u v w : World) (a b : Mutator) → IsOpened sizes u → u.mutators.items ≡ v.mutators.items ++ b ∷ [] → KeepsRest u v → v.mutators.items ≡ w.mutators.items ++ a ∷ [] → KeepsRest v w → AreOwn w a b
are-own sizes u v w a b opened two k one l =
    let P : ℕ → Mutator → Type 0 = IsFreshMutator (arc_value u.heap) sizes.name sizes.in_stops in
    let heap : arc_value w.heap ≡ arc_value u.heap = ap (λ h. arc_value h) (l.heap ∙ k.heap) in
    let last = last-numbered P 1 v.mutators.items b (subst (AreNumbered P 1) two opened.mutators_are) in
    let before = last-numbered P 1 w.mutators.items a (subst (AreNumbered P 1) one last.0) in
    record { first = before.1.heap ∙ sym heap; second = last.1.heap ∙ sym heap }

pub ends-whole : ThreadsRun → (world : World) (a b : Mutator) (w : Words) → IsWorldEnd world (a ∷ b ∷ []) [] w → EndsWhole w
ends-whole law world a b w end = let r = law world (a ∷ b ∷ []) [] w end in record { world = world; first = a; second = b; ended = end; past = r.0; whole = r.1 }
