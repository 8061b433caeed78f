use Rattle.std.proofs.Common.{rules, ℕ, ◌≡◌, ◌+◌, ◌<◌, All, List, [], ◌∷◌, IfOk, ap, ◌∙◌, arith}
use Rattle.std.proofs.lemmas.List.Elements.{All-cons}
use Rattle.std.specs.Arc.{arc_value}
use Rattle.managed_heap.specs.WorldOpening.{AreNumbered}
use Rattle.managed_heap.specs.declared.mutator.Mutator.{Mutator}
use Rattle.managed_heap.specs.declared.sizes.Sizes.{Sizes}
use Rattle.managed_heap.specs.declared.world.World.{World}
use Rattle.managed_heap.specs.Lending.{IsFreshMutator, IsOpened}
use Rattle.bench_heaps.specs.Standing.{WorkerWaits}
use Rattle.bench_heaps.proofs.trees.crew.open.Goals as goal

-- what is so of each that is numbered by P is so of all
numbered-all : {X : Type 0} (P : ℕ → X → Type 0) (Q : X → Type 0) → ((k : ℕ) (x : X) → P k x → Q x) → (k : ℕ) (xs : List X) → AreNumbered P k xs → All Q xs
numbered-all P Q f k [] a = λ i d l. absurd (omega (arith, l))
numbered-all P Q f k (x ∷ xs) a = All-cons Q x xs (f k x a.0) (numbered-all P Q f (k + 1) xs a.1)

-- in a new world whose objects have two references each mutator waits outside
waits : (s : Sizes) (w : World) → IsOpened s w → s.fields ≡ 2 → All WorkerWaits w.mutators.items
waits s w o two =
    let h = arc_value w.heap in
    let P = IsFreshMutator h s.name s.in_stops in
    numbered-all P WorkerWaits (λ k m f. record { two = ap (λ x. x.shape.fields) f.heap ∙ ap (λ x. x.fields) o.shape ∙ two; outside = f.place }) 1 w.mutators.items o.mutators_are

pub returns-in-Ok-clause-waits : goal.returns-in-Ok-clause-waits
returns-in-Ok-clause-waits c = waits _ c.in-Ok.world c.in-Ok.ensures.opened (ap (λ (s : Sizes). s.fields) (c.tracers-sizes.ensures ∙ ap (λ (s : Sizes). record s { tracers = c.args.asked.now.tracers }) (c.mutators.ensures ∙ ap (λ (s : Sizes). record s { mutators = c.args.asked.now.workers }) c.fields.ensures)))
