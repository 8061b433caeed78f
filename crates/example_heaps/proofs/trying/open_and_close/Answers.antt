use Rattle.std.proofs.Common.{◌≡◌, ◌++◌, List, [], ◌∷◌, Some, length, refl, ◌∙◌, ap, sym}
use Rattle.std.specs.Prelude.{slice_get}
use Rattle.std.specs.Arc.{arc_value}
use Rattle.seat_turns.specs.declared.background.Tracer.{Tracer}
use Rattle.shared_heap.specs.declared.mutator.SharedMutator.{SharedMutator}
use Rattle.shared_heap.specs.declared.world.SharedWorld.{SharedWorld}
use Rattle.managed_heap.proofs.Starting.{numbered-at}
use Rattle.example_heaps.proofs.trying.open_and_close.Goals as goal

-- The last of a list.
last-at : {X : Type 0} (xs : List X) (x : X) → slice_get (xs ++ x ∷ []) (length xs) ≡ Some x
last-at [] x = refl
last-at (y ∷ ys) x = last-at ys x

pub closes-requires : goal.closes-requires
closes-requires g c =
    let w : SharedWorld = c.in-Ok.world in
    let m : SharedMutator = c.in-Some.m in
    let t : Tracer = c.in-Some-tracer.t in
    let left : List Tracer = c.tracer.new.self.tracers.items in
    let fresh = c.in-Ok.ensures.opened.fresh 0 m (ap (λ (l : List SharedMutator). slice_get l 0) c.in-Some.ensures.some) in
    let tracers = ap (λ v. v.items) (sym c.mutator.ensures.rest.1) ∙ c.in-Some-tracer.ensures.some in
    let new = numbered-at _ _ _ c.in-Ok.ensures.opened.tracers (length left) t (ap (λ (l : List Tracer). slice_get l (length left)) tracers ∙ last-at left t) in
    let back : arc_value w.heap ≡ arc_value c.in-Some-stays_open.kept.heap =
    ap (λ h. arc_value h) (sym c.mutator.ensures.rest.0.heap)
    ∙ (ap (λ h. arc_value h) (sym c.tracer.ensures.rest.0.heap) ∙ (ap (λ h. arc_value h) (sym c.statistics-counted.ensures.rest.0) ∙ ap (λ (k : SharedWorld). arc_value k.heap) (sym c.in-Some-stays_open.ensures.same))) in
    record { same = c.try_all.ensures.world ∙ (fresh.heap ∙ back); same_tracer = new.heap ∙ back }
