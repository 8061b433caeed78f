-- A value that changes only from 0 stays 1 once it is: so threads agree on which of two was stored first.
use Rattle.std.proofs.Common.{ℕ, zero, suc, ◌≡◌, ◌<◌, ◌≤◌, ◌⊎◌, List, [], ◌∷◌, take, arith, sym, ap, ◌∙◌, subst, ⊎_elim, inl, inr, Option, Some, None}
use Rattle.std.specs.Prelude.{slice_get}
use Rattle.std.proofs.lemmas.Option.{same_Some}
use Rattle.plain_heap.specs.Paths.{Name}
use Rattle.mark_core.specs.Layout.{words_of}
use Rattle.mark_core.specs.Steps.{Core, after_event, start_core}
use Rattle.mark_core.specs.declared.kinds.Event.{Event}
use Rattle.mark_core.specs.declared.kinds.Shape.{Shape}
use Rattle.mark_core.specs.declared.kinds.Step.{Step}
use Rattle.mark_core.specs.declared.kinds.Step.TheVariants.{ReadValue}
use Rattle.mark_core.specs.declared.seat.SeatState.{SeatState}
use Rattle.gc_table.specs.AgreementLaws.{HasValue, TellsIn, TellsOf, found_of, world_after, world_run}
use Rattle.gc_table.specs.OneOrder.{ChangesFromZero, OneOrder, ReadsAt}
use Rattle.gc_table.specs.OpenRuns.{IsOpenRun}
use Rattle.gc_table.specs.RunWorlds.{World, WorldObject, name_at, object_of, start_world}
use Rattle.gc_table.specs.Runs.{AreAllowed, core_after}
use Rattle.gc_table.specs.Sharing.{heap_after_events}
use Rattle.gc_table.proofs.Freeing.{allowed}
use Rattle.gc_table.proofs.Lending.{world-first}
use Rattle.gc_table.proofs.Winning.{step_stays}

one_value : (world : World) (name : Name) (m n : ℕ) → HasValue world name m → HasValue world name n → m ≡ n
one_value world name m n h k = sym h.2 ∙ (ap (λ (o : WorldObject). o.value) (same_Some h.0 k.0 (sym h.1 ∙ k.1)) ∙ k.2)

stays-one : (es : List Event) (c : Core) (world : World) (name : Name) → AreAllowed c es → ChangesFromZero es c world name → HasValue world name 1 → (k : ℕ) → HasValue (world_run (take k es) c world) name 1
stays-one es c world name ok from h zero = h
stays-one [] c world name ok from h (suc k) = h
stays-one (e ∷ es) c world name ok from h (suc k) =
    let still : object_of (world_after c e world) name ≡ Some h.0 = step_stays c (slice_get c.seats e.seat) e.step world name h.0 h.1 (λ s. absurd (let z : 1 ≡ 0 = one_value world name 1 0 h (from.0 s) in omega (arith, z))) in
    subst (λ (w : World). HasValue w name 1) (sym (world-first c e (take k es) world ok.0)) (stays-one es (after_event c e) (world_after c e world) name ok.1 from.1 (h.0, still, h.2) k)

stays-on : (es : List Event) (c : Core) (world : World) (name : Name) → AreAllowed c es → ChangesFromZero es c world name → (j k : ℕ) → j ≤ k → HasValue (world_run (take j es) c world) name 1 → HasValue (world_run (take k es) c world) name 1
stays-on es c world name ok from zero k l h = stays-one es c world name ok from h k
stays-on es c world name ok from (suc j) zero l h = absurd (omega (arith, l))
stays-on [] c world name ok from (suc j) (suc k) l h = h
stays-on (e ∷ es) c world name ok from (suc j) (suc k) l h =
    subst (λ (w : World). HasValue w name 1) (sym (world-first c e (take k es) world ok.0))
    (stays-on es (after_event c e) (world_after c e world) name ok.1 from.1 j k (omega (arith, l)) (subst (λ (w : World). HasValue w name 1) (world-first c e (take j es) world ok.0) h))

-- what a read finds is the value that the object had
tells-value : (c : Core) (world : World) (o : Option SeatState) (step : Step) (cell n : ℕ) (name : Name) → step ≡ ReadValue cell → name_at (words_of c.shape c.words).identities cell ≡ name → found_of c o step ≡ n → TellsOf c world o step → HasValue world name n
tells-value c world None step cell n name is names found tells = absurd tells
tells-value c world (Some s) step cell n name is names found tells =
    let t = subst (λ (z : Step). TellsIn c world s z (found_of c (Some s) z)) is tells in
    (t.0, subst (λ (z : Name). object_of world z ≡ Some t.0) names t.1.1, sym t.2 ∙ (ap (λ (z : Step). found_of c (Some s) z) (sym is) ∙ found))

read-value : (sh : Shape) (es : List Event) (k : ℕ) (name : Name) (n : ℕ) → IsOpenRun sh es → ReadsAt sh es k name n → HasValue (heap_after_events sh es k) name n
read-value sh es k name n run r =
    let c : Core = core_after sh 1 es k in
    tells-value c (heap_after_events sh es k) (slice_get c.seats r.event.seat) r.event.step r.cell n name r.step r.names r.found (run.tells k r.event r.there)

-- a read that found 0 comes before each that found 1
zero-first : (sh : Shape) (es : List Event) (name : Name) (j k : ℕ) → IsOpenRun sh es → ChangesFromZero es (start_core sh 1) (start_world sh) name → ReadsAt sh es j name 1 → ReadsAt sh es k name 0 → k < j
zero-first sh es name j k run from one none =
    ⊎_elim
    (λ (l : k < j). l)
    (λ (l : j ≤ k).
    let on : HasValue (heap_after_events sh es k) name 1 = stays-on es (start_core sh 1) (start_world sh) name (allowed 0 es (start_core sh 1) run.allowed) from j k l (read-value sh es j name 1 run one) in
    let z : 1 ≡ 0 = one_value (heap_after_events sh es k) name 1 0 on (read-value sh es k name 0 run none) in
    absurd (omega (arith, z)))
    (before k j)
  where
    before : (k j : ℕ) → (k < j) ⊎ (j ≤ k)
    before zero zero = inr (omega arith)
    before zero (suc j) = inl (omega arith)
    before (suc k) zero = inr (omega arith)
    before (suc k) (suc j) = ⊎_elim (λ (l : k < j). inl (omega (arith, l))) (λ (l : j ≤ k). inr (omega (arith, l))) (before k j)

pub one_order : OneOrder
one_order sh es run x y from from' a b c d ab cd one none one' none' =
    let first : d < a = zero-first sh es x a d run from one none' in
    let second : b < c = zero-first sh es y c b run from' one' none in
    omega (arith, ab, cd, first, second)
