-- What is told of objects to which nothing need lead: that one is there, or that it is lost for good.
use Rattle.std.proofs.Common.{ℕ, ◌≡◌, ◌+◌, ◌*◌, ◌/◌, ◌%◌, ◌<◌, List, [], ◌∷◌, arith, refl, sym, ap, ◌∙◌, subst, true, false, ⊎_elim, ◌⊎◌, inl, Option, Some, None, if◌then◌else◌}
use Rattle.std.specs.Prelude.{IsTrue, slice_get, slice_index, is_none}
use Rattle.std.specs.List.{All}
use Rattle.std.proofs.lemmas.List.Elements.{All-head, All-tail}
use Rattle.plain_heap.specs.Paths.{Name}
use Rattle.mark_core.specs.Layout.{Words, words_of, region_sizes}
use Rattle.mark_core.specs.Numbers.{section_span}
use Rattle.mark_core.specs.Steps.{Core, failing_part, after_event, run_of}
use Rattle.mark_core.specs.Steps.MutatorSteps.{weak_reference}
use Rattle.mark_core.specs.Laws.{IsCore, NumbersFit, AllNumbersFit}
use Rattle.mark_core.specs.Weak.{IsAt, IsGone, IsWeak, MayConclude, FindsWeak}
use Rattle.mark_core.specs.declared.kinds.Event.{Event}
use Rattle.mark_core.specs.declared.kinds.Step.{Step}
use Rattle.mark_core.specs.declared.kinds.Step.TheVariants.{ReadWeak}
use Rattle.mark_core.specs.declared.seat.SeatState.{SeatState}
use Rattle.mark_core.proofs.Known.{found}
use Rattle.mark_core.proofs.CoreKept.{core_kept}
use Rattle.mark_core.proofs.Blocks.BlocksStopped.{Taken, in-place}
use Rattle.mark_core.proofs.Writing.Places.{words-get}
use Rattle.mark_core.proofs.References.ReferencesRoots.{Used}
use Rattle.mark_core.proofs.Consequences.WeakFound.{finds-at, weak_reads_tell}
use Rattle.mark_core.proofs.Consequences.WeakKept.{gone-kept, weak_stays}
use Rattle.mark_core.proofs.Consequences.WeakTold.{weak_is_told}
use Rattle.gc_table.specs.RunWorlds.{World, name_in, name_at}
use Rattle.gc_table.specs.Agreement.{AgreesWith}
use Rattle.gc_table.specs.AgreementLaws.{DeathTold, IsReached, IsCellFor, IsLost, FindsCell, LostForGood, world_run, world_after}
use Rattle.gc_table.proofs.Frame.{used-exists}
use Rattle.gc_table.proofs.Kept.{agrees-kept}
use Rattle.gc_table.proofs.Reached.{along}
use Rattle.gc_table.proofs.Winning.{run_whole}

-- a name has one identity
one_identity : (id other : ℕ) → name_in other ≡ name_in id → other ≡ id
one_identity id other e =
    let section : other / section_span ≡ id / section_span = ap (λ (n : Name). n.section) e in
    let number : other % section_span ≡ id % section_span = ap (λ (n : Name). n.number) e in
    omega (arith, section, number)

-- no path leads to what is gone
pub lost : (c : Core) (world : World) (id : ℕ) → IsCore c → AgreesWith c world → IsGone c id → IsLost c world id
lost c world id k a gone =
    record {
      gone = gone;
      unreached =
          λ r.
          let x : (y : ℕ) × IsCellFor c world (name_in id) y = along c world (name_in id) r.0 k a r.1 in
          gone.only x.0 (used-exists c k x.0 x.1.0) x.1.0 (one_identity id (slice_index (words_of c.shape c.words).identities x.0) x.1.2);
    }

-- what a seat finds in a cell for which it asks
pub finds-cell : (c : Core) (i : ℕ) (s : SeatState) (x : ℕ) (world : World) → Taken c i s (ReadWeak x) → AgreesWith c world → FindsCell c world s x (weak_reference s x (found c s (ReadWeak x)))
finds-cell c i s x world k a =
    let w : Words = words_of c.shape c.words in
    let step : Step = ReadWeak x in
    let old : found c s step ≡ slice_index w.allocs (x / 64) = words-get (region_sizes c.shape) 4 c.words (x / 64) 0 (in-place c i s step k) in
    let f : FindsWeak c s x (weak_reference s x (found c s step)) = subst (λ (word : ℕ). FindsWeak c s x (weak_reference s x word)) (sym old) (finds-at c i s x k) in
    record {
      some =
          λ h.
          ⊎_elim
          (λ (z : weak_reference s x (found c s step) ≡ 0). absurd (omega (arith, h, z)))
          (λ (u : (weak_reference s x (found c s step) ≡ x + 1) × (Used c x ≡ true)). (u.0, u.1, a.cells_agree x (used-exists c k.core x u.1) u.1))
          f.found;
      none = λ z id may. lost c world id k.core a (f.none z id may);
      unpublished = f.unpublished;
      another = λ id at other. lost c world id k.core a (f.another id at other);
    }

-- over a run, by whether its first event is allowed
lost_by : (e : Event) (es : List Event) (c : Core) (world : World) (id : ℕ) → IsLost c world id → (failing_part c e ≡ None → IsLost (run_of es (after_event c e)) (world_run es (after_event c e) (world_after c e world)) id) → (o : Option ℕ) → failing_part c e ≡ o
    → IsLost (if is_none o then run_of es (after_event c e) else c) (if is_none o then world_run es (after_event c e) (world_after c e world) else world) id
lost_by e es c world id now later None f = later f
lost_by e es c world id now later (Some part) f = now

lost_from : (es : List Event) (c : Core) (world : World) (id : ℕ) → IsCore c → AgreesWith c world → AllNumbersFit es → IsGone c id → IsLost (run_of es c) (world_run es c world) id
lost_from [] c world id k a fit g = lost c world id k a g
lost_from (e ∷ es) c world id k a fit g =
    lost_by e es c world id (lost c world id k a g)
    (λ f.
    lost_from es (after_event c e) (world_after c e world) id (core_kept c e k (All-head (λ (x : Event). NumbersFit x.step) e es fit) f) (agrees-kept c e world k a f)
    (All-tail (λ (x : Event). NumbersFit x.step) e es fit) (gone-kept c e id k f g))
    (failing_part c e) refl

pub lost_for_good : LostForGood
lost_for_good c world es id k a fit g = lost_from es c world id k a fit g

-- who took a weak reference has what tells its object's death
pub death_told : DeathTold
death_told c world i j x between later k a bit fits others later_fits f g s got h =
    let asked : Event = record { seat = i; step = ReadWeak x } in
    let first : Core = after_event c asked in
    let met : World = world_after c asked world in
    let one = run_whole between first met (core_kept c asked k tt f) (agrees-kept c asked world k a f) fits in
    let d : Core = run_of between first in
    let id : ℕ = slice_index (words_of d.shape d.words).identities x in
    let weak : IsWeak d id x = weak_is_told c i x between k f bit fits others g in
    let two = run_whole later d (world_run between first met) one.0 one.1 later_fits in
    let last : Core = run_of later d in
    let kept : IsWeak last id x = weak_stays.weak id x d later one.0 later_fits weak in
    let finds = weak_reads_tell last j s x two.0 got h in
    let at : IsAt last id x = record { given = kept.given; seated = kept.seated; only = λ y l u e. (kept.only y l u e).0 } in
    let ends = λ (gone : IsGone last id). lost last (world_run later d (world_run between first met)) id two.0 two.1 gone in
    (λ z. ends (finds.none z id (inl kept)), λ other. ends (finds.another id at other))
