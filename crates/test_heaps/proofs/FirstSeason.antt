-- The season turns for the first time, in a stop that the catalogue's seat made.
use Rattle.std.proofs.Common.{ℕ, ◌≡◌, ◌<◌, Bool, true, false, refl, sym, ap, ◌∙◌, subst, cond, arith, Some, None, Option}
use Rattle.std.specs.Prelude.{nat_lt}
use Rattle.std.proofs.lemmas.Option.{get_or_from_slice_get}
use Rattle.std.proofs.lemmas.Bool.{eq-eqb, false≢true, lt-ltb}
use Rattle.mark_core.specs.Places.{the_phase}
use Rattle.mark_core.specs.declared.kinds.Phase.TheVariants.{Idle}
use Rattle.mark_core.specs.declared.kinds.Shape.{Shape}
use Rattle.mark_core.specs.declared.kinds.Step.{Step}
use Rattle.mark_core.specs.declared.kinds.Step.TheVariants.{NextSeason, Observe, ReadPhase}
use Rattle.mark_core.proofs.Notes.NotesKept.{single-word}
use Rattle.gc_table.specs.Running.{Alone, Ran, changes_section}
use Rattle.gc_table.specs.Log.{Only}
use Rattle.gc_table.specs.Taking.{May}
use Rattle.gc_table.specs.Seats.{Found}
use Rattle.gc_table.specs.TableState.{no_section}
use Rattle.gc_table.specs.declared.view.SectionState.{SectionState}
use Rattle.gc_table.specs.declared.view.View.{View}
use Rattle.gc_table.proofs.Noticing.{alone-step}
use Rattle.gc_table.proofs.Running.{own-kept, ran-plan}
use Rattle.stop_world.specs.Waiting.{watches}
use Rattle.stop_world.specs.StopRecords.{KeepsMeaningAndPlan}

watching : (step : Step) → watches step ≡ true → changes_section step ≡ false
watching Observe e = refl
watching ReadPhase e = refl
watching step e = absurd (false≢true e)

-- a seat that waits does nothing to its section
pub keeps-watching : (v w : View) → Ran v w → Only watches v w → KeepsMeaningAndPlan v w
keeps-watching v w r o = let own = own-kept watches watching v w r o in (ap (λ (x : SectionState). x.meaning) own, ap (λ (x : SectionState). x.seasons) own, ran-plan v w r)

pub first-section : (sh : Shape) → 0 < sh.sections → cond {A = Option ℕ} (nat_lt 0 sh.sections) (Some 0) None ≡ Some 0
first-section sh l = ap (λ (b : Bool). cond {A = Option ℕ} b (Some 0) None) (lt-ltb 0 sh.sections l)

-- the phase is Idle, and the season the first one
pub may-turn : (v : View) → Alone Idle v → v.state.section ≡ Some 0 → v.own.seasons ≡ 0 → May NextSeason v
may-turn v l first none x i st a =
    let phase = sym (single-word x.core.shape x.core.words 1 (omega arith)) ∙ (a.noted the_phase 0 l.phase).1 in
    let season = st.told.seasons.moved ∙ (ap (λ (s : SectionState). s.seasons) (get_or_from_slice_get x.sections 0 v.own no_section (a.own 0 first)) ∙ none) in
    (l.knows, (eq-eqb _ 0 phase, (lt-ltb _ 128 (omega (arith, season)), tt)))

-- the seat stays alone
pub alone-turn : (v w : View) (n : ℕ) → Found NextSeason n v w → Alone Idle v → Alone Idle w
alone-turn v w n f l = subst (Alone Idle) (sym f.0) (alone-step Idle v NextSeason n refl (record { found = λ e. f.1; stored = λ e. absurd (false≢true e) }) l)
