-- The season turns for the first time, in a stop that the seat of section 0 made.
use Rattle.std.proofs.Common.{ℕ, ◌≡◌, Some, refl, sym, ap, ◌∙◌, subst, arith}
use Rattle.std.proofs.lemmas.Option.{get_or_from_slice_get}
use Rattle.std.proofs.lemmas.Bool.{eq-eqb, false≢true, lt-ltb}
use Rattle.mark_core.specs.Places.{the_phase}
use Rattle.mark_core.specs.declared.kinds.Phase.TheVariants.{Idle}
use Rattle.mark_core.specs.declared.kinds.Step.TheVariants.{NextSeason}
use Rattle.mark_core.proofs.Notes.NotesKept.{single-word}
use Rattle.gc_table.specs.Running.{Alone}
use Rattle.gc_table.specs.Taking.{May}
use Rattle.gc_table.specs.Seats.{Found}
use Rattle.gc_table.specs.TableState.{no_section}
use Rattle.gc_table.specs.declared.view.SectionState.{SectionState}
use Rattle.gc_table.specs.declared.view.View.{View}
use Rattle.gc_table.proofs.Noticing.{alone-step}

-- the phase is Idle, and the season the first one
pub may-turn : (v : View) → Alone Idle v → v.state.section ≡ Some 0 → v.own.seasons ≡ 0 → May NextSeason v
may-turn v l first none x i st a =
    let phase = sym (single-word x.core.shape x.core.words 1 (omega arith)) ∙ (a.noted the_phase 0 l.phase).1 in
    let season = st.told.seasons.moved ∙ (ap (λ (s : SectionState). s.seasons) (get_or_from_slice_get x.sections 0 v.own no_section (a.own 0 first)) ∙ none) in
    (l.knows, (eq-eqb _ 0 phase, (lt-ltb _ 128 (omega (arith, season)), tt)))

-- the seat stays alone
pub alone-turn : (v w : View) (n : ℕ) → Found NextSeason n v w → Alone Idle v → Alone Idle w
alone-turn v w n f l = subst (Alone Idle) (sym f.0) (alone-step Idle v NextSeason n refl (record { found = λ e. f.1; stored = λ e. absurd (false≢true e) }) l)
