use Rattle.std.proofs.Common.{ℕ, ◌≡◌, ◌||◌, refl, sym, ap, ◌∙◌, subst, true, false, not, inl, inr, ⊎_elim}
use Rattle.std.proofs.lemmas.Bool.{and_from, or_left, or_right}
use Rattle.mark_core.specs.Effects.{seat_after}
use Rattle.mark_core.specs.Layout.{words_of}
use Rattle.mark_core.specs.Places.{the_phase}
use Rattle.mark_core.specs.Seats.{is_phase, phase_number}
use Rattle.mark_core.specs.Steps.WorldSteps.{blocks_done}
use Rattle.mark_core.specs.declared.kinds.Phase.{Phase}
use Rattle.mark_core.specs.declared.kinds.Phase.TheVariants.{Clear, Drain, Idle, Marking}
use Rattle.mark_core.specs.declared.kinds.Step.TheVariants.{StorePhase}
use Rattle.gc_table.specs.declared.view.View.{View}
use Rattle.gc_table.specs.Running.{Alone}
use Rattle.gc_table.specs.Taking.{after, May}
use Rattle.gc_table.proofs.Noticing.{known-here, knows-steady}
use Rattle.stop_world.proofs.Passing.{phase-is}
use Rattle.test_heaps.specs.Seats.{MayBeginDrain}
use Rattle.gc_table.specs.Seats.{view_of}
use Rattle.test_heaps.proofs.draining.drains.Goals as goal

-- A drain begins if no cycle is under way, or if marking is.
drain-from : (v : View) (p : Phase) → Alone p v → (is_phase (phase_number p) Idle || is_phase (phase_number p) Marking || is_phase (phase_number p) Clear) ≡ true → is_phase (phase_number p) Clear ≡ false → May (StorePhase Drain) v
drain-from v p l some none x i k a =
    let phase = phase-is x i v (phase_number p) a l.phase in (
      ap (λ n. is_phase n Idle || is_phase n Marking || is_phase n Clear) phase ∙ some,
      (
        and_from _ _ l.knows (ap (λ n. not (is_phase n Clear) || blocks_done x.core.shape (words_of x.core.shape x.core.words) v.state) phase ∙ or_left _ _ (ap not none)),
        (or_right (not v.state.knows) v.state.alone l.alone, tt),
      ),
    )

may-drain : (v : View) → MayBeginDrain v → May (StorePhase Drain) v
may-drain v (inl l) = drain-from v Idle l refl refl
may-drain v (inr l) = drain-from v Marking l refl refl

-- the seat is alone in the drain that it begins
alone-drains : (p : Phase) (v w : View) (n : ℕ) → Alone p v → w ≡ after (StorePhase Drain) n v → Alone Drain w
alone-drains p v w n l e = subst (Alone Drain) (sym e) (record { knows = l.knows; alone = l.alone; phase = (known-here v (StorePhase Drain) n the_phase refl (knows-steady (seat_after v.shape v.state (StorePhase Drain) n) 2 l.knows)).0 })

pub store_phase-requires-clause-may : goal.store_phase-requires-clause-may
store_phase-requires-clause-may c = may-drain (view_of c.args.seat.now) c.requires.begins

pub returns-clause-alone : goal.returns-clause-alone
returns-clause-alone c =
    let v : View = view_of c.args.seat.now in
    let w : View = view_of c.store_phase.new.seat in
    let e = c.store_phase.ensures.view in
    ⊎_elim (λ (l : Alone Idle v). alone-drains Idle v w e.0 l e.1) (λ (l : Alone Marking v). alone-drains Marking v w e.0 l e.1) c.requires.begins

pub returns-clause-opened : goal.returns-clause-opened
returns-clause-opened c = ap (λ (w : View). w.state.opened) c.store_phase.ensures.view.1
