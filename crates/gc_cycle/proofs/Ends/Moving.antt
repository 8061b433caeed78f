-- The moves of the phase of a seat that is alone in the stop.
use Rattle.std.proofs.Common.{ℕ, ◌≡◌, ◌≤◌, arith, refl, sym, ap, ◌∙◌, subst, true, not, ◌||◌, ◌&&◌, Some, None, Option, ◌⊎◌, ⊎_elim}
use Rattle.std.specs.Prelude.{◌==◌, nat_le, is_none, unwrap_or}
use Rattle.std.proofs.lemmas.Bool.{and_from, and_parts, le-leb, or_right, true≢false}
use Rattle.mark_core.specs.Layout.{words_of, block_count}
use Rattle.mark_core.specs.Numbers.{free_count}
use Rattle.mark_core.specs.Places.{the_next_block, the_phase}
use Rattle.mark_core.specs.Seats.{is_phase, phase_number, work_in_hand}
use Rattle.mark_core.specs.Swept.{IsSweepingPhase}
use Rattle.mark_core.specs.Steps.WorldSteps.{blocks_done, phase_after}
use Rattle.mark_core.specs.declared.kinds.Phase.{Phase}
use Rattle.mark_core.specs.declared.kinds.Phase.TheVariants.{Idle, Marking, Drain, Sweep, Clear}
use Rattle.mark_core.specs.declared.kinds.Shape.{Shape}
use Rattle.mark_core.specs.declared.kinds.Step.TheVariants.{Reset, StorePhase}
use Rattle.mark_core.specs.declared.seat.BlockState.{BlockState}
use Rattle.mark_core.proofs.Notes.NotesKept.{single-word}
use Rattle.mark_core.proofs.Swept.SweptDone.{done-white}
use Rattle.gc_table.specs.Notes.{look}
use Rattle.gc_table.specs.Rule.{IsState, Agrees}
use Rattle.gc_table.specs.Taking.{after, Finds, May}
use Rattle.gc_table.specs.TableState.{TableState}
use Rattle.gc_table.specs.declared.view.View.{View}
use Rattle.gc_table.specs.Running.{Alone, Known}
use Rattle.gc_table.proofs.History.Log.{events-after}
use Rattle.gc_table.proofs.Noticing.{alone-steady, found-noted, known-here}
use Rattle.gc_table.proofs.Running.{ran-found}
use Rattle.stop_world.proofs.Passing.{phase-is}
use Rattle.sweeper.specs.Freeing.{block_floor}
use Rattle.gc_cycle.specs.Finishing.{IsAloneIn, IsMove}
use Rattle.gc_cycle.specs.Standing.{IsAlone}

none-of : {X : Type 0} (o : Option X) → is_none o ≡ true → o ≡ None
none-of None e = refl
none-of (Some x) e = absurd (true≢false (sym e))

-- no block is in hand
pub no-block : (v : View) → IsAlone v → v.state.block ≡ None
no-block v a = none-of v.state.block (and_parts _ (is_none v.state.block) (and_parts _ ((v.state.got == 0) && (v.state.lags == 0)) a.rest).0).1

-- no work is in hand
pub no-work : (v : View) → IsAlone v → not (work_in_hand v.shape.fields v.state) ≡ true
no-work v a = (and_parts _ _ (and_parts _ _ (and_parts _ _ (and_parts _ _ (and_parts _ _ a.rest).0).0).0).0).1

-- the seat is alone still after a move of the phase
moved-alone : (to : Phase) (v : View) (n : ℕ) → phase_after n to ≡ phase_number to → IsAlone v → IsAloneIn to (after (StorePhase to) n v)
moved-alone to v n e a =
    let w : View = after (StorePhase to) n v in
    let here : Known w the_phase (phase_after n to) = known-here v (StorePhase to) n the_phase refl (alone-steady w.state the_phase (phase_after n to) refl a.alone) in
    record {
      rest = record { knows = a.knows; alone = a.alone; rest = a.rest };
      alone = record { knows = a.knows; alone = a.alone; phase = here.0 ∙ ap Some e };
    }

pub moved : (from to : Phase) (v w : View) (n : ℕ) → phase_after n to ≡ phase_number to → IsAloneIn from v → w ≡ after (StorePhase to) n v → Finds (StorePhase to) n v → IsMove from to v w
moved from to v w n e a is f =
    record {
      ran = ran-found v w (StorePhase to) n refl (is, f);
      found = n;
      from_is = found-noted v (StorePhase to) n (phase_number from) the_phase f refl a.alone.phase;
      events_are = events-after v w (StorePhase to) n is;
      alone = subst (IsAloneIn to) (sym is) (moved-alone to v n e a.rest);
    }

-- the phase of each state that agrees
at-phase : (p : Phase) (x : TableState) (i : ℕ) (v : View) → Agrees x i v → Alone p v → (words_of x.core.shape x.core.words).phase ≡ phase_number p
at-phase p x i v a h = phase-is x i v (phase_number p) a h.phase

counter-above : (x : TableState) (i : ℕ) (v : View) (o : Option ℕ) → Agrees x i v → look the_next_block v.floors ≡ o → unwrap_or o 0 ≤ (words_of x.core.shape x.core.words).next_block
counter-above x i v None a e = omega arith
counter-above x i v (Some n) a e = subst (λ m. n ≤ m) (single-word x.core.shape x.core.words 4 (omega arith)) (a.floored the_next_block n e).1

-- every block was handed out and put down, so no cell is marked
done : (x : TableState) (i : ℕ) (v : View) → IsState x → Agrees x i v → IsAlone v → IsSweepingPhase (words_of x.core.shape x.core.words).phase → block_count v.shape ≤ block_floor v → blocks_done x.core.shape (words_of x.core.shape x.core.words) v.state ≡ true
done x i v k a h phase all =
    let above = counter-above x i v (look the_next_block v.floors) a refl in
    let all_out : block_count x.core.shape ≤ (words_of x.core.shape x.core.words).next_block =
    subst (λ (sh : Shape). block_count sh ≤ (words_of x.core.shape x.core.words).next_block) a.shape (omega (arith, above, all)) in
    let none : v.state.block ≡ None = no-block v h in
    and_from _ _
    (and_from _ _ (le-leb _ _ all_out) (ap (λ (o : Option BlockState). is_none o) none))
    (done-white x.core i v.state k.core k.swept a.seat h.alone none phase all_out)

unless-alone : (v : View) → IsAlone v → (not v.state.knows || v.state.alone) ≡ true
unless-alone v h = or_right (not v.state.knows) v.state.alone h.alone

-- the sweep may end
pub may-end_sweep : (v : View) → IsAloneIn Sweep v → block_count v.shape ≤ block_floor v → May (StorePhase Idle) v
may-end_sweep v h all x i k a =
    let phase = at-phase Sweep x i v a h.alone in
    let sweeps : IsSweepingPhase (words_of x.core.shape x.core.words).phase = ap (λ n. is_phase n Sweep || is_phase n Clear) phase in
    (ap (λ n. is_phase n Sweep) phase, (and_from _ _ h.rest.knows (done x i v k a h.rest sweeps all), (unless-alone v h.rest, tt)))

-- the drain may begin if no cycle is under way, and also if one is marking
pub may-begin_idle : (v : View) → IsAloneIn Idle v → May (StorePhase Drain) v
may-begin_idle v h x i k a =
    let phase = at-phase Idle x i v a h.alone in (
      ap (λ n. is_phase n Idle || is_phase n Marking || is_phase n Clear) phase,
      (and_from _ _ h.rest.knows (ap (λ n. not (is_phase n Clear) || blocks_done x.core.shape (words_of x.core.shape x.core.words) v.state) phase), (unless-alone v h.rest, tt)),
    )

pub may-begin_marking : (v : View) → IsAloneIn Marking v → May (StorePhase Drain) v
may-begin_marking v h x i k a =
    let phase = at-phase Marking x i v a h.alone in (
      ap (λ n. is_phase n Idle || is_phase n Marking || is_phase n Clear) phase,
      (and_from _ _ h.rest.knows (ap (λ n. not (is_phase n Clear) || blocks_done x.core.shape (words_of x.core.shape x.core.words) v.state) phase), (unless-alone v h.rest, tt)),
    )

pub may-begin_drain : (v : View) → IsAloneIn Idle v ⊎ IsAloneIn Marking v → May (StorePhase Drain) v
may-begin_drain v h = ⊎_elim (may-begin_idle v) (may-begin_marking v) h

-- the drain may begin again once all marks are cleared
pub may-begin_again : (v : View) → IsAloneIn Clear v → block_count v.shape ≤ block_floor v → May (StorePhase Drain) v
may-begin_again v h all x i k a =
    let phase = at-phase Clear x i v a h.alone in
    let sweeps : IsSweepingPhase (words_of x.core.shape x.core.words).phase = ap (λ n. is_phase n Sweep || is_phase n Clear) phase in (
      ap (λ n. is_phase n Idle || is_phase n Marking || is_phase n Clear) phase,
      (and_from _ _ h.rest.knows (or_right _ _ (done x i v k a h.rest sweeps all)), (unless-alone v h.rest, tt)),
    )

-- a counter or statistic may be reset in a drain, and also if no cycle is under way
pub may-reset_drain : (which : ℕ) (v : View) → nat_le which free_count ≡ true → IsAloneIn Drain v → May (Reset which) v
may-reset_drain which v low h x i k a =
    let phase = at-phase Drain x i v a h.alone in
    (and_from _ _ (and_from _ _ low h.rest.alone) (ap (λ n. is_phase n Idle || is_phase n Drain) phase), tt)

pub may-reset_idle : (which : ℕ) (v : View) → nat_le which free_count ≡ true → IsAloneIn Idle v → May (Reset which) v
may-reset_idle which v low h x i k a =
    let phase = at-phase Idle x i v a h.alone in
    (and_from _ _ (and_from _ _ low h.rest.alone) (ap (λ n. is_phase n Idle || is_phase n Drain) phase), tt)
