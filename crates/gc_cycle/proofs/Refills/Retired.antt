-- A mutator that has given its cache up.
use Rattle.std.proofs.Common.{ℕ, ◌≡◌, List, [], ◌∷◌, ◌++◌, refl, ap, ◌∙◌, Bool, true, false, not, ◌&&◌, None, Option, Some}
use Rattle.std.specs.Prelude.{◌==◌, if◌then◌else◌, is_none, is_some}
use Rattle.std.specs.Int.Count.{ones}
use Rattle.std.proofs.lemmas.Bool.{and_from, and_parts, false≢true}
use Rattle.mark_core.specs.Numbers.{free_count}
use Rattle.mark_core.specs.Seats.{empty_handed, has_making, work_in_hand}
use Rattle.mark_core.specs.declared.kinds.Shape.{Shape}
use Rattle.mark_core.specs.declared.kinds.Step.{Step}
use Rattle.mark_core.specs.declared.kinds.Step.TheVariants.{AddStat, PublishCells, ReleaseBlock}
use Rattle.mark_core.specs.declared.seat.SeatState.{SeatState}
use Rattle.gc_table.specs.declared.view.Entry.{Entry}
use Rattle.gc_table.specs.declared.view.View.{View}
use Rattle.gc_table.specs.Log.{all_steps, events, Only, steps_of}
use Rattle.gc_table.specs.Running.{Ran}
use Rattle.gc_table.proofs.Running.{ran-shape}
use Rattle.alloc_cache.specs.Retiring.{retiring_steps}
use Rattle.alloc_cache.specs.declared.cache.Cache.{Cache}
use Rattle.gc_cycle.specs.Answering.{retires}
use Rattle.gc_cycle.specs.Standing.{is_at_rest, Mutates}

abbrev pub all_of : (Step → Bool) → List Step → Bool
all_of P [] = true
all_of P (s ∷ ss) = P s && all_of P ss

by-steps : (P : Step → Bool) (es : List Entry) → all_steps P es ≡ all_of P (steps_of es)
by-steps P [] = refl
by-steps P (e ∷ es) = ap (λ b. P e.step && b) (by-steps P es)

retiring-all : (h : Cache) (used : ℕ) → all_of retires (retiring_steps h used) ≡ true
retiring-all h used = either (used == 0) (ones h.cells)
  where
    either : (b : Bool) (n : ℕ) → all_of retires ((if b then [] else PublishCells ∷ []) ++ AddStat free_count n false ∷ ReleaseBlock ∷ []) ≡ true
    either true n = refl
    either false n = refl

pub retired-only : (v w : View) (h : Cache) (used : ℕ) → steps_of (events v w) ≡ retiring_steps h used → Only retires v w
retired-only v w h used e = by-steps retires (events v w) ∙ (ap (all_of retires) e ∙ retiring-all h used)

none-of : {X : Type 0} (o : Option X) → is_none o ≡ true → o ≡ None
none-of None e = refl
none-of (Some x) e = absurd (false≢true e)

pub owes-none : (v : View) → Mutates v → v.state.owes ≡ None
owes-none v m =
    let s = v.state in
    let p5 = and_parts _ (not (has_making s.cache)) m.rest in
    let p4 = and_parts _ ((s.got == 0) && (s.lags == 0)) p5.0 in
    let p3 = and_parts (empty_handed s && not (work_in_hand v.shape.fields s) && is_none s.owes) (is_none s.block) p4.0 in
    none-of s.owes (and_parts (empty_handed s && not (work_in_hand v.shape.fields s)) (is_none s.owes) p3.0).1

without-cache : (sh : Shape) (s : SeatState) → is_at_rest sh s ≡ true → is_at_rest sh (record s { cache = None }) ≡ true
without-cache sh s e = and_from _ true (and_parts _ (not (has_making s.cache)) e).0 refl

pub retired-mutates : (v w : View) → Mutates v → Ran v w → w.state ≡ record v.state { cache = None } → Mutates w
retired-mutates v w m r e =
    record {
      active = ap (λ (s : SeatState). s.active) e ∙ m.active;
      unhelping = ap (λ (s : SeatState). s.helping) e ∙ m.unhelping;
      section = ap (λ (s : SeatState). is_some s.section) e ∙ m.section;
      rest = ap (λ (sh : Shape). is_at_rest sh w.state) (ran-shape v w r) ∙ (ap (λ (s : SeatState). is_at_rest v.shape s) e ∙ without-cache v.shape v.state m.rest);
    }
