use Rattle.std.proofs.Common.{◌≡◌, ℕ, ◌+◌, ◌≤◌, ◌<◌, List, [], ◌∷◌, ◌++◌, length, take, drop, get_or, refl, ap, sym, ◌∙◌, subst, arith}
use Rattle.std.proofs.lemmas.List.{take_all, take_more, drop_more, take-append-drop}
use Rattle.std.specs.Prelude.{Some, None}
use Rattle.mark_core.specs.Kinds.{kind_of}
use Rattle.mark_core.specs.Laws.{IsCore, ClosedMarksAll}
use Rattle.mark_core.specs.Steps.{Core, failing_part, after_event}
use Rattle.schedule_check.specs.declared.line.Line.{Line}
use Rattle.schedule_check.specs.Schedule.{Schedule}
use Rattle.schedule_check.specs.Verdicts.{IsRunOfLines, IsAccepted, IsRefusedAt, start_of}
use Rattle.schedule_check.proofs.play.play.Goals as goal

-- Runs of a schedule, event by event.
-- a run with an event more
run_more : (ls : List Line) (l : Line) (c d : Core) → IsRunOfLines ls c d → failing_part d l.event ≡ None → IsRunOfLines (ls ++ l ∷ []) c (after_event d l.event)
run_more [] l c d h f = (subst (λ (x : Core). failing_part x l.event ≡ None) (sym h) f, ap (λ (x : Core). after_event x l.event) h)
run_more (k ∷ ls) l c d h f = (h.0, run_more ls l (after_event c k.event) d h.1 f)

run_next : (ls : List Line) (c : Core) (i : ℕ) (l : Line) (d e : Core) → i < length ls → get_or ls i l ≡ l → IsRunOfLines (take i ls) c d → failing_part d l.event ≡ None → e ≡ after_event d l.event
    → IsRunOfLines (take (i + 1) ls) c e
run_next ls c i l d e h g r f a =
    subst (λ (xs : List Line). IsRunOfLines xs c e) (sym (take_more ls i l h ∙ ap (λ (x : Line). take i ls ++ x ∷ []) g))
    (subst (IsRunOfLines (take i ls ++ l ∷ []) c) (sym a) (run_more (take i ls) l c d r f))

run_end : (s : Schedule) (ls : List Line) (i : ℕ) (d : Core) → ls ≡ s.events → length ls ≤ i → IsRunOfLines (take i ls) (start_of s) d → IsCore d → ClosedMarksAll → IsAccepted s d
run_end s ls i d e h r k law = record { closed_marks = law d k.formed k.sound; run = subst (λ (xs : List Line). IsRunOfLines xs (start_of s) d) (take_all i ls h ∙ e) r; sound = k }

run_refused : (s : Schedule) (ls : List Line) (i : ℕ) (l : Line) (d : Core) (kind part : ℕ) → ls ≡ s.events → i < length ls → get_or ls i l ≡ l → IsRunOfLines (take i ls) (start_of s) d
    → kind ≡ kind_of l.event.step → failing_part d l.event ≡ Some part → IsRefusedAt s l.line kind part
run_refused s ls i l d kind part e h g r k f =
    record {
      before = take i ls;
      refused = l;
      after = drop (i + 1) ls;
      state = d;
      events = sym e ∙ sym (take-append-drop i ls) ∙ ap (λ (xs : List Line). take i ls ++ xs) (drop_more ls i l h ∙ ap (λ (x : Line). x ∷ drop (i + 1) ls) g);
      run = r;
      line_is = refl;
      kind_is = k;
      part_is = f;
    }

pub loop-line-preserved : goal.loop-line-preserved
loop-line-preserved c =
    run_next c.as_slice-line-items.result.now _ c.loop-line.line-index c.line-item.result c.loop-line.state c.apply.new.self c.loop-line-test.true (sym c.line-item.is) c.loop-line.invariant c.in_default.ensures.allowed c.in_default.ensures.after

pub returns-in-Err-apply : goal.returns-in-Err-apply
returns-in-Err-apply c =
    run_refused c.args.schedule.now c.as_slice-line-items.result.now c.loop-line.line-index c.line-item.result c.loop-line.state _ _ (c.as_slice-line-items.ensures.value ∙ ap (λ (s : Schedule). s.events) c.schedule.view_is) c.loop-line-test.true (sym c.line-item.is) c.loop-line.invariant
    c.in-Err-apply.ensures.refused.0 c.in-Err-apply.ensures.refused.1

pub returns : goal.returns
returns c = run_end c.args.schedule.now c.as_slice-line-items.result.now c.loop-line.line-index c.loop-line.state (c.as_slice-line-items.ensures.value ∙ ap (λ (s : Schedule). s.events) c.schedule.view_is) (omega arith) c.loop-line.invariant c.shape-shape.ensures.sound c.closed_marks_all.ensures
