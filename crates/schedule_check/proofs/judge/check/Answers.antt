use Rattle.std.proofs.Common.{◌≡◌, ℕ, zero, suc, ◌≤◌, List, [], ◌∷◌, ◌++◌, length, refl, ap, sym, ◌∙◌, subst, true, arith}
use Rattle.std.specs.Prelude.{Option, Some}
use Rattle.mark_core.specs.Kinds.{kind_of}
use Rattle.mark_core.specs.Layout.{words_of}
use Rattle.mark_core.specs.Seats.{is_phase, phase_of}
use Rattle.mark_core.specs.Steps.{Core, failing_part, after_event}
use Rattle.mark_core.specs.declared.refused.Rule.{Rule}
use Rattle.schedule_check.specs.declared.line.Line.{Line}
use Rattle.schedule_check.specs.Schedule.{Schedule}
use Rattle.schedule_check.specs.Verdicts.{IsRunOfLines, IsAccepted, IsRefusedAt, start_of, at_end, by_part, verdict_from, verdict, Says}
use Rattle.schedule_check.specs.declared.verdict.Verdict.{Verdict}
use Rattle.schedule_check.specs.declared.verdict.Verdict.TheVariants.{Refused}
use Rattle.schedule_check.proofs.judge.check.Goals as goal

-- What a verdict says is what the definition computes.
-- a run comes to what is told of its end
run_ends : (n : ℕ) (ls : List Line) (c d : Core) → IsRunOfLines ls c d → verdict_from n ls c ≡ at_end n d
run_ends n [] c d r = ap (at_end n) r
run_ends n (l ∷ ls) c d r = ap (λ (o : Option ℕ). by_part l o (verdict_from n ls (after_event c l.event))) r.0 ∙ run_ends n ls (after_event c l.event) d r.1

-- a run before an event that isn't allowed comes to its refusal
run_refused : (n : ℕ) (before : List Line) (l : Line) (after : List Line) (c d : Core) (part : ℕ) → IsRunOfLines before c d → failing_part d l.event ≡ Some part
    → verdict_from n (before ++ l ∷ after) c ≡ Refused l.line (record { kind = kind_of l.event.step; part = part })
run_refused n [] l after c d part r f =
    ap (λ (o : Option ℕ). by_part l o (verdict_from n after (after_event c l.event))) (ap (λ (x : Core). failing_part x l.event) r ∙ f)
run_refused n (k ∷ ks) l after c d part r f =
    ap (λ (o : Option ℕ). by_part k o (verdict_from n (ks ++ l ∷ after) (after_event c k.event))) r.0 ∙ run_refused n ks l after (after_event c k.event) d part r.1 f

accepted-is : (s : Schedule) (d : Core) → IsAccepted s d → verdict s ≡ at_end (length s.events) d
accepted-is s d k = run_ends (length s.events) s.events (start_of s) d k.run

refused-is : (s : Schedule) (line : ℕ) (rule : Rule) → IsRefusedAt s line rule.kind rule.part → verdict s ≡ Refused line rule
refused-is s line rule k =
    ap (λ (es : List Line). verdict_from (length s.events) es (start_of s)) k.events
    ∙ run_refused (length s.events) k.before k.refused k.after (start_of s) k.state rule.part k.run k.part_is
    ∙ ap (λ (n : ℕ). Refused n (record { kind = kind_of k.refused.event.step; part = rule.part })) (sym k.line_is)
    ∙ ap (λ (n : ℕ). Refused line (record { kind = n; part = rule.part })) (sym k.kind_is)

-- a word up to 5 says its phase
phase-said : (w : ℕ) → w ≤ 5 → is_phase w (phase_of w) ≡ true
phase-said zero h = refl
phase-said (suc zero) h = refl
phase-said (suc (suc zero)) h = refl
phase-said (suc (suc (suc zero))) h = refl
phase-said (suc (suc (suc (suc zero)))) h = refl
phase-said (suc (suc (suc (suc (suc zero))))) h = refl
phase-said (suc (suc (suc (suc (suc (suc w)))))) h = absurd (omega arith)

end-says : (s : Schedule) (d : Core) → IsAccepted s d → Says s (at_end (length s.events) d)
end-says s d k = (d, k, refl, phase-said (words_of d.shape d.words).phase k.sound.formed.phase, refl, refl, refl, refl)

-- what is told of the end of all events is the verdict, and it is so
ran-is : (s : Schedule) (n : ℕ) (d : Core) (v : Verdict) → IsAccepted s d → n ≡ length s.events → v ≡ at_end n d → v ≡ verdict s
ran-is s n d v k h e = e ∙ ap (λ (m : ℕ). at_end m d) h ∙ sym (accepted-is s d k)

ran-says : (s : Schedule) (n : ℕ) (d : Core) (v : Verdict) → IsAccepted s d → n ≡ length s.events → v ≡ at_end n d → Says s v
ran-says s n d v k h e = subst (Says s) (sym (e ∙ ap (λ (m : ℕ). at_end m d) h)) (end-says s d k)

pub returns-in-Ok-Refused-clause-exact : goal.returns-in-Ok-Refused-clause-exact
returns-in-Ok-Refused-clause-exact c =
    sym (refused-is c.args.schedule.now c.in-Ok-Refused.line c.in-Ok-Refused.rule (rw c.in-Ok-Refused.field-0-is at c.in-Ok-Refused.ensures))

pub returns-in-Ok-Ran-clause-exact : goal.returns-in-Ok-Ran-clause-exact
returns-in-Ok-Ran-clause-exact c =
    let count : c.len.result ≡ length c.args.schedule.now.events = omega (arith, c.len.ensures, c.schedule.inside.events.ok.0, ap (λ (s : Schedule). length s.events) c.schedule.view_is) in
    ran-is c.args.schedule.now _ _ _ (rw c.in-Ok-Ran.field-0-is at c.in-Ok-Ran.ensures) count c.at_end.ensures

pub returns-in-Ok-Ran-clause-meaning : goal.returns-in-Ok-Ran-clause-meaning
returns-in-Ok-Ran-clause-meaning c =
    let count : c.len.result ≡ length c.args.schedule.now.events = omega (arith, c.len.ensures, c.schedule.inside.events.ok.0, ap (λ (s : Schedule). length s.events) c.schedule.view_is) in
    ran-says c.args.schedule.now _ _ _ (rw c.in-Ok-Ran.field-0-is at c.in-Ok-Ran.ensures) count c.at_end.ensures
