-- What the core runs is accepted.
use Rattle.std.proofs.Common.{◌≡◌, ℕ, ◌+◌, refl, List, [], ◌∷◌, length, map}
use Rattle.std.specs.Prelude.{Option, None, Some, is_none, if◌then◌else◌}
use Rattle.mark_core.specs.Kinds.{kind_of}
use Rattle.mark_core.specs.Steps.{Core, failing_part, after_event, run_of, refused_with, first_refused}
use Rattle.mark_core.specs.declared.kinds.Event.{Event}
use Rattle.schedule_check.specs.declared.line.Line.{Line}
use Rattle.schedule_check.specs.declared.verdict.Verdict.{Verdict}
use Rattle.schedule_check.specs.Verdicts.{start_of, at_end, by_part, verdict_from}
use Rattle.schedule_check.specs.Laws.{RunsAreAccepted}

nothing-there : {X : Type 0} (x : X) → Some x ≡ None → ⊥
nothing-there x e = cc

-- one event more
with-one : (n i kind : ℕ) (l : Line) (part : Option ℕ) (later : Option (ℕ × ℕ × ℕ)) (rest : Verdict) (c d : Core) → refused_with i kind part later ≡ None → (later ≡ None → rest ≡ at_end n d)
    → by_part l part rest ≡ at_end n (if is_none part then d else c)
with-one n i kind l None later rest c d none follows = follows none
with-one n i kind l (Some part) later rest c d none follows = absurd (nothing-there (i, kind, part) none)

accepted-from : (n i : ℕ) (ls : List Line) (c : Core) → first_refused i (map (λ (l : Line). l.event) ls) c ≡ None → verdict_from n ls c ≡ at_end n (run_of (map (λ (l : Line). l.event) ls) c)
accepted-from n i [] c none = refl
accepted-from n i (l ∷ ls) c none =
    let after : Core = after_event c l.event in
    let events : List Event = map (λ (m : Line). m.event) ls in
    with-one n i (kind_of l.event.step) l (failing_part c l.event) (first_refused (i + 1) events after) (verdict_from n ls after) c (run_of events after) none (accepted-from n (i + 1) ls after)

pub runs_accepted : RunsAreAccepted
runs_accepted s none = accepted-from (length s.events) 0 s.events (start_of s) none
