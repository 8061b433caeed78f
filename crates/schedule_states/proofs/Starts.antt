-- A schedule whose shape, number of seats and events were read one by one.
use Rattle.std.proofs.Common.{◌≡◌, ℕ, List, ◌++◌, ap, ◌∙◌, codes}
use Rattle.mark_core.specs.Steps.{Core}
use Rattle.mark_core.specs.declared.kinds.Shape.{Shape}
use Rattle.schedule_check.specs.Schedule.{Schedule}
use Rattle.schedule_check.specs.Verdicts.{start_of}
use Rattle.schedule_check.specs.declared.line.Line.{Line}
use Rattle.schedule_states.specs.Rows.{row_text}
use Rattle.schedule_states.specs.Telling.{size_numbers, run_text, states_text, schedule_ends}
use Rattle.schedule_states.specs.Turns.{turns_end}

-- its sizes
pub sizes_same : (s : Schedule) (sh : Shape) (n : ℕ) (ns : List ℕ) → ns ≡ size_numbers sh n → sh ≡ s.shape → n ≡ s.seats → ns ≡ size_numbers s.shape s.seats
sizes_same s sh n ns e shape seats = e ∙ ap (λ (x : Shape). size_numbers x n) shape ∙ ap (size_numbers s.shape) seats

-- its text
pub states_same : (s : Schedule) (ns : List ℕ) (ls : List Line) (c : Core) → ns ≡ size_numbers s.shape s.seats → ls ≡ s.events → c ≡ start_of s
    → row_text (codes "shape") ns ++ run_text ls c ≡ states_text s
states_same s ns ls c sizes lines start =
    ap (λ (x : List ℕ). row_text (codes "shape") x ++ run_text ls c) sizes
    ∙ ap (λ (x : List Line). row_text (codes "shape") (size_numbers s.shape s.seats) ++ run_text x c) lines
    ∙ ap (λ (x : Core). row_text (codes "shape") (size_numbers s.shape s.seats) ++ run_text s.events x) start

-- how it ends
pub ends_same : (s : Schedule) (ls : List Line) (c : Core) → ls ≡ s.events → c ≡ start_of s → turns_end ls c ≡ schedule_ends s
ends_same s ls c lines start = ap (λ (x : List Line). turns_end x c) lines ∙ ap (turns_end s.events) start
