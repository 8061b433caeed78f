-- Verdicts on schedules: what each is, computed event by event, and what it means.
use Rattle.std.specs.Prelude.{ℕ, ◌≡◌, List, [], ◌∷◌, ◌++◌, length, None, Some, Option, IsTrue}
use Rattle.mark_core.specs.Kinds.{kind_of}
use Rattle.mark_core.specs.Layout.{words_of}
use Rattle.mark_core.specs.Seats.{is_phase, phase_of}
use Rattle.mark_core.specs.Closed.{is_closed, AllMarked}
use Rattle.mark_core.specs.Summary.{marked_cells, used_cells}
use Rattle.mark_core.specs.Laws.{IsCore}
use Rattle.mark_core.specs.Steps.{Core, failing_part, after_event, start_core}
use Rattle.schedule_check.specs.declared.line.Line.{Line}
use Rattle.schedule_check.specs.Schedule.{Schedule}
use Rattle.schedule_check.specs.declared.verdict.Verdict.{Verdict}
use Rattle.schedule_check.specs.declared.verdict.Verdict.TheVariants.{Accepted, Refused}

-- the state in which nothing of the schedule was played
abbrev pub start_of : Schedule → Core
start_of s = start_core s.shape s.seats

-- what is told of this state, if it is the end of this many events
abbrev pub at_end : ℕ → Core → Verdict
at_end n c =
    let w = words_of c.shape c.words in
    Accepted n (phase_of w.phase) w.empty (marked_cells c) (used_cells c) (is_closed c)

-- the verdict if this line's event has this failing part, or what those after it come to
abbrev pub by_part : Line → Option ℕ → Verdict → Verdict
by_part l None rest = rest
by_part l (Some part) rest = Refused l.line (record { kind = kind_of l.event.step; part = part })

-- the verdict on these lines from this state on, if there are n events in all
abbrev pub verdict_from : ℕ → List Line → Core → Verdict
verdict_from n [] c = at_end n c
verdict_from n (l ∷ ls) c = by_part l (failing_part c l.event) (verdict_from n ls (after_event c l.event))

-- the verdict on a schedule
abbrev pub verdict : Schedule → Verdict
verdict s = verdict_from (length s.events) s.events (start_of s)

-- a run: each event is allowed in its turn, and they lead from the one state to the other
abbrev pub IsRunOfLines : List Line → Core → Core → Type 0
IsRunOfLines [] c d = c ≡ d
IsRunOfLines (l ∷ ls) c d = (failing_part c l.event ≡ None) × IsRunOfLines ls (after_event c l.event) d

-- all events are a run, and this is its end: it is sound, and if some seat makes it closed, every reachable cell is marked
pub record IsAccepted (s : Schedule) (end : Core) : Type 0 where
  pub run : IsRunOfLines s.events (start_of s) end
  pub sound : IsCore end
  pub closed_marks : IsTrue (is_closed end) → AllMarked end

-- the events before one are a run, and this one, on that line, isn't allowed then
pub record IsRefusedAt (s : Schedule) (line kind part : ℕ) : Type 0 where
  pub before : List Line
  pub refused : Line
  pub after : List Line
  pub state : Core
  pub events : s.events ≡ before ++ refused ∷ after
  pub run : IsRunOfLines before (start_of s) state
  pub line_is : line ≡ refused.line
  pub kind_is : kind ≡ kind_of refused.event.step
  pub part_is : failing_part state refused.event ≡ Some part

-- what a verdict says of a schedule: the run of all its events and what their end is like, or the first event that isn't allowed
abbrev pub Says : Schedule → Verdict → Type 0
Says s (Accepted events phase empty marked used closed) =
    (end : Core) × IsAccepted s end × (events ≡ length s.events) × IsTrue (is_phase (words_of end.shape end.words).phase phase) × (empty ≡ (words_of end.shape end.words).empty)
    × (marked ≡ marked_cells end) × (used ≡ used_cells end) × (closed ≡ is_closed end)
Says s (Refused line rule) = IsRefusedAt s line rule.kind rule.part
