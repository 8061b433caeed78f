-- What is claimed of verdicts, as a statement for a proof to meet.
use Rattle.std.specs.Prelude.{◌≡◌, List, length, map, None}
use Rattle.mark_core.specs.Steps.{run_of, first_refused}
use Rattle.mark_core.specs.declared.kinds.Event.{Event}
use Rattle.schedule_check.specs.Schedule.{Schedule}
use Rattle.schedule_check.specs.Verdicts.{start_of, at_end, verdict}

-- the events of a schedule, without their lines
abbrev pub events_of : Schedule → List Event
events_of s = map (λ l. l.event) s.events

-- a list of events of which the core refuses none is accepted, with the end to which the core runs
abbrev pub RunsAreAccepted : Type 0
RunsAreAccepted = (s : Schedule) → first_refused 0 (events_of s) (start_of s) ≡ None → verdict s ≡ at_end (length s.events) (run_of (events_of s) (start_of s))
