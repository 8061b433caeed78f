-- The reading of lines one after the other.
use Rattle.std.specs.Prelude.{ℕ, ◌+◌, List, [], ◌∷◌, ◌++◌, length, nat_lt, if◌then◌else◌, Option, Some, None, Result, Ok, Err}
use Rattle.mark_core.specs.declared.kinds.Event.{Event}
use Rattle.schedule_check.specs.Faults.{FaultOfSchedule, BadShape, BadEvent, TooManyEvents}
use Rattle.schedule_check.specs.Schedule.{Schedule, is_skipped, shape_line, event_line}

-- the schedule that a shape line begins
abbrev pub begun_schedule : Option Schedule → Result (Option Schedule) FaultOfSchedule
begun_schedule None = Err BadShape
begun_schedule (Some s) = Ok (Some s)

-- the schedule with an event more, on this line
abbrev pub with_more : Schedule → ℕ → Option Event → Result (Option Schedule) FaultOfSchedule
with_more s line None = Err (BadEvent line)
with_more s line (Some e) =
    if nat_lt (length s.events) 100000 then Ok (Some (record s { events = s.events ++ record { line = line; event = e } ∷ [] })) else Err (TooManyEvents line)

-- what was read after a line with words, and before it
abbrev pub after_words : Option Schedule → ℕ → List (List ℕ) → Result (Option Schedule) FaultOfSchedule
after_words None line ws = begun_schedule (shape_line ws)
after_words (Some s) line ws = with_more s line (event_line ws)

-- what was read after a line, and before it; a line that is skipped changes nothing
abbrev pub after_schedule_line : Option Schedule → ℕ → List (List ℕ) → Result (Option Schedule) FaultOfSchedule
after_schedule_line state line ws = if is_skipped ws then Ok state else after_words state line ws

-- the schedule at the end of input, if a shape line began one
abbrev pub ended : Option Schedule → Result Schedule FaultOfSchedule
ended None = Err BadShape
ended (Some s) = Ok s

-- the first fault, or what follows from what was read
abbrev pub and_then : Result (Option Schedule) FaultOfSchedule → (Option Schedule → Result Schedule FaultOfSchedule) → Result Schedule FaultOfSchedule
and_then (Err fault) later = Err fault
and_then (Ok state) later = later state

-- what is read from this line on
abbrev pub reading : Option Schedule → ℕ → List (List (List ℕ)) → Result Schedule FaultOfSchedule
reading state line [] = ended state
reading state line (ws ∷ rest) = and_then (after_schedule_line state line ws) (λ next. reading next (line + 1) rest)
