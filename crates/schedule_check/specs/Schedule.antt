-- Schedules, and what the bytes of one are.
use Rattle.std.specs.Prelude.{ℕ, ◌+◌, ◌%◌, List, [], ◌∷◌, length, map, Bool, true, false, ◌&&◌, ◌==◌, nat_lt, nat_le, if◌then◌else◌, Option, Some, None, Result, Ok, Err, codes}
use Rattle.std.specs.Str.{bytes_eq}
use Rattle.gc_script.specs.ScriptText.{first_foreign, is_note, lines, words}
use Rattle.mark_core.specs.Cards.{block_cells}
use Rattle.mark_core.specs.declared.kinds.Shape.{Shape}
use Rattle.mark_core.specs.declared.kinds.Event.{Event}
use Rattle.mark_core.specs.declared.kinds.Step.{Step}
use Rattle.schedule_check.specs.declared.line.Line.{Line}
use Rattle.schedule_check.specs.Forms.{number_word}
use Rattle.schedule_check.specs.Table.{all_three, triple, step_of}
use Rattle.schedule_check.specs.Faults.{FaultOfSchedule, NotAscii, BadHeader, BadShape, BadEvent, TooManyEvents, TooLong}

-- the sizes of the heap, how many seats there are, and the events in order
pub record Schedule : Type 0 where
  pub shape : Shape
  pub seats : ℕ
  pub events : List Line

-- a line without a word, or whose first word begins with `#`
abbrev pub is_skipped : List (List ℕ) → Bool
is_skipped [] = true
is_skipped (word ∷ words) = is_note word

-- the first line
abbrev pub is_header : List (List ℕ) → Bool
is_header (first ∷ version ∷ []) = bytes_eq first (codes "gcschedule") && bytes_eq version (codes "1")
is_header words = false

-- n is within these limits
abbrev pub is_between : ℕ → ℕ → ℕ → Bool
is_between least most n = nat_le least n && nat_le n most

-- the sizes and the number of seats are within their limits
abbrev pub is_in_limits : Shape → ℕ → Bool
is_in_limits s seats =
    is_between block_cells 65536 s.cells && (s.cells % block_cells == 0) && is_between 2 1024 s.packets && is_between 2 512 s.entries && is_between 1 33 s.sections && is_between 1 16 s.fields && is_between 1 41 seats

-- a schedule without events
abbrev pub without_events : Shape → ℕ → Schedule
without_events shape seats = record { shape = shape; seats = seats; events = [] }

-- a schedule of these sizes without events, if they are within their limits
abbrev pub if_in_limits : Shape → ℕ → Option Schedule
if_in_limits shape seats = if is_in_limits shape seats then Some (without_events shape seats) else None

-- how many objects a section makes at most in a schedule
abbrev pub objects_in_schedule : ℕ
objects_in_schedule = 2000000

-- six numbers: cells, packets, entries, sections, fields, seats
abbrev pub sized : Option (ℕ × ℕ × ℕ) → Option (ℕ × ℕ × ℕ) → Option Schedule
sized (Some x) (Some y) = if_in_limits (record { cells = x.0; packets = x.1; entries = x.2; sections = y.0; fields = y.1; objects = objects_in_schedule; sharing = false; slots = 0; stretch = 1 }) y.2
sized x y = None

-- the schedule that a shape line begins
abbrev pub shape_line : List (List ℕ) → Option Schedule
shape_line (word ∷ c ∷ p ∷ e ∷ words) =
    if bytes_eq word (codes "shape") then sized (all_three (number_word c) (number_word p) (number_word e)) (triple number_word number_word number_word words) else None
shape_line words = None

-- the event of a seat and a step, if there are both
abbrev pub event_by : Option ℕ → Option Step → Option Event
event_by (Some seat) (Some step) = Some (record { seat = seat; step = step })
event_by seat step = None

-- the event of a line: a seat, the name of a step, and its parameters
abbrev pub event_line : List (List ℕ) → Option Event
event_line (seat ∷ name ∷ words) = event_by (number_word seat) (step_of name words)
event_line words = None

-- the events from this one on, if those after it are these
abbrev pub put_first : Line → Result (List Line) FaultOfSchedule → Result (List Line) FaultOfSchedule
put_first l (Ok rest) = Ok (l ∷ rest)
put_first l (Err fault) = Err fault

-- the events from this line on: its event, if it has one and fewer than 100,000 came before, and those after it
abbrev pub with_event : ℕ → ℕ → Option Event → Result (List Line) FaultOfSchedule → Result (List Line) FaultOfSchedule
with_event line n None rest = Err (BadEvent line)
with_event line n (Some e) rest = if nat_lt n 100000 then put_first (record { line = line; event = e }) rest else Err (TooManyEvents line)

-- the events of these lines, the first of which has this number, after n events
abbrev pub events_from : ℕ → ℕ → List (List (List ℕ)) → Result (List Line) FaultOfSchedule
events_from line n [] = Ok []
events_from line n (ws ∷ rest) =
    if is_skipped ws then events_from (line + 1) n rest else with_event line n (event_line ws) (events_from (line + 1) (n + 1) rest)

-- the schedule with these events
abbrev pub with_events : Schedule → Result (List Line) FaultOfSchedule → Result Schedule FaultOfSchedule
with_events s (Ok events) = Ok (record s { events = events })
with_events s (Err fault) = Err fault

-- the schedule that a shape line begins, with the events of the lines after it
abbrev pub of_shape : Option Schedule → ℕ → List (List (List ℕ)) → Result Schedule FaultOfSchedule
of_shape None line rest = Err BadShape
of_shape (Some s) line rest = with_events s (events_from line 0 rest)

-- the lines after the header, the first of which has this number
abbrev pub schedule_body : ℕ → List (List (List ℕ)) → Result Schedule FaultOfSchedule
schedule_body line [] = Err BadShape
schedule_body line (ws ∷ rest) = if is_skipped ws then schedule_body (line + 1) rest else of_shape (shape_line ws) (line + 1) rest

-- the schedule of these lines, the first of which is the header
abbrev pub of_schedule_lines : List (List (List ℕ)) → Result Schedule FaultOfSchedule
of_schedule_lines [] = Err BadHeader
of_schedule_lines (first ∷ others) = if is_header first then schedule_body 2 others else Err BadHeader

-- the schedule of these bytes, if each is ASCII
abbrev pub of_schedule_text : Option ℕ → List ℕ → Result Schedule FaultOfSchedule
of_schedule_text (Some offset) bytes = Err (NotAscii offset)
of_schedule_text None bytes = of_schedule_lines (map words (lines bytes))

-- what the bytes are: a schedule, or its one fault
abbrev pub schedule : List ℕ → Result Schedule FaultOfSchedule
schedule bytes = if nat_lt 4194304 (length bytes) then Err TooLong else of_schedule_text (first_foreign bytes) bytes
