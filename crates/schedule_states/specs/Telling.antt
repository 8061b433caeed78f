-- What is written of a source.
use Rattle.std.specs.Prelude.{ℕ, ◌≡◌, List, [], ◌∷◌, ◌++◌, Option, Some, None, Result, Ok, Err, codes}
use Rattle.std.specs.Io.KnownBytes.{Appends, Keeps}
use Rattle.play_report.specs.Causes.{Rose, AppendsPrefix}
use Rattle.mark_core.specs.Steps.{Core}
use Rattle.mark_core.specs.declared.kinds.Shape.{Shape}
use Rattle.schedule_check.specs.Faults.{FaultOfSchedule}
use Rattle.schedule_check.specs.Schedule.{Schedule, schedule}
use Rattle.schedule_check.specs.Text.{schedule_fault_text}
use Rattle.schedule_check.specs.Verdicts.{start_of}
use Rattle.schedule_check.specs.declared.line.Line.{Line}
use Rattle.schedule_states.specs.Rows.{row_text}
use Rattle.schedule_states.specs.States.{state_text}
use Rattle.schedule_states.specs.Turns.{turns_text, turns_end}
use Rattle.schedule_states.specs.Excesses.{excess_of, excess_text}
use Rattle.schedule_states.specs.declared.excess.Excess.{Excess}
use Rattle.schedule_states.specs.declared.turns.Ended.{Ended}
use Rattle.schedule_states.specs.declared.turns.Ended.TheVariants as ended
use Rattle.schedule_states.specs.declared.tell.Shown.{Shown}
use Rattle.schedule_states.specs.declared.tell.Shown.TheVariants as shown
use Rattle.schedule_states.specs.declared.tell.Unshown.{Unshown}
use Rattle.schedule_states.specs.declared.tell.Unshown.TheVariants as unshown

-- the sizes of a schedule
abbrev pub size_numbers : Shape → ℕ → List ℕ
size_numbers s seats = s.cells ∷ s.packets ∷ s.entries ∷ s.sections ∷ s.fields ∷ seats ∷ []

-- this state, and what is written of these lines' events from it on
abbrev pub run_text : List Line → Core → List ℕ
run_text lines c = state_text c ++ turns_text lines c

-- the shape, the state in which nothing has happened, and each event with the state after it, up to the first that isn't allowed
abbrev pub states_text : Schedule → List ℕ
states_text s = row_text (codes "shape") (size_numbers s.shape s.seats) ++ run_text s.events (start_of s)

-- how the schedule's events end
abbrev pub schedule_ends : Schedule → Ended
schedule_ends s = turns_end s.events (start_of s)

-- what is answered if they end like this
abbrev pub shown_of_end : Ended → Shown
shown_of_end ended.Accepted = shown.Accepted
shown_of_end ended.Refused = shown.Refused

-- the states, unless a size is past its limit
abbrev pub text_unless : Option Excess → Schedule → List ℕ
text_unless None s = states_text s
text_unless (Some x) s = excess_text x

-- what is written of a schedule
abbrev pub schedule_text : Schedule → List ℕ
schedule_text s = text_unless (excess_of s) s

abbrev pub shown_unless : Option Excess → Schedule → Shown
shown_unless None s = shown_of_end (schedule_ends s)
shown_unless (Some x) s = shown.TooLarge

-- what is answered of a schedule
abbrev pub shown_of_schedule : Schedule → Shown
shown_of_schedule s = shown_unless (excess_of s) s

-- what is written of what bytes are
abbrev pub text_as : Result Schedule FaultOfSchedule → List ℕ
text_as (Ok s) = schedule_text s
text_as (Err fault) = schedule_fault_text fault

-- what is answered of what bytes are
abbrev pub shown_as : Result Schedule FaultOfSchedule → Shown
shown_as (Ok s) = shown_of_schedule s
shown_as (Err fault) = shown.Faulty

-- what is answered after the text of this was handed to the sink
abbrev pub finished_as : {T E : Type 0} → Shown → Result T E → Result Shown Unshown
finished_as t (Ok u) = Ok t
finished_as t (Err e) = Err unshown.Failed

-- the text was written, and this answered; or a prefix of it, and the sink failed; or memory ran out and nothing was written
abbrev pub ShowsAs : List ℕ → Shown → Result Shown Unshown → Option (List ℕ) → Option (List ℕ) → ℕ → ℕ → Type 0
ShowsAs text t (Ok told) old new before now = (told ≡ t) × Appends old new text × (now ≡ before)
ShowsAs text t (Err unshown.Failed) old new before now = AppendsPrefix old new text × Rose before now
ShowsAs text t (Err unshown.OutOfMemory) old new before now = Keeps old new × (now ≡ before)

-- what is written and answered of these bytes
abbrev pub TellsStates : List ℕ → Result Shown Unshown → Option (List ℕ) → Option (List ℕ) → ℕ → ℕ → Type 0
TellsStates bytes result old new before now = ShowsAs (text_as (schedule bytes)) (shown_as (schedule bytes)) result old new before now
