-- The texts of verdicts and of faults.
use Rattle.std.specs.Prelude.{ℕ, List, [], ◌++◌, Option, Some, None, codes, decimal, Bool, if◌then◌else◌}
use Rattle.play_report.specs.Text.{named_text}
use Rattle.mark_core.specs.Seats.{phase_number}
use Rattle.mark_core.specs.declared.kinds.Phase.{Phase}
use Rattle.schedule_check.specs.Faults.{FaultOfSchedule, NotAscii, BadHeader, BadShape, BadEvent, TooManyEvents, TooLong}
use Rattle.schedule_check.specs.Shown.{schedule_fault_of}
use Rattle.schedule_check.specs.declared.fault.ScheduleFault.{ScheduleFault}
use Rattle.schedule_check.specs.declared.verdict.Verdict.{Verdict}
use Rattle.schedule_check.specs.declared.verdict.Verdict.TheVariants.{Accepted, Refused}

-- whether marking is done
abbrev pub closed_text : Bool → List ℕ
closed_text closed = if closed then codes "closed yes\n" else codes "closed no\n"

-- how many cells are in use, and whether marking is done
abbrev pub used_text : ℕ → Bool → List ℕ
used_text used closed = named_text (codes "used ") used ++ closed_text closed

-- how many cells are marked and in use, and whether marking is done
abbrev pub marking_text : ℕ → ℕ → Bool → List ℕ
marking_text marked used closed = named_text (codes "marked ") marked ++ used_text used closed

-- the phase by its number, and the word that counts empty packets
abbrev pub words_text : Phase → ℕ → List ℕ
words_text phase empty = named_text (codes "phase ") (phase_number phase) ++ named_text (codes "empty ") empty

-- the state at the end: the phase, the count of empty packets, the marked cells, the cells in use, and whether marking is done
abbrev pub end_text : Phase → ℕ → ℕ → ℕ → Bool → List ℕ
end_text phase empty marked used closed = words_text phase empty ++ marking_text marked used closed

-- how many events there are, and the state at the end
abbrev pub accepted_text : ℕ → Phase → ℕ → ℕ → ℕ → Bool → List ℕ
accepted_text events phase empty marked used closed = named_text (codes "accepted ") events ++ end_text phase empty marked used closed

-- the line of the event that isn't allowed, the kind of its step, and the part of the condition that fails
unfoldable pub refused_text : ℕ → ℕ → ℕ → List ℕ
refused_text line kind part = codes "refused line " ++ decimal line ++ codes " rule " ++ decimal kind ++ codes " part " ++ decimal part ++ codes "\n"

-- the text of a verdict
abbrev pub verdict_text : Verdict → List ℕ
verdict_text (Accepted events phase empty marked used closed) = accepted_text events phase empty marked used closed
verdict_text (Refused line rule) = refused_text line rule.kind rule.part

-- the number and the name of a fault, and its place
abbrev pub schedule_fault_text : FaultOfSchedule → List ℕ
schedule_fault_text (NotAscii offset) = named_text (codes "21 NotAscii offset ") offset
schedule_fault_text BadHeader = codes "22 BadHeader\n"
schedule_fault_text BadShape = codes "23 BadShape\n"
schedule_fault_text (BadEvent line) = named_text (codes "24 BadEvent line ") line
schedule_fault_text (TooManyEvents line) = named_text (codes "25 TooManyEvents line ") line
schedule_fault_text TooLong = codes "26 TooLong\n"

-- no fault has no text
abbrev pub text_of_schedule_fault : Option FaultOfSchedule → List ℕ
text_of_schedule_fault None = []
text_of_schedule_fault (Some fault) = schedule_fault_text fault

-- the text of what the reader answers in place of a schedule
abbrev pub schedule_error_text : ScheduleFault → List ℕ
schedule_error_text error = text_of_schedule_fault (schedule_fault_of error)
