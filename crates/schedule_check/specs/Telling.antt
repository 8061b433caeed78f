-- What is told of a source.
use Rattle.std.specs.Prelude.{ℕ, ◌≡◌, List, Option, Result, Ok, Err}
use Rattle.std.specs.Io.KnownBytes.{Appends, Keeps}
use Rattle.play_report.specs.Causes.{Rose, AppendsPrefix}
use Rattle.schedule_check.specs.Faults.{FaultOfSchedule}
use Rattle.schedule_check.specs.Schedule.{Schedule, schedule}
use Rattle.schedule_check.specs.Verdicts.{verdict, Says}
use Rattle.schedule_check.specs.Text.{verdict_text, schedule_fault_text}
use Rattle.schedule_check.specs.declared.verdict.Verdict.{Verdict}
use Rattle.schedule_check.specs.declared.verdict.Verdict.TheVariants.{Accepted, Refused}
use Rattle.schedule_check.specs.declared.tell.Told.{Told}
use Rattle.schedule_check.specs.declared.tell.Told.TheVariants as told
use Rattle.schedule_check.specs.declared.tell.Untold.{Untold}
use Rattle.schedule_check.specs.declared.tell.Untold.TheVariants as untold

-- the status of a verdict
abbrev pub verdict_status : Verdict → ℕ
verdict_status (Accepted events phase empty marked used closed) = 0
verdict_status (Refused line rule) = 7

-- the status of what bytes are
abbrev pub status_as : Result Schedule FaultOfSchedule → ℕ
status_as (Ok s) = verdict_status (verdict s)
status_as (Err fault) = 2

-- the text of what bytes are
abbrev pub text_as : Result Schedule FaultOfSchedule → List ℕ
text_as (Ok s) = verdict_text (verdict s)
text_as (Err fault) = schedule_fault_text fault

-- the status of these bytes: 0 for a schedule that is accepted, 7 for one that is refused, and 2 if they are none
abbrev pub status_of : List ℕ → ℕ
status_of bytes = status_as (schedule bytes)

-- a schedule's verdict says what is so
abbrev pub IsMeant : Result Schedule FaultOfSchedule → Type 0
IsMeant (Ok s) = Says s (verdict s)
IsMeant (Err fault) = Unit {0}

-- what may be written, by the status, if the bytes are this
pub record IsToldAs (r : Result Schedule FaultOfSchedule) (status : ℕ) (text : List ℕ) : Type 0 where
  pub status_is : status ≡ status_as r
  pub text_is : text ≡ text_as r
  pub meant : IsMeant r

-- what may be written of these bytes, by the status
abbrev pub IsScheduleAnswer : List ℕ → ℕ → List ℕ → Type 0
IsScheduleAnswer bytes status text = IsToldAs (schedule bytes) status text

-- the status of what was told
abbrev pub number_of_told : Told → ℕ
number_of_told told.Accepted = 0
number_of_told told.Faulty = 2
number_of_told told.Refused = 7

-- what is answered after the text of this was handed to the sink
abbrev pub finished_as : {T E : Type 0} → Told → Result T E → Result Told Untold
finished_as t (Ok u) = Ok t
finished_as t (Err e) = Err untold.Failed

-- the text was written; or a prefix of it, and the sink failed; or memory ran out and nothing was written
abbrev pub TellsAs : Result Schedule FaultOfSchedule → Result Told Untold → Option (List ℕ) → Option (List ℕ) → ℕ → ℕ → Type 0
TellsAs r (Ok t) old new before now = IsToldAs r (number_of_told t) (text_as r) × Appends old new (text_as r) × (now ≡ before)
TellsAs r (Err untold.Failed) old new before now = IsToldAs r (status_as r) (text_as r) × AppendsPrefix old new (text_as r) × Rose before now
TellsAs r (Err untold.OutOfMemory) old new before now = Keeps old new × (now ≡ before)

-- what is told of these bytes: the text was written; or a prefix of it, and the sink failed; or memory ran out and nothing was written
abbrev pub TellsSchedule : List ℕ → Result Told Untold → Option (List ℕ) → Option (List ℕ) → ℕ → ℕ → Type 0
TellsSchedule bytes result old new before now = TellsAs (schedule bytes) result old new before now
