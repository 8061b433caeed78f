-- What the reader answers, seen as the definitions have it.
use Rattle.std.specs.Prelude.{◌≡◌, ◌≤◌, length, Option, Some, None, Result, Ok, Err}
use Rattle.mark_core.specs.Shapes.{IsShape}
use Rattle.schedule_check.specs.Faults as faults
use Rattle.schedule_check.specs.Faults.{FaultOfSchedule}
use Rattle.schedule_check.specs.Schedule.{Schedule}
use Rattle.schedule_check.specs.declared.fault.ScheduleFault.{ScheduleFault}
use Rattle.schedule_check.specs.declared.fault.ScheduleFault.TheVariants as answers

-- the fault that an error tells; out of memory is none
abbrev pub schedule_fault_of : ScheduleFault → Option FaultOfSchedule
schedule_fault_of (answers.NotAscii offset) = Some (faults.NotAscii offset)
schedule_fault_of answers.BadHeader = Some faults.BadHeader
schedule_fault_of answers.BadShape = Some faults.BadShape
schedule_fault_of (answers.BadEvent line) = Some (faults.BadEvent line)
schedule_fault_of (answers.TooManyEvents line) = Some (faults.TooManyEvents line)
schedule_fault_of answers.TooLong = Some faults.TooLong
schedule_fault_of answers.OutOfMemory = None

-- an error tells this fault, or out of memory
abbrev pub is_schedule_refused : {A : Type 0} → Option FaultOfSchedule → Result A FaultOfSchedule → Type 0
is_schedule_refused None r = Unit {0}
is_schedule_refused (Some fault) r = r ≡ Err fault

-- an answer of the reader, if the source is this schedule or has this fault
abbrev pub ScheduleReadAnswers : {A B : Type 0} → (A → B) → Result A ScheduleFault → Result B FaultOfSchedule → Type 0
ScheduleReadAnswers shown (Ok s) r = r ≡ Ok (shown s)
ScheduleReadAnswers shown (Err e) r = is_schedule_refused (schedule_fault_of e) r

-- what holds of each schedule
pub record IsLegalSchedule (s : Schedule) : Type 0 where
  pub shape : IsShape s.shape
  pub seats : (1 ≤ s.seats) × (s.seats ≤ 41)
  pub few : length s.events ≤ 100000
