-- What a play answers, with the heap that it closed at its end.
use Rattle.std.specs.Prelude.{ℕ, ◌-◌, ◌*◌, ◌≤◌, List, Result, Ok, Err}
use Rattle.mark_core.specs.declared.kinds.Shape.{Shape}
use Rattle.plain_heap.specs.Sections.{Sections, seasons}
use Rattle.play_end.specs.declared.error.PlayError.{PlayError}
use Rattle.play_end.specs.declared.error.PlayError.TheVariants as errors
use Rattle.play_end.specs.Answers.{IsReport, PlayAnswers}
use Rattle.play_report.specs.declared.report.Positions.{Positions}
use Rattle.play_report.specs.declared.report.Report.{Report}
use Rattle.gc_table.specs.declared.seat.HeapSeat.{HeapSeat}
use Rattle.gc_table.specs.declared.words.Words.{Words}
use Rattle.play_end.specs.Closed.{IsClosed, PlayedAll, SeatsStopped}
use Rattle.play_end.specs.Reported.{AreSurvivorsPlaced, AreParts, AreStored}
use Rattle.gc_play.specs.Traced.{HasMoved, TracersRan, turns_reached}

-- a heap of these sizes was closed with these words when each section had played all its parts; the report's parts are those of its seats,
-- a survivor's place is the cell that holds it, and each of this many tracers traced in each season until its parts were played
pub record IsPlayed (s : Sections) (sh : Shape) (tracers : ℕ) (r : Report) (w : Words) : Type 0 where
  pub seats : List HeapSeat
  pub closed : IsClosed s sh.cells sh seats w
  pub played : PlayedAll s seats
  pub parts : AreParts s seats r.parts.items
  pub held : AreSurvivorsPlaced s w r
  pub traced : TracersRan s sh tracers (seasons s) seats

-- the heap was closed when the sections had stopped in some season, because it was full, and the positions are those that it stored; each tracer traced in each
-- season whose warehouses had their turn, in that one too if it was reached: the season was moved on so often
pub record IsStopped (s : Sections) (sh : Shape) (tracers : ℕ) (p : Positions) : Type 0 where
  pub season : ℕ
  pub words : Words
  pub seats : List HeapSeat
  pub closed : IsClosed s sh.cells sh seats words
  pub stopped : SeatsStopped s season seats
  pub stored : AreStored words p
  pub moved : ℕ
  pub moved_is : HasMoved moved seats
  pub within : (2 * season - 3 ≤ moved) × (moved ≤ 2 * season - 1)
  pub traced : TracersRan s sh tracers (turns_reached moved) seats

-- how a play that has no report ended
abbrev pub StopsIn : PlayError → Sections → Shape → ℕ → Type 0
StopsIn (errors.Full p) s sh tracers = IsStopped s sh tracers p
StopsIn errors.OutOfMemory s sh tracers = Unit {0}

-- what a play answers, with the words at its end
abbrev pub FinalAnswers : Result (Report × Words) PlayError → Sections → ℕ → Type 0
FinalAnswers (Ok r) s cells = IsReport s cells r.0
FinalAnswers (Err e) s cells = PlayAnswers (Err e) s cells

-- how its heap ended
abbrev pub FinalEnds : Result (Report × Words) PlayError → Sections → Shape → ℕ → Type 0
FinalEnds (Ok r) s sh tracers = IsPlayed s sh tracers r.0 r.1
FinalEnds (Err e) s sh tracers = StopsIn e s sh tracers

-- how the heap of a play ended, if the caller gets the report without the words
abbrev pub EndsIn : Result Report PlayError → Sections → Shape → ℕ → Type 0
EndsIn (Ok r) s sh tracers = (w : Words) × IsPlayed s sh tracers r w
EndsIn (Err e) s sh tracers = StopsIn e s sh tracers
