-- What is claimed of reports and of their texts, as statements for proofs to meet.
use Rattle.std.specs.Prelude.{ℕ, ◌≡◌, ◌<◌, List, length, map, false}
use Rattle.plain_heap.specs.Sections.{Execution, Sections, section_numbers, IsNext}
use Rattle.plain_heap.specs.PlainRun.{Printed, plain, heaps_at, last_heaps}
use Rattle.plain_heap.specs.Paths.{Name, IsReachable, Survivor, AreSurvivors}
use Rattle.plain_heap.specs.Placement.{IsNew, LiesIn}
use Rattle.play_report.specs.Order.{IsPlaced}
use Rattle.play_report.specs.Report.{Outcome, outcome_of, survivor_of}
use Rattle.play_report.specs.Text.{IsReportText, IsLoadText}
use Rattle.play_report.specs.declared.report.Report.{Report}
use Rattle.play_end.specs.Answers.{IsReport}

-- what a section printed, and how many stores it dropped
abbrev pub said_of : Outcome → List Printed × ℕ
said_of o = (o.said, o.dropped)

-- two reports differ only in the places of objects
pub record AgreeButForPlaces (a b : Report) : Type 0 where
  pub said : map said_of (map outcome_of a.parts.items) ≡ map said_of (map outcome_of b.parts.items)
  pub survivors : map survivor_of a.survivors.items ≡ map survivor_of b.survivors.items

-- all reports of a script agree but for places, in however many cells it was played
abbrev pub OneReport : Type 0
OneReport = (s : Sections) (m n : ℕ) (a b : Report) → IsReport s m a → IsReport s n b → AgreeButForPlaces a b

-- of each script the reachable objects at the end can be listed, so there are survivors to report
abbrev pub SurvivorsExist : Type 0
SurvivorsExist = (s : Sections) → (survivors : List Survivor) × AreSurvivors (last_heaps s) survivors

-- a script has one text of a report, if no places are written
abbrev pub OneText : Type 0
OneText = (s : Sections) (m n : ℕ) (a b : List ℕ) → IsReportText s m false a → IsReportText s n false b → a ≡ b

-- a script has one text of counts
abbrev pub OneLoadText : Type 0
OneLoadText = (s : Sections) (a b : List ℕ) → IsLoadText s a → IsLoadText s b → a ≡ b

-- whatever the order, just before a `new` no object lies in the cell that it takes that the section can reach, or that the sections reach which have no turn then
abbrev pub CellsAreFree : Type 0
CellsAreFree =
    (s : Sections) (cells : ℕ) (places : List (List ℕ)) → IsPlaced s cells places → (w k z : ℕ) (e : Execution) → w < length (section_numbers s) → IsNext s w k z e → IsNew e.op
    → (name : Name) (cell : ℕ) → IsReachable (heaps_at s w k z) name → LiesIn places name cell → LiesIn places (record { section = w; number = length (plain s w k).objects }) cell → ⊥
