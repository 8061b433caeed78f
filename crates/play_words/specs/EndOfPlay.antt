-- What a play leaves at its end.
use Rattle.std.specs.Prelude.{◌≤◌, List}
use Rattle.mark_core.specs.declared.kinds.Shape.{Shape}
use Rattle.plain_heap.specs.Sections.{Sections}
use Rattle.gc_table.specs.declared.seat.HeapSeat.{HeapSeat}
use Rattle.gc_table.specs.declared.words.Words.{Words}
use Rattle.play_report.specs.declared.report.Report.{Report}
use Rattle.play_end.specs.Answers.{IsReport}
use Rattle.play_end.specs.Closed.{IsClosed, PlayedAll}
use Rattle.play_end.specs.Reported.{AreParts}

-- the report of a play in which each section played all its parts, and the words of its heap, which was then closed
pub record IsEndOf (s : Sections) (r : Report) (w : Words) : Type 0 where
  pub shape : Shape
  -- a dump has no more records than this
  pub few : shape.cells ≤ 65536
  pub seats : List HeapSeat
  pub closed : IsClosed s shape.cells shape seats w
  pub played : PlayedAll s seats
  pub parts : AreParts s seats r.parts.items
  pub report : IsReport s shape.cells r
