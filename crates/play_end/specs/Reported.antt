-- The report of a play that came to its end.
use Rattle.std.specs.Prelude.{ℕ, ◌≡◌, ◌≤◌, List, length, map, Some, slice_get}
use Rattle.plain_heap.specs.Sections.{Sections, section_numbers, seasons, end_of, executed_total}
use Rattle.play_report.specs.Report.{printed_of, survivor_of}
use Rattle.play_report.specs.declared.report.Part.{Part}
use Rattle.play_report.specs.declared.report.Report.{Report}
use Rattle.gc_table.specs.declared.seat.HeapSeat.{HeapSeat}
use Rattle.gc_table.specs.declared.words.Words.{Words}
use Rattle.gc_table.specs.Seats.{view_of}
use Rattle.mark_core.specs.Bits.{reference_in}
use Rattle.plain_heap.specs.PlainRun.{last_heaps}
use Rattle.plain_heap.specs.Paths.{Name, IsReachable}
use Rattle.plain_heap.specs.Placement.{LiesIn}
use Rattle.play_report.specs.declared.report.Positions.{Positions}
use Rattle.play_end.specs.Answers.{places_of}
use Rattle.play_end.specs.Closed.{CellHasIdentity}
use Rattle.play_end.specs.Done.{HasSaid}
use Rattle.play_end.specs.Ended.{AreListed}

-- each part is what the player of its section had at the end
pub record AreParts (s : Sections) (seats : List HeapSeat) (parts : List Part) : Type 0 where
  pub sections : length parts ≡ length (section_numbers s)
  pub each : (k : ℕ) (p : Part) (seat : HeapSeat) → slice_get parts k ≡ Some p → slice_get seats k ≡ Some seat
      → HasSaid s k (end_of s k (seasons s)) (map printed_of p.said.items) p.dropped p.places.items (view_of seat).own

-- its survivors are what the words list
abbrev pub ListsWords : ℕ → Words → Report → Type 0
ListsWords cells w r = AreListed cells w.idents.items w.values.items w.alloc.items (map survivor_of r.survivors.items)

-- the place that the report has of a survivor is the cell that holds it, by the words
abbrev pub AreSurvivorsPlaced : Sections → Words → Report → Type 0
AreSurvivorsPlaced s w r = (name : Name) (cell : ℕ) → IsReachable (last_heaps s) name → LiesIn (places_of r) name cell → CellHasIdentity w cell name

-- these are the stored positions, and the section that is named, by the words
pub record AreStored (w : Words) (p : Positions) : Type 0 where
  pub section : p.section ≡ w.named
  pub done : p.done.items ≡ map reference_in w.positions.items

-- few commands in all, as in each script that is read
abbrev pub IsShort : Sections → Type 0
IsShort s = executed_total s ≤ 2000000
