-- How often cells are marked in a run, and how often what was marked goes into a packet.
use Rattle.std.specs.Prelude.{ℕ, ◌+◌, ◌*◌, ◌≤◌, List, Bool, false, not, if◌then◌else◌, is_some}
use Rattle.std.specs.List.{count_by, range_with_len}
use Rattle.mark_core.specs.Layout.{words_of, Words}
use Rattle.mark_core.specs.Bits.{cell_bit}
use Rattle.mark_core.specs.Seats.{is_phase, is_the}
use Rattle.mark_core.specs.Rules.WorldRules.{is_tracing}
use Rattle.mark_core.specs.Steps.{Core, run_of}
use Rattle.mark_core.specs.Laws.{IsCore, AllNumbersFit}
use Rattle.mark_core.specs.declared.kinds.Event.{Event}
use Rattle.mark_core.specs.declared.kinds.Phase.TheVariants.{Idle, Marking, Drain}
use Rattle.mark_core.specs.declared.kinds.Shape.{Shape}
use Rattle.mark_core.specs.declared.kinds.Step.TheVariants.{SetMark, StorePhase, Push}
use Rattle.mark_core.specs.declared.seat.SeatState.{SeatState}
use Rattle.work_laws.specs.Counting.{Sort, count_events}

-- a white cell is marked
abbrev pub marks_anew : Sort
marks_anew c s (SetMark x) = not (cell_bit (words_of c.shape c.words).marks x)
marks_anew c s step = false

-- marking begins: by the move from Idle to Marking, or by one to Drain from elsewhere than Marking
abbrev pub begins_marking : Sort
begins_marking c s (StorePhase Marking) = is_phase (words_of c.shape c.words).phase Idle
begins_marking c s (StorePhase Drain) = not (is_phase (words_of c.shape c.words).phase Marking)
begins_marking c s step = false

-- a cell that the seat has just marked goes into a packet
abbrev pub pushes_fresh : Sort
pushes_fresh c s (Push p x) = is_the s.fresh x
pushes_fresh c s step = false

-- the white cells, while cells are marked; at other times none is to be marked
abbrev pub white_in : Shape → Words → ℕ
white_in sh w = if is_tracing w.phase then count_by (λ x. not (cell_bit w.marks x)) (range_with_len 0 sh.cells) else 0

-- how many cells are still to be marked, at most
abbrev pub cells_to_mark : Core → ℕ
cells_to_mark c = white_in c.shape (words_of c.shape c.words)

-- the seat has a cell in hand that it has just marked
abbrev pub has_fresh : SeatState → Bool
has_fresh s = is_some s.fresh

-- how many cells seats have in hand that they have just marked
abbrev pub fresh_in_hand : Core → ℕ
fresh_in_hand c = count_by has_fresh c.seats

-- over every run: each cell is marked anew at most once, each time that marking begins; and goes into a packet at most once for this
pub record MarksAreBounded : Type 0 where
  pub marks : (c : Core) (es : List Event) → IsCore c → AllNumbersFit es → count_events marks_anew es c + cells_to_mark (run_of es c) ≤ cells_to_mark c + c.shape.cells * count_events begins_marking es c
  pub pushes : (c : Core) (es : List Event) → IsCore c → AllNumbersFit es → count_events pushes_fresh es c + fresh_in_hand (run_of es c) ≤ fresh_in_hand c + count_events marks_anew es c
