-- Which schedules are too large to be drawn.
use Rattle.std.specs.Prelude.{ℕ, List, [], ◌∷◌, length, nat_lt, if◌then◌else◌, Option, Some, None, codes}
use Rattle.schedule_check.specs.Schedule.{Schedule}
use Rattle.schedule_states.specs.Rows.{row_text}
use Rattle.schedule_states.specs.declared.excess.Excess.{Excess}
use Rattle.schedule_states.specs.declared.excess.Excess.TheVariants.{Cells, Packets, Entries, Sections, Fields, Seats, Events}

-- the first size that is past its limit
abbrev pub excess_of : Schedule → Option Excess
excess_of s =
    if nat_lt 128 s.shape.cells then Some (Cells s.shape.cells)
    else if nat_lt 8 s.shape.packets then Some (Packets s.shape.packets)
    else if nat_lt 16 s.shape.entries then Some (Entries s.shape.entries)
    else if nat_lt 8 s.shape.sections then Some (Sections s.shape.sections)
    else if nat_lt 8 s.shape.fields then Some (Fields s.shape.fields)
    else if nat_lt 12 s.seats then Some (Seats s.seats)
    else if nat_lt 2000 (length s.events) then Some (Events (length s.events))
    else None

-- which size is too large, the number, and the limit
abbrev pub excess_text : Excess → List ℕ
excess_text (Cells n) = row_text (codes "too many cells") (n ∷ 128 ∷ [])
excess_text (Packets n) = row_text (codes "too many packets") (n ∷ 8 ∷ [])
excess_text (Entries n) = row_text (codes "too many entries") (n ∷ 16 ∷ [])
excess_text (Sections n) = row_text (codes "too many sections") (n ∷ 8 ∷ [])
excess_text (Fields n) = row_text (codes "too many fields") (n ∷ 8 ∷ [])
excess_text (Seats n) = row_text (codes "too many seats") (n ∷ 12 ∷ [])
excess_text (Events n) = row_text (codes "too many events") (n ∷ 2000 ∷ [])
