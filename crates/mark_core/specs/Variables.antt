-- The variables as the seats have them: the root of a variable, unless it lags behind the seat's record.
use Rattle.std.specs.Prelude.{ℕ, ◌/◌, ◌%◌, List, Option, Some, None, map, length, if◌then◌else◌, slice_index, slice_get}
use Rattle.std.specs.List.{range_with_len}
use Rattle.mark_core.specs.Bits.{has_bit}
use Rattle.mark_core.specs.Numbers.{section_variables}
use Rattle.mark_core.specs.declared.seat.SeatState.{SeatState}

-- variable v of a seat if its root lags, and else the root
abbrev pub held_word : Option SeatState → ℕ → ℕ → ℕ
held_word None v root = root
held_word (Some s) v root = if has_bit s.lags v then slice_index s.env v else root

-- root k as the seats have it
abbrev pub root_now : List ℕ → List SeatState → ℕ → ℕ
root_now roots seats k = held_word (slice_get seats (k / section_variables)) (k % section_variables) (slice_index roots k)

-- the roots as the seats have them
abbrev pub roots_now : List ℕ → List SeatState → List ℕ
roots_now roots seats = map (root_now roots seats) (range_with_len 0 (length roots))
