-- How many steps a tracer takes at most in a turn while marking is under way. It depends on the packets and the fields of the heap, and not on its cells.
use Rattle.std.specs.Prelude.{ℕ, ◌+◌}
use Rattle.mark_core.specs.declared.kinds.Shape.{Shape}
use Rattle.tracer.specs.StepBounds.{trace_steps}
use Rattle.card_clean.specs.StepBounds.{clean_next_steps}
use Rattle.seat_turns.specs.CardPass.{turn_cards}
use Rattle.seat_turns.specs.Tending.{turn_quota}

-- all cards of a turn are drawn, looked at and cleaned
abbrev pub cards_steps : Shape → ℕ
cards_steps sh = clean_next_steps turn_cards sh

-- the three numbers are read that tell whether the cycle is far on, and then cards are passed
abbrev pub late_steps : Shape → ℕ
late_steps sh = 3 + cards_steps sh

-- the objects of a turn are traced, and cards are passed if the cycle is far on
abbrev pub turn_steps : Shape → ℕ
turn_steps sh = trace_steps turn_quota sh + late_steps sh
