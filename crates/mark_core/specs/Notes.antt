-- What a seat may note of the words: a word that it read stays while other seats act, as long as its record says so.
use Rattle.std.specs.Prelude.{ℕ, List, Bool, false, not, ◌&&◌, ◌||◌, if◌then◌else◌, ◌==◌, slice_index}
use Rattle.mark_core.specs.Layout.{region_sizes, region_words}
use Rattle.mark_core.specs.Places.{the_world, the_phase, the_next_card, the_next_block, the_named, the_help, the_season, counter_at}
use Rattle.mark_core.specs.Seats.{is_phase}
use Rattle.mark_core.specs.declared.kinds.Shape.{Shape}
use Rattle.mark_core.specs.declared.kinds.Phase.TheVariants.{Marking, Full}
use Rattle.mark_core.specs.declared.kinds.Step.{Step}
use Rattle.mark_core.specs.declared.kinds.Step.TheVariants.{Reset}
use Rattle.mark_core.specs.declared.seat.SeatState.{SeatState}

-- the word at a place, and 0 if there is no such place
abbrev pub word_at : Shape → List ℕ → ℕ × ℕ → ℕ
word_at sh ws at = slice_index (region_words (region_sizes sh) at.0 ws) at.1

-- the two places are the same
abbrev pub same_place : ℕ × ℕ → ℕ × ℕ → Bool
same_place x y = (x.0 == y.0) && (x.1 == y.1)

-- the word counts seats, which come and go at any time
abbrev pub is_gate : ℕ × ℕ → Bool
is_gate at = same_place at the_world || same_place at the_help

-- the phase stays while the seat knows that the world is stopped, while it helps, and while it marks; and the heap stays full
abbrev pub keeps_phase : SeatState → ℕ → Bool
keeps_phase s word = s.knows || s.admitted || (s.active && is_phase word Marking) || is_phase word Full

-- a single word that stays though the seat isn't alone
abbrev pub keeps_single : SeatState → ℕ × ℕ → ℕ → Bool
keeps_single s at word =
    if same_place at the_phase then keeps_phase s word
    else if same_place at the_named then s.knows
    else if same_place at the_season then s.knows || s.active
    else false

-- no other seat changes the word at this place, if the seat found `word` there
abbrev pub steady : SeatState → ℕ × ℕ → ℕ → Bool
steady s at word = not (is_gate at) && (s.alone || keeps_single s at word)

-- the counters of a cycle, which are raised or set to 0
abbrev pub is_counter : ℕ × ℕ → Bool
is_counter at = same_place at the_next_card || same_place at the_next_block

-- no other seat lets the counter at this place fall
abbrev pub keeps_bound : SeatState → ℕ × ℕ → Bool
keeps_bound s at = is_counter at && (s.admitted || s.knows)

-- the step sets the counter at this place to 0
abbrev pub resets : Step → ℕ × ℕ → Bool
resets (Reset which) at = same_place (counter_at which) at
resets step at = false
