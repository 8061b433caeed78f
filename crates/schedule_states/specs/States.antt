-- What is written of a state.
use Rattle.std.specs.Prelude.{ℕ, List, ◌++◌, codes}
use Rattle.std.specs.List.{flat_map}
use Rattle.mark_core.specs.Steps.{Core}
use Rattle.schedule_states.specs.Rows.{numbers_text, name_text}
use Rattle.schedule_states.specs.Seats.{seat_text}

abbrev pub all_words_text : Core → List ℕ
all_words_text c = numbers_text c.words

abbrev pub words_rest : Core → List ℕ
words_rest c = all_words_text c ++ codes "]\n"

-- all words, in the order of docs/STEPS.md
abbrev pub words_row : Core → List ℕ
words_row c = name_text (codes "words") ++ words_rest c

-- the record of each seat
abbrev pub seats_text : Core → List ℕ
seats_text c = flat_map seat_text c.seats

-- a state
abbrev pub state_text : Core → List ℕ
state_text c = words_row c ++ seats_text c
