-- How often cards are cleaned in a run, and how often the pass draws a card.
use Rattle.std.specs.Prelude.{ℕ, ◌+◌, ◌-◌, ◌*◌, ◌≤◌, List, Bool, true, false, not, ◌==◌, slice_index}
use Rattle.std.specs.List.{count_by}
use Rattle.mark_core.specs.Layout.{words_of, card_count}
use Rattle.mark_core.specs.Numbers.{card_counter, most_seats}
use Rattle.mark_core.specs.Steps.{Core, run_of}
use Rattle.mark_core.specs.Laws.{IsCore, AllNumbersFit}
use Rattle.mark_core.specs.declared.kinds.Event.{Event}
use Rattle.mark_core.specs.declared.kinds.Step.TheVariants.{DirtyCard, NextOfCards, Reset}
use Rattle.work_laws.specs.Counting.{Sort, count_events}
use Rattle.work_laws.specs.Scanning.{cleans}

-- a clean card is dirtied
abbrev pub dirties : Sort
dirties c s (DirtyCard card) = not (slice_index (words_of c.shape c.words).cards card == 1)
dirties c s step = false

-- the pass draws a card
abbrev pub draws : Sort
draws c s NextOfCards = true
draws c s step = false

-- the pass begins anew
abbrev pub begins_pass : Sort
begins_pass c s (Reset which) = which == card_counter
begins_pass c s step = false

-- the word says that the card is dirty
abbrev pub is_dirty : ℕ → Bool
is_dirty word = word == 1

-- how many cards are dirty
abbrev pub dirty_cards : Core → ℕ
dirty_cards c = count_by is_dirty (words_of c.shape c.words).cards

-- how many cards the pass may draw at most: each seat may raise the counter once past its end
abbrev pub cards_of_pass : Core → ℕ
cards_of_pass c = card_count c.shape + most_seats

-- how many are left to draw
abbrev pub cards_to_draw : Core → ℕ
cards_to_draw c = cards_of_pass c - (words_of c.shape c.words).next_card

-- over every run: a dirty card is cleaned only as often as a clean one was dirtied; and a pass draws each card once
pub record CleaningIsBounded : Type 0 where
  pub cleans : (c : Core) (es : List Event) → IsCore c → AllNumbersFit es → count_events cleans es c + dirty_cards (run_of es c) ≤ dirty_cards c + count_events dirties es c
  pub draws : (c : Core) (es : List Event) → IsCore c → AllNumbersFit es → count_events draws es c + cards_to_draw (run_of es c) ≤ cards_to_draw c + cards_of_pass c * count_events begins_pass es c
