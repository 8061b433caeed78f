-- The pass over all cards, whose next card the seats draw from one counter.
use Rattle.std.specs.Prelude.{ℕ, ◌≡◌, ◌<◌, ◌≤◌, ◌⊎◌, ◌||◌, if◌then◌else◌, nat_lt, [], ◌∷◌, Bool, true, false, Option, Some, None, unwrap_or}
use Rattle.mark_core.specs.Numbers.{card_counter}
use Rattle.mark_core.specs.Layout.{card_count}
use Rattle.mark_core.specs.Places.{the_next_card}
use Rattle.mark_core.specs.declared.kinds.Step.{Step}
use Rattle.mark_core.specs.declared.kinds.Step.TheVariants.{NextOfCards, ReadStat}
use Rattle.mark_core.specs.declared.seat.SeatState.{SeatState}
use Rattle.gc_table.specs.declared.view.View.{View}
use Rattle.gc_table.specs.Notes.{look}
use Rattle.gc_table.specs.Taking.{after, Finds}
use Rattle.gc_table.specs.Log.{events, event}

-- the counter was read, and it was at its end
pub record PassIsOver (v w : View) : Type 0 where
  pub seen : ℕ
  pub finds : Finds (ReadStat card_counter) seen v
  pub over : card_count v.shape ≤ seen
  pub view : w ≡ after (ReadStat card_counter) seen v
  pub events_are : events v w ≡ event (ReadStat card_counter) seen ∷ []

-- the counter was read below its end, and raised: it was n then
pub record Draws (n : ℕ) (v w : View) : Type 0 where
  pub seen : ℕ
  pub finds : Finds (ReadStat card_counter) seen v
  pub under : seen < card_count v.shape
  pub draws : Finds NextOfCards n (after (ReadStat card_counter) seen v)
  pub view : w ≡ after NextOfCards n (after (ReadStat card_counter) seen v)
  pub events_are : events v w ≡ event (ReadStat card_counter) seen ∷ event NextOfCards n ∷ []

-- the next card, or none if the counter was seen to have reached the number of cards
abbrev pub DrawsCard : Option ℕ → View → View → Type 0
DrawsCard r v w = (PassIsOver v w × (r ≡ None)) ⊎ ((n : ℕ) × Draws n v w × (r ≡ (if nat_lt n (card_count v.shape) then Some n else None)))

-- the number below which the counter won't fall, as the seat knows it
abbrev pub card_floor : View → ℕ
card_floor v = unwrap_or (look the_next_card v.floors) 0

-- a step of the pass
abbrev pub draws_card : Step → Bool
draws_card (ReadStat which) = true
draws_card NextOfCards = true
draws_card step = false

-- no other seat lets the counter fall
abbrev pub keeps_floor : SeatState → Bool
keeps_floor s = s.admitted || s.knows
