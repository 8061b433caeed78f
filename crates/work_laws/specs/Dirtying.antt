-- How often cards are dirtied in a run, and for what.
use Rattle.std.specs.Prelude.{ℕ, ◌+◌, ◌≤◌, List, Bool, true, false, not, ◌&&◌, ◌||◌, if◌then◌else◌, ◌==◌, Option, None, Some, is_some, slice_index}
use Rattle.std.specs.List.{count_by}
use Rattle.mark_core.specs.Layout.{words_of, Words}
use Rattle.mark_core.specs.Cards.{card_of}
use Rattle.mark_core.specs.Seats.{is_phase, is_the}
use Rattle.mark_core.specs.Steps.{Core, run_of}
use Rattle.mark_core.specs.Laws.{IsCore, AllNumbersFit}
use Rattle.mark_core.specs.declared.kinds.Event.{Event}
use Rattle.mark_core.specs.declared.kinds.Phase.TheVariants.{Marking}
use Rattle.mark_core.specs.declared.kinds.Step.TheVariants.{DirtyCard, ExchangeField, ReadAlloc, StoreField}
use Rattle.mark_core.specs.declared.seat.Cleaning.{Cleaning}
use Rattle.mark_core.specs.declared.seat.SeatState.{SeatState}
use Rattle.work_laws.specs.Counting.{Sort, count_events}
use Rattle.work_laws.specs.Marking.{marks_anew, pushes_fresh, fresh_in_hand}
use Rattle.work_laws.specs.Scanning.{cleans}
use Rattle.work_laws.specs.Cleaning.{dirties}
use Rattle.work_laws.specs.DrainedCards.{lacks_bits}

-- a reference is stored in an object, or may be: by an exchange
abbrev pub stores_reference : Sort
stores_reference c s (StoreField v i w) = true
stores_reference c s (ExchangeField v i x y) = true
stores_reference c s step = false

-- a card is dirtied for a store that its seat made
abbrev pub pays_debt : Sort
pays_debt c s (DirtyCard card) = is_the s.owes card
pays_debt c s step = false

-- the cell is of this card
abbrev pub is_on : ℕ → Option ℕ → Bool
is_on card None = false
is_on card (Some x) = card_of x == card

-- so is the popped cell, which was found unpublished
abbrev pub is_deferred_on : ℕ → Option (ℕ × Bool) → Bool
is_deferred_on card None = false
is_deferred_on card (Some x) = x.1 && (card_of x.0 == card)

-- a card is dirtied for a cell that was just marked
abbrev pub spills_fresh : Sort
spills_fresh c s (DirtyCard card) = is_on card s.fresh
spills_fresh c s step = false

-- a card is dirtied for a cell that was popped and found unpublished
abbrev pub spills_deferred : Sort
spills_deferred c s (DirtyCard card) = is_deferred_on card s.popped
spills_deferred c s step = false

-- the card that is cleaned is to be dirtied again
abbrev pub owes_again : Option Cleaning → Bool
owes_again None = false
owes_again (Some x) = x.redirty

-- and is this one
abbrev pub owes_again_on : ℕ → Option Cleaning → Bool
owes_again_on card None = false
owes_again_on card (Some x) = (x.card == card) && x.redirty

-- a card is dirtied again by its cleaning
abbrev pub dirties_again : Sort
dirties_again c s (DirtyCard card) = owes_again_on card s.cleaning
dirties_again c s step = false

-- a card is dirtied for none of these
abbrev pub dirties_idly : Sort
dirties_idly c s (DirtyCard card) = not (is_the s.owes card || is_on card s.fresh || is_deferred_on card s.popped || owes_again_on card s.cleaning)
dirties_idly c s step = false

-- a marked cell of the card that is cleaned is found unpublished, so that the card has to be dirtied again
abbrev pub finds_unpublished : Sort
finds_unpublished c s (ReadAlloc b) = lacks_bits s.cleaning b (slice_index (words_of c.shape c.words).allocs b)
finds_unpublished c s step = false

-- a dirty card is cleaned in Marking
abbrev pub cleans_in_marking : Sort
cleans_in_marking c s step = is_phase (words_of c.shape c.words).phase Marking && cleans c s step

-- the seat owes a card for a store
abbrev pub has_debt : SeatState → Bool
has_debt s = is_some s.owes

abbrev pub debts_in_hand : Core → ℕ
debts_in_hand c = count_by has_debt c.seats

-- the seat is to dirty the card again that it cleans
abbrev pub has_again : SeatState → Bool
has_again s = owes_again s.cleaning

abbrev pub again_in_hand : Core → ℕ
again_in_hand c = count_by has_again c.seats

-- the allocation bits of the card's cells weren't read yet
abbrev pub is_unseen : Option Cleaning → Bool
is_unseen None = false
is_unseen (Some x) = not x.known || (not (x.left == 0) && not (x.left == x.published))

-- the seat cleans such a card
abbrev pub has_unseen : SeatState → Bool
has_unseen s = is_unseen s.cleaning

-- how many seats do, in Marking
abbrev pub unseen_in : Words → List SeatState → ℕ
unseen_in w seats = if is_phase w.phase Marking then count_by has_unseen seats else 0

abbrev pub unseen_in_hand : Core → ℕ
unseen_in_hand c = unseen_in (words_of c.shape c.words) c.seats

-- over every run: a card is dirtied for a store, for a cell that finds no packet, or by a cleaning that found an unpublished cell (or for nothing). Each store
-- dirties one card, each cell that is marked anew is pushed or dirties one, and each cleaning of a dirty card in Marking dirties it again once
pub record DirtyingIsBounded : Type 0 where
  pub reasons : (c : Core) (es : List Event) → IsCore c → AllNumbersFit es
      → count_events dirties es c ≤ count_events pays_debt es c + (count_events spills_fresh es c + (count_events spills_deferred es c + (count_events dirties_again es c + count_events dirties_idly es c)))
  pub debts : (c : Core) (es : List Event) → IsCore c → AllNumbersFit es → count_events pays_debt es c + debts_in_hand (run_of es c) ≤ debts_in_hand c + count_events stores_reference es c
  pub fresh : (c : Core) (es : List Event) → IsCore c → AllNumbersFit es → count_events spills_fresh es c + count_events pushes_fresh es c + fresh_in_hand (run_of es c) ≤ fresh_in_hand c + count_events marks_anew es c
  pub again : (c : Core) (es : List Event) → IsCore c → AllNumbersFit es → count_events dirties_again es c + again_in_hand (run_of es c) ≤ again_in_hand c + count_events finds_unpublished es c
  pub found : (c : Core) (es : List Event) → IsCore c → AllNumbersFit es → count_events finds_unpublished es c + unseen_in_hand (run_of es c) ≤ unseen_in_hand c + count_events cleans_in_marking es c
