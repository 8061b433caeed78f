-- What one step does to what its seat owes cards.
use Rattle.std.proofs.Common.{ℕ, ◌≡◌, ◌+◌, ◌/◌, ◌%◌, ◌≤◌, get_or, arith, refl, Bool, true, false, not, ◌&&◌, ◌||◌, cond, eqb, Option, Some, None}
use Rattle.std.specs.Prelude.{is_some, bit_and}
use Rattle.mark_core.specs.Layout.{words_of, region_sizes}
use Rattle.mark_core.specs.Bits.{complement, without_bit}
use Rattle.mark_core.specs.Cards.{card_of, block_of_card, card_bits}
use Rattle.mark_core.specs.Seats.{is_the}
use Rattle.mark_core.specs.Effects.{seat_after}
use Rattle.mark_core.specs.Steps.{Core}
use Rattle.mark_core.specs.Steps.ColourSteps.{cleaning_after, fresh_off, known_in, popped_off, redirty_off, seen_in, without_cell}
use Rattle.mark_core.specs.declared.kinds.Step.{Step}
use Rattle.mark_core.specs.declared.kinds.Step.TheVariants.{CheckCard, ClearCard, DirtyCard, ExchangeField, ReadAlloc, ReadField, ReadMarks, StoreField}
use Rattle.mark_core.specs.declared.seat.Cleaning.{Cleaning}
use Rattle.mark_core.specs.declared.seat.SeatState.{SeatState}
use Rattle.mark_core.proofs.Known.{found}
use Rattle.mark_core.proofs.Count.CountMoves.{bit, bit-below}
use Rattle.mark_core.proofs.Writing.Places.{words-get}
use Rattle.mark_core.proofs.Blocks.BlocksStopped.{Taken, in-place}
use Rattle.work_laws.specs.Marking.{marks_anew, pushes_fresh, has_fresh}
use Rattle.work_laws.specs.Queueing.{defers, puts_back, is_deferred, has_deferred}
use Rattle.work_laws.specs.Cleaning.{dirties}
use Rattle.work_laws.specs.DrainedCards.{lacks_bits}
use Rattle.work_laws.specs.Dirtying.{stores_reference, pays_debt, is_on, is_deferred_on, spills_fresh, spills_deferred, owes_again, owes_again_on, dirties_again, dirties_idly, finds_unpublished, has_debt, has_again}
use Rattle.work_laws.proofs.Marks.{fresh-paid}
use Rattle.work_laws.proofs.QueueSteps.{deferred-paid}

abbrev ReasonsPaid : Core → SeatState → Step → Type 0
ReasonsPaid c s step = bit (dirties c s step) ≤ bit (pays_debt c s step) + (bit (spills_fresh c s step) + (bit (spills_deferred c s step) + (bit (dirties_again c s step) + bit (dirties_idly c s step))))

one_of : (n : Bool) (a b d e : Bool) → bit n ≤ bit a + (bit b + (bit d + (bit e + bit (not (a || b || d || e)))))
one_of n true b d e = omega (arith, bit-below n)
one_of n false true d e = omega (arith, bit-below n)
one_of n false false true e = omega (arith, bit-below n)
one_of n false false false true = omega (arith, bit-below n)
one_of n false false false false = omega (arith, bit-below n)

-- a card is dirtied for one reason or another
pub reasons-paid : (c : Core) (s : SeatState) (step : Step) → ReasonsPaid c s step
reasons-paid c s (DirtyCard card) =
    one_of (not (eqb (get_or (words_of c.shape c.words).cards card 0) 1)) (is_the s.owes card) (is_on card s.fresh) (is_deferred_on card s.popped) (owes_again_on card s.cleaning)
reasons-paid c s step = omega arith

abbrev DebtPaid : Core → SeatState → Step → Type 0
DebtPaid c s step = bit (pays_debt c s step) + bit (has_debt (seat_after c.shape s step (found c s step))) ≤ bit (has_debt s) + bit (stores_reference c s step)

paid_by : (y : ℕ) (b : Bool) → bit b + bit (is_some (cond b None (Some y))) ≤ 1
paid_by y true = omega arith
paid_by y false = omega arith

dirty_debt : (o : Option ℕ) (card : ℕ) → bit (is_the o card) + bit (is_some (cond (is_the o card) None o)) ≤ bit (is_some o)
dirty_debt None card = omega arith
dirty_debt (Some y) card = paid_by y (eqb y card)

check_debt : (o : Option ℕ) (b : Bool) → bit (is_some (cond b None o)) ≤ bit (is_some o)
check_debt o true = omega arith
check_debt o false = omega arith

-- what a step does to the card that its seat owes for a store
pub debt-paid : (c : Core) (i : ℕ) (s : SeatState) (step : Step) → Taken c i s step → DebtPaid c s step
debt-paid c i s (DirtyCard card) t = omega (arith, dirty_debt s.owes card)
debt-paid c i s (CheckCard card) t = omega (arith, check_debt s.owes (is_the s.owes card && eqb (found c s (CheckCard card)) 1))
debt-paid c i s (StoreField v k w) t = omega (arith, bit-below (is_some (seat_after c.shape s (StoreField v k w) (found c s (StoreField v k w))).owes))
debt-paid c i s (ExchangeField v k x y) t = omega (arith, bit-below (is_some (seat_after c.shape s (ExchangeField v k x y) (found c s (ExchangeField v k x y))).owes))
debt-paid c i s step t = omega arith

abbrev FreshSpilled : Core → SeatState → Step → Type 0
FreshSpilled c s step = bit (spills_fresh c s step) + bit (pushes_fresh c s step) + bit (has_fresh (seat_after c.shape s step (found c s step))) ≤ bit (has_fresh s) + bit (marks_anew c s step)

spilled : (o : Option ℕ) (card : ℕ) → bit (is_on card o) + bit (is_some (fresh_off o card)) ≤ bit (is_some o)
spilled None card = omega arith
spilled (Some y) card = paid_by y (eqb (card_of y) card)

-- a cell that was just marked is pushed, or dirties its card
pub fresh-spilled : (c : Core) (i : ℕ) (s : SeatState) (step : Step) → Taken c i s step → FreshSpilled c s step
fresh-spilled c i s (DirtyCard card) t = omega (arith, spilled s.fresh card)
fresh-spilled c i s step t = omega (arith, fresh-paid c i s step t)

abbrev DeferredSpilled : Core → SeatState → Step → Type 0
DeferredSpilled c s step = bit (spills_deferred c s step) + bit (puts_back c s step) + bit (has_deferred (seat_after c.shape s step (found c s step))) ≤ bit (has_deferred s) + bit (defers c s step)

put_off : (x : ℕ × Bool) (known here : Bool) → x.1 ≡ known → bit (known && here) + bit (is_deferred (cond (known && here) None (Some x))) ≤ bit known
put_off x true true e = omega arith
put_off x true false e = omega (arith, bit-below x.1)
put_off x false here e = rw e (omega arith)

spilled_popped : (o : Option (ℕ × Bool)) (card : ℕ) → bit (is_deferred_on card o) + bit (is_deferred (popped_off o card)) ≤ bit (is_deferred o)
spilled_popped None card = omega arith
spilled_popped (Some x) card = put_off x x.1 (eqb (card_of x.0) card) refl

-- a cell that was found unpublished is put back, or dirties its card
pub deferred-spilled : (c : Core) (i : ℕ) (s : SeatState) (step : Step) → Taken c i s step → DeferredSpilled c s step
deferred-spilled c i s (DirtyCard card) t = omega (arith, spilled_popped s.popped card)
deferred-spilled c i s step t = omega (arith, deferred-paid c i s step t)

abbrev AgainPaid : Core → SeatState → Step → Type 0
AgainPaid c s step = bit (dirties_again c s step) + bit (has_again (seat_after c.shape s step (found c s step))) ≤ bit (has_again s) + bit (finds_unpublished c s step)

either : (a b : Bool) → bit (a || b) ≤ bit a + bit b
either true b = omega arith
either false b = omega arith

seen_again : (x : Cleaning) (word : ℕ) (e : Bool) → bit (owes_again (Some (cond e (seen_in x word) x))) ≤ bit x.redirty + bit (e && not (eqb (bit_and x.left (complement word)) 0))
seen_again x word true = either x.redirty (not (eqb (bit_and x.left (complement word)) 0))
seen_again x word false = omega arith

-- two tests before a third
grouped : (a b d : Bool) → (a && b && d) ≡ ((a && b) && d)
grouped true b d = refl
grouped false b d = refl

read_again : (o : Option Cleaning) (b word : ℕ) → bit (owes_again (cleaning_after o b word)) ≤ bit (owes_again o) + bit (lacks_bits o b word)
read_again None b word = omega arith
read_again (Some x) b word = rw (grouped x.known (eqb (block_of_card x.card) b) (not (eqb (bit_and x.left (complement word)) 0))) (seen_again x word (x.known && eqb (block_of_card x.card) b))

kept_again : (x y : Cleaning) (e : Bool) → y.redirty ≡ x.redirty → bit (owes_again (Some (cond e y x))) ≤ bit x.redirty
kept_again x y true h = rw h (omega arith)
kept_again x y false h = omega arith

field_again : (o : Option Cleaning) (x : ℕ) → bit (owes_again (without_cell o x)) ≤ bit (owes_again o)
field_again None x = omega arith
field_again (Some y) x = kept_again y (record y { left = without_bit y.left (x % 64); published = without_bit y.published (x % 64) }) (eqb (block_of_card y.card) (x / 64)) refl

marks_again : (o : Option Cleaning) (b word : ℕ) → bit (owes_again (known_in o b word)) ≤ bit (owes_again o)
marks_again None b word = omega arith
marks_again (Some y) b word = kept_again y (record y { known = true; left = bit_and word (card_bits y.card); published = 0 }) (not y.known && eqb (block_of_card y.card) b) refl

clear_again : (o : Option Cleaning) (x : Cleaning) (e : Bool) → x.redirty ≡ false → bit (owes_again (cond e (Some x) o)) ≤ bit (owes_again o)
clear_again o x true h = rw h (omega arith)
clear_again o x false h = omega arith

dirtied_by : (x : Cleaning) (here : Bool) → bit (here && x.redirty) + bit (owes_again (Some (cond here (record x { redirty = false }) x))) ≤ bit x.redirty
dirtied_by x true = omega arith
dirtied_by x false = omega arith

dirtied : (o : Option Cleaning) (card : ℕ) → bit (owes_again_on card o) + bit (owes_again (redirty_off o card)) ≤ bit (owes_again o)
dirtied None card = omega arith
dirtied (Some x) card = dirtied_by x (eqb x.card card)

-- what a step does to a card that is to be dirtied again
pub again-paid : (c : Core) (i : ℕ) (s : SeatState) (step : Step) → Taken c i s step → AgainPaid c s step
again-paid c i s (ReadAlloc b) t =
    let here : found c s (ReadAlloc b) ≡ get_or (words_of c.shape c.words).allocs b 0 = words-get (region_sizes c.shape) 4 c.words b 0 (in-place c i s (ReadAlloc b) t) in
    rw here (omega (arith, read_again s.cleaning b (get_or (words_of c.shape c.words).allocs b 0)))
again-paid c i s (ReadField x k) t = omega (arith, field_again s.cleaning x)
again-paid c i s (ReadMarks b) t = omega (arith, marks_again s.cleaning b (found c s (ReadMarks b)))
again-paid c i s (ClearCard card) t = omega (arith, clear_again s.cleaning (record { card = card; known = false; left = 0; published = 0; redirty = false }) (eqb (found c s (ClearCard card)) 1) refl)
again-paid c i s (DirtyCard card) t = omega (arith, dirtied s.cleaning card)
again-paid c i s step t = omega arith
