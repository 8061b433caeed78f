-- The cells and cards in a seat's hand exist after each step that is allowed.
use Rattle.std.proofs.Common.{ℕ, ◌≡◌, ◌/◌, ◌%◌, ◌<◌, ◌≤◌, List, arith, refl, Bool, true, false, not, ◌&&◌, Option, Some, None, cond, eqb, ◌^◌}
use Rattle.std.specs.Prelude.{IfSome, nat_lt, bit_and, bit_or}
use Rattle.std.proofs.lemmas.Bool.{and_parts, ltb-true, not-true}
use Rattle.mark_core.specs.Shapes.{IsShape}
use Rattle.mark_core.specs.Layout.{Words, card_count}
use Rattle.mark_core.specs.Bits.{has_bit, cell_of, with_bit, without_bit, complement}
use Rattle.mark_core.specs.Seats.{is_the, used_in}
use Rattle.mark_core.specs.Steps.ColourSteps.{may_read_field, popped_after, scan_after, seen_in, cleaning_after, without_cell, fresh_off, popped_off, redirty_off, known_in}
use Rattle.mark_core.specs.Steps.MutatorSteps.{seat_variable, variable_or_nil}
use Rattle.mark_core.specs.Parts.{parts}
use Rattle.mark_core.specs.Effects.{seat_after}
use Rattle.mark_core.specs.Steps.{AllTrue}
use Rattle.mark_core.specs.WellFormed.{IsCleaning}
use Rattle.mark_core.proofs.Writing.SeatBoundsKept.{choose}
use Rattle.mark_core.proofs.Basics.{positive}
use Rattle.mark_core.specs.declared.kinds.Shape.{Shape}
use Rattle.mark_core.specs.declared.kinds.Step.{Step}
use Rattle.mark_core.specs.declared.kinds.Step.TheVariants.{Push, Pop, ReadAlloc, ReadField, ReadRoot, SetMark, DirtyCard, ClearCard, ReadMarks, StoreField, ExchangeField, LoadSlot, CheckCard}
use Rattle.mark_core.specs.declared.seat.SeatState.{SeatState}
use Rattle.mark_core.specs.declared.seat.Cleaning.{Cleaning}
use Rattle.mark_core.specs.Cards.{block_of_card, card_bits, card_of}
use Rattle.mark_core.proofs.Hands.HandsCleaning.{card-bits_fit}
use Rattle.std.proofs.Math.Pow.{pow-lt}
use Rattle.std.proofs.lemmas.Nat.{and_le_l, and_le_r, or_lt}

-- Sets of the cells of a block stay words of sixty-four bits.
pub and-left_fits : (a b : ℕ) → a < 18446744073709551616 → bit_and a b < 18446744073709551616
and-left_fits a b h = omega (arith, and_le_l a b, h)

pub and-right_fits : (a b : ℕ) → b < 18446744073709551616 → bit_and a b < 18446744073709551616
and-right_fits a b h = omega (arith, and_le_r a b, h)

pub or-fits : (a b : ℕ) → a < 18446744073709551616 → b < 18446744073709551616 → bit_or a b < 18446744073709551616
or-fits a b h g = or_lt 64 a b h g

pub with-fits : (a k : ℕ) → k < 64 → a < 18446744073709551616 → with_bit a k < 18446744073709551616
with-fits a k h g = let p : 2 ^ k < 2 ^ 64 = pow-lt h in or_lt 64 a (2 ^ k) g p

pub without-fits : (a k : ℕ) → a < 18446744073709551616 → without_bit a k < 18446744073709551616
without-fits a k h = and-left_fits a (complement (2 ^ k)) h

pub complement-fits : (a : ℕ) → complement a < 18446744073709551616
complement-fits a = omega arith

-- what a step learns of a cell from the word that it finds
abbrev pub Learns : Shape → Step → ℕ → Type 0
Learns sh (Pop p) old = (0 < old) × (old ≤ sh.cells)
Learns sh (ReadField c i) old = old ≤ sh.cells
Learns sh (ReadRoot section v) old = old ≤ sh.cells
Learns sh (LoadSlot section k) old = old ≤ sh.cells
Learns sh step old = Unit {0}

abbrev Popped : Shape → Option (ℕ × Bool) → Type 0
Popped sh o = IfSome o (λ x. x.0 < sh.cells)

abbrev Scanned : Shape → Option (ℕ × ℕ) → Type 0
Scanned sh o = IfSome o (λ x. (x.0 < sh.cells) × (x.1 ≤ sh.fields))

abbrev Known : Shape → Option ℕ → Type 0
Known sh o = IfSome o (λ c. c < sh.cells)

cell_fits : (sh : Shape) (word : ℕ) → IsShape sh → 0 < word → word ≤ sh.cells → cell_of word < sh.cells
cell_fits sh word k p h = omega (arith, k.cells, p, h)

named_fits : (sh : Shape) (word : ℕ) (b : Bool) → IsShape sh → (b ≡ false → 0 < word) → word ≤ sh.cells → Known sh (cond b None (Some (cell_of word)))
named_fits sh word true k p h = tt
named_fits sh word false k p h = cell_fits sh word k (p refl) h

popped_read : (sh : Shape) (o : Option (ℕ × Bool)) (b word : ℕ) → Popped sh o → Popped sh (popped_after o b word)
popped_read sh None b word h = tt
popped_read sh (Some x) b word h = choose (Popped sh) (eqb (x.0 / 64) b) _ (Some x) (choose (Popped sh) (has_bit word (x.0 % 64)) None (Some (x.0, true)) tt h) h

popped_dirty : (sh : Shape) (o : Option (ℕ × Bool)) (card : ℕ) → Popped sh o → Popped sh (popped_off o card)
popped_dirty sh None card h = tt
popped_dirty sh (Some x) card h = choose (Popped sh) (x.1 && eqb (card_of x.0) card) None (Some x) tt h

pub popped-after : (sh : Shape) (s : SeatState) (step : Step) (old : ℕ) → IsShape sh → Popped sh s.popped → Learns sh step old → Popped sh (seat_after sh s step old).popped
popped-after sh s (Push p c) old k h l = choose (Popped sh) (is_the s.fresh c) s.popped None h tt
popped-after sh s (Pop p) old k h l = cell_fits sh old k l.0 l.1
popped-after sh s (ReadAlloc b) old k h l = popped_read sh s.popped b old h
popped-after sh s (DirtyCard card) old k h l = popped_dirty sh s.popped card h
popped-after sh s step old k h l = h

scan_read : (sh : Shape) (o : Option (ℕ × Bool)) (scan : Option (ℕ × ℕ)) (b word : ℕ) → Popped sh o → Scanned sh scan → Scanned sh (scan_after o scan b word)
scan_read sh None scan b word p h = h
scan_read sh (Some x) scan b word p h = choose (Scanned sh) (eqb (x.0 / 64) b && has_bit word (x.0 % 64)) (Some (x.0, 0)) scan (p, omega arith) h

pub scan-after : (sh : Shape) (w : Words) (seats : List SeatState) (s : SeatState) (step : Step) (old : ℕ) → Popped sh s.popped → Scanned sh s.scan → AllTrue (parts sh w seats s step) → Scanned sh (seat_after sh s step old).scan
scan-after sh w seats s (ReadAlloc b) old p h ok = scan_read sh s.popped s.scan b old p h
scan-after sh w seats s (ReadField c i) old p h ok =
    let range = and_parts (nat_lt c sh.cells) (nat_lt i sh.fields) (and_parts (nat_lt c sh.cells && nat_lt i sh.fields) (may_read_field sh s c i) ok.0).0 in
    (ltb-true c sh.cells range.0, omega (arith, ltb-true i sh.fields range.1))
scan-after sh w seats s step old p h ok = h

pub value-after : (sh : Shape) (s : SeatState) (step : Step) (old : ℕ) → IsShape sh → Known sh s.value → Learns sh step old → Known sh (seat_after sh s step old).value
value-after sh s (ReadField c i) old k h l = named_fits sh old (eqb old 0) k (λ e. positive old e) l
value-after sh s (ReadRoot section v) old k h l = named_fits sh old (eqb old 0) k (λ e. positive old e) l
value-after sh s (LoadSlot section j) old k h l = named_fits sh old (eqb old 0) k (λ e. positive old e) l
value-after sh s (SetMark c) old k h l = tt
value-after sh s step old k h l = h

fresh_dirty : (sh : Shape) (o : Option ℕ) (card : ℕ) → Known sh o → Known sh (fresh_off o card)
fresh_dirty sh None card h = tt
fresh_dirty sh (Some c) card h = choose (Known sh) (eqb (card_of c) card) None (Some c) tt h

pub fresh-after : (sh : Shape) (w : Words) (seats : List SeatState) (s : SeatState) (step : Step) (old : ℕ) → Known sh s.fresh → AllTrue (parts sh w seats s step) → Known sh (seat_after sh s step old).fresh
fresh-after sh w seats s (Push p c) old h ok = choose (Known sh) (is_the s.fresh c) None s.fresh tt h
fresh-after sh w seats s (SetMark c) old h ok = choose (Known sh) (has_bit old (c % 64)) s.fresh (Some c) h (ltb-true c sh.cells (and_parts _ _ ok.0).0)
fresh-after sh w seats s (DirtyCard card) old h ok = fresh_dirty sh s.fresh card h
fresh-after sh w seats s step old h ok = h

abbrev Owed : Shape → Option ℕ → Type 0
Owed sh o = IfSome o (λ card. card < card_count sh)

card_fits : (sh : Shape) (word : ℕ) → IsShape sh → word ≤ sh.cells → (eqb word 0 ≡ false) → card_of (cell_of word) < card_count sh
card_fits sh word k h e = omega (arith, k.cells, k.whole_blocks, h, positive word e)

pub owes-after : (sh : Shape) (w : Words) (seats : List SeatState) (s : SeatState) (step : Step) (old : ℕ) → IsShape sh → ((v : ℕ) → seat_variable s v ≤ sh.cells) → Owed sh s.owes → AllTrue (parts sh w seats s step) → Owed sh (seat_after sh s step old).owes
owes-after sh w seats s (DirtyCard card) old k n h ok = choose (Owed sh) (is_the s.owes card) None s.owes tt h
owes-after sh w seats s (CheckCard card) old k n h ok = choose (Owed sh) (is_the s.owes card && eqb old 1) None s.owes tt h
owes-after sh w seats s (StoreField v i x) old k n h ok =
    choose (Owed sh) (used_in s.cache (cell_of (seat_variable s v))) s.owes (Some (card_of (cell_of (seat_variable s v)))) h (card_fits sh (seat_variable s v) k (n v) (not-true _ (and_parts _ _ ok.1.0).0))
owes-after sh w seats s (ExchangeField v i x y) old k n h ok =
    let card : ℕ = card_of (cell_of (seat_variable s v)) in
    let used : Bool = used_in s.cache (cell_of (seat_variable s v)) in
    choose (Owed sh) (eqb old (variable_or_nil s x)) (cond used s.owes (Some card)) s.owes (choose (Owed sh) used s.owes (Some card) h (card_fits sh (seat_variable s v) k (n v) (not-true _ (and_parts _ _ ok.1.0).0))) h
owes-after sh w seats s step old k n h ok = h

abbrev Cleaned : Shape → Option Cleaning → Type 0
Cleaned sh o = IfSome o (IsCleaning sh)

cleaning_read : (sh : Shape) (o : Option Cleaning) (b word : ℕ) → Cleaned sh o → Cleaned sh (cleaning_after o b word)
cleaning_read sh None b word h = tt
cleaning_read sh (Some x) b word h =
    let less : bit_and x.left word < 18446744073709551616 = and-left_fits x.left word h.words.0 in
    choose (IsCleaning sh) (x.known && eqb (block_of_card x.card) b) (seen_in x word) x (record { card = h.card; words = (less, less) }) h

cleaning_scanned : (sh : Shape) (o : Option Cleaning) (c : ℕ) → Cleaned sh o → Cleaned sh (without_cell o c)
cleaning_scanned sh None c h = tt
cleaning_scanned sh (Some x) c h =
    choose (IsCleaning sh) (eqb (block_of_card x.card) (c / 64)) _ x (record { card = h.card; words = (without-fits x.left (c % 64) h.words.0, without-fits x.published (c % 64) h.words.1) }) h

cleaning_dirty : (sh : Shape) (o : Option Cleaning) (card : ℕ) → Cleaned sh o → Cleaned sh (redirty_off o card)
cleaning_dirty sh None card h = tt
cleaning_dirty sh (Some x) card h = choose (IsCleaning sh) (eqb x.card card) _ x (record { card = h.card; words = h.words }) h

cleaning_known : (sh : Shape) (o : Option Cleaning) (b word : ℕ) → Cleaned sh o → Cleaned sh (known_in o b word)
cleaning_known sh None b word h = tt
cleaning_known sh (Some x) b word h =
    choose (IsCleaning sh) (not x.known && eqb (block_of_card x.card) b) _ x (record { card = h.card; words = (and-right_fits word (card_bits x.card) (card-bits_fit x.card), omega arith) }) h

pub cleaning-after : (sh : Shape) (w : Words) (seats : List SeatState) (s : SeatState) (step : Step) (old : ℕ) → Cleaned sh s.cleaning → AllTrue (parts sh w seats s step) → Cleaned sh (seat_after sh s step old).cleaning
cleaning-after sh w seats s (ReadAlloc b) old h ok = cleaning_read sh s.cleaning b old h
cleaning-after sh w seats s (ReadField c i) old h ok = cleaning_scanned sh s.cleaning c h
cleaning-after sh w seats s (DirtyCard card) old h ok = cleaning_dirty sh s.cleaning card h
cleaning-after sh w seats s (ClearCard card) old h ok =
    choose (Cleaned sh) (eqb old 1) _ s.cleaning (record { card = ltb-true card (card_count sh) (and_parts _ _ (and_parts _ _ ok.0).0).0; words = (omega arith, omega arith) }) h
cleaning-after sh w seats s (ReadMarks b) old h ok = cleaning_known sh s.cleaning b old h
cleaning-after sh w seats s step old h ok = h
