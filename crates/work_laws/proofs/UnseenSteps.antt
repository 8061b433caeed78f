-- What one step does to a card that is cleaned in Marking, and of whose cells it isn't known yet which are published.
use Rattle.std.proofs.Common.{ℕ, ◌≡◌, ◌+◌, ◌/◌, ◌%◌, ◌^◌, ◌≤◌, ◌⊎◌, inl, inr, get_or, arith, refl, sym, ap, ◌∙◌, Bool, true, false, not, ◌&&◌, ◌||◌, cond, eqb, Option, Some, None, ⊎_elim}
use Rattle.std.specs.Prelude.{IsTrue, bit_and}
use Rattle.std.specs.List.{All}
use Rattle.std.specs.Int.Bits.{and_le_l}
use Rattle.std.proofs.lemmas.Bool.{and_from, and_parts, eq-eqb, eqb-true, false≢true, not-false, or_parts, true≢false}
use Rattle.mark_core.specs.Layout.{Words, words_of, region_sizes}
use Rattle.mark_core.specs.Bits.{cell_bit, complement, has_bit, without_bit}
use Rattle.mark_core.specs.Cards.{block_of_card, card_bits}
use Rattle.mark_core.specs.Seats.{cleaning_left, left_in, may_scan}
use Rattle.mark_core.specs.Views.{Grasp, grasp_of}
use Rattle.mark_core.specs.Rules.WorldRules.{is_tracing}
use Rattle.mark_core.specs.Effects.{seat_after}
use Rattle.mark_core.specs.Laws.{IsCore}
use Rattle.mark_core.specs.Steps.{Core}
use Rattle.mark_core.specs.Steps.ColourSteps.{cleaning_after, known_in, redirty_off, seen_in, without_cell}
use Rattle.mark_core.specs.declared.kinds.Step.{Step}
use Rattle.mark_core.specs.declared.kinds.Step.TheVariants.{ClearCard, DirtyCard, ReadAlloc, ReadField, ReadMarks}
use Rattle.mark_core.specs.declared.seat.Cleaning.{Cleaning}
use Rattle.mark_core.specs.declared.seat.SeatState.{SeatState}
use Rattle.mark_core.proofs.Known.{found}
use Rattle.mark_core.proofs.HeldBlock.{of-view}
use Rattle.mark_core.proofs.Count.CountMoves.{bit, bit-below}
use Rattle.mark_core.proofs.Marks.MarksIdle.{at-seat, idle-cleaning, idle-seats}
use Rattle.mark_core.proofs.Writing.CellBits.{no-bit}
use Rattle.mark_core.proofs.Writing.Places.{words-get}
use Rattle.mark_core.proofs.Blocks.BlocksStopped.{Taken, in-place}
use Rattle.work_laws.specs.Scanning.{cleans}
use Rattle.work_laws.specs.DrainedCards.{lacks_bits}
use Rattle.work_laws.specs.Dirtying.{finds_unpublished, has_unseen, is_unseen}
use Rattle.work_laws.proofs.DrainedCards.{alloc-fits, in-drain, left-fits, none-left}

-- neither
and_none : (b : Bool) → (b && false) ≡ false
and_none true = refl
and_none false = refl

-- the card's cells are known and none is left, or those that are left were seen published
quiet_parts : (x : Cleaning) → is_unseen (Some x) ≡ false → (not x.known ≡ false) × ((x.left ≡ 0) ⊎ (x.left ≡ x.published))
quiet_parts x e =
    let two = or_parts (not x.known) (not (eqb x.left 0) && not (eqb x.left x.published)) e in
    (two.0, which (eqb x.left 0) (eqb x.left x.published) refl refl two.1)
  where
    which : (a b : Bool) → eqb x.left 0 ≡ a → eqb x.left x.published ≡ b → (not a && not b) ≡ false → (x.left ≡ 0) ⊎ (x.left ≡ x.published)
    which true b p q n = inl (eqb-true x.left 0 p)
    which false true p q n = inr (eqb-true x.left x.published q)
    which false false p q n = absurd (true≢false n)

quiet_from : (x : Cleaning) → not x.known ≡ false → (x.left ≡ 0) ⊎ (x.left ≡ x.published) → is_unseen (Some x) ≡ false
quiet_from x k (inl z) = rw (k, z) refl
quiet_from x k (inr z) = rw (k, eq-eqb x.left x.published z) (and_none (not (eqb x.left 0)))

-- so each of those may be scanned
all_seen : (o : Option Cleaning) (y : ℕ) → is_unseen o ≡ false → left_in o y ≡ true → may_scan o y ≡ true
all_seen None y e l = absurd (false≢true l)
all_seen (Some x) y e l =
    let b : ℕ = block_of_card x.card in
    let here = and_parts (eqb b (y / 64)) (has_bit x.left (y % 64)) l in
    ⊎_elim
    (λ (z : x.left ≡ 0). absurd (true≢false (sym here.1 ∙ (ap (λ w. has_bit w (y % 64)) z ∙ no-bit (y % 64)))))
    (λ (z : x.left ≡ x.published).
    and_from (eqb b (y / 64) && has_bit x.left (y % 64)) (eqb b (y / 64) && has_bit x.published (y % 64)) l
    (and_from (eqb b (y / 64)) (has_bit x.published (y % 64)) here.0 (ap (λ w. has_bit w (y % 64)) (sym z) ∙ here.1)))
    (quiet_parts x e).1

-- and none of them is found unpublished
unlacked : (c : Core) (i : ℕ) (s : SeatState) (b : ℕ) → Taken c i s (ReadAlloc b) → is_unseen s.cleaning ≡ false → lacks_bits s.cleaning b (get_or (words_of c.shape c.words).allocs b 0) ≡ false
unlacked c i s b t e =
    let w : Words = words_of c.shape c.words in
    none-left w.allocs s.cleaning b (get_or w.allocs b 0) (left-fits c.shape s.cleaning (t.core.formed.seats i s t.got).cleaning) (alloc-fits c i s b t) refl
    (λ x l. of-view grasp_of (λ (g : Grasp). IsTrue (may_scan g.cleaning x) → IsTrue (cell_bit w.allocs x)) c i s (ReadAlloc b) t (t.core.sound.marks.left_published x) (all_seen s.cleaning x e l))

abbrev UnseenPaid : Core → SeatState → Step → Type 0
UnseenPaid c s step = bit (finds_unpublished c s step) + bit (has_unseen (seat_after c.shape s step (found c s step))) ≤ bit (has_unseen s) + bit (cleans c s step)

-- what is found unpublished was unseen
found_by : (unseen lacks : Bool) → (unseen ≡ false → lacks ≡ false) → bit lacks ≤ bit unseen
found_by true lacks h = bit-below lacks
found_by false lacks h = omega (arith, ap bit (h refl))

seen_by : (x : Cleaning) (word : ℕ) (known here : Bool) → x.known ≡ known → (is_unseen (Some x) ≡ false → (known && here && not (eqb (bit_and x.left (complement word)) 0)) ≡ false)
    → bit (known && here && not (eqb (bit_and x.left (complement word)) 0)) + bit (is_unseen (Some (cond (known && here) (seen_in x word) x))) ≤ bit (is_unseen (Some x))
seen_by x word true true e h =
    let over : is_unseen (Some (seen_in x word)) ≡ false = quiet_from (seen_in x word) (ap not e) (inr refl) in
    omega (arith, ap bit over, found_by (is_unseen (Some x)) (not (eqb (bit_and x.left (complement word)) 0)) h)
seen_by x word true false e h = omega arith
seen_by x word false here e h = omega arith

read_unseen : (o : Option Cleaning) (b word : ℕ) → (is_unseen o ≡ false → lacks_bits o b word ≡ false) → bit (lacks_bits o b word) + bit (is_unseen (cleaning_after o b word)) ≤ bit (is_unseen o)
read_unseen None b word h = omega arith
read_unseen (Some x) b word h = seen_by x word x.known (eqb (block_of_card x.card) b) refl h

-- a cell leaves the list
fewer_unseen : (x y : Cleaning) → (is_unseen (Some x) ≡ false → is_unseen (Some y) ≡ false) → bit (is_unseen (Some y)) ≤ bit (is_unseen (Some x))
fewer_unseen x y h = found_by (is_unseen (Some x)) (is_unseen (Some y)) h

less_seen : (x : Cleaning) (k : ℕ) → is_unseen (Some x) ≡ false → is_unseen (Some (record x { left = without_bit x.left k; published = without_bit x.published k })) ≡ false
less_seen x k e =
    let two = quiet_parts x e in
    quiet_from (record x { left = without_bit x.left k; published = without_bit x.published k }) two.0
    (⊎_elim
    (λ (z : x.left ≡ 0). inl (omega (arith, z, and_le_l x.left (complement (2 ^ k)))))
    (λ (z : x.left ≡ x.published). inr (ap (λ w. without_bit w k) z))
    two.1)

field_unseen_by : (x y : Cleaning) (e : Bool) → (is_unseen (Some x) ≡ false → is_unseen (Some y) ≡ false) → bit (is_unseen (Some (cond e y x))) ≤ bit (is_unseen (Some x))
field_unseen_by x y true h = fewer_unseen x y h
field_unseen_by x y false h = omega arith

field_unseen : (o : Option Cleaning) (c : ℕ) → bit (is_unseen (without_cell o c)) ≤ bit (is_unseen o)
field_unseen None c = omega arith
field_unseen (Some x) c = field_unseen_by x (record x { left = without_bit x.left (c % 64); published = without_bit x.published (c % 64) }) (eqb (block_of_card x.card) (c / 64)) (less_seen x (c % 64))

dirty_unseen : (o : Option Cleaning) (card : ℕ) → bit (is_unseen (redirty_off o card)) ≤ bit (is_unseen o)
dirty_unseen None card = omega arith
dirty_unseen (Some x) card = field_unseen_by x (record x { redirty = false }) (eqb x.card card) (λ e. e)

clear_unseen : (o : Option Cleaning) (x : Cleaning) (e : Bool) → bit (is_unseen (cond e (Some x) o)) ≤ bit (is_unseen o) + bit e
clear_unseen o x true = omega (arith, bit-below (is_unseen (Some x)))
clear_unseen o x false = omega arith

marks_by : (x y : Cleaning) (e : Bool) → (e ≡ true → is_unseen (Some x) ≡ true) → bit (is_unseen (Some (cond e y x))) ≤ bit (is_unseen (Some x))
marks_by x y true h = omega (arith, bit-below (is_unseen (Some y)), ap bit (h refl))
marks_by x y false h = omega arith

marks_unseen : (o : Option Cleaning) (b word : ℕ) → bit (is_unseen (known_in o b word)) ≤ bit (is_unseen o)
marks_unseen None b word = omega arith
marks_unseen (Some x) b word =
    marks_by x (record x { known = true; left = bit_and word (card_bits x.card); published = 0 }) (not x.known && eqb (block_of_card x.card) b)
    (λ e. ap (λ z. z || (not (eqb x.left 0) && not (eqb x.left x.published))) (and_parts (not x.known) (eqb (block_of_card x.card) b) e).0)

-- what a step does to the card that its seat cleans
pub unseen-paid : (c : Core) (i : ℕ) (s : SeatState) (step : Step) → Taken c i s step → UnseenPaid c s step
unseen-paid c i s (ReadAlloc b) t =
    let here : found c s (ReadAlloc b) ≡ get_or (words_of c.shape c.words).allocs b 0 = words-get (region_sizes c.shape) 4 c.words b 0 (in-place c i s (ReadAlloc b) t) in
    rw here (omega (arith, read_unseen s.cleaning b (get_or (words_of c.shape c.words).allocs b 0) (unlacked c i s b t)))
unseen-paid c i s (ReadField x k) t = omega (arith, field_unseen s.cleaning x)
unseen-paid c i s (ReadMarks b) t = omega (arith, marks_unseen s.cleaning b (found c s (ReadMarks b)))
unseen-paid c i s (DirtyCard card) t = omega (arith, dirty_unseen s.cleaning card)
unseen-paid c i s (ClearCard card) t =
    let here : found c s (ClearCard card) ≡ get_or (words_of c.shape c.words).cards card 0 = words-get (region_sizes c.shape) 6 c.words card 0 (in-place c i s (ClearCard card) t) in
    rw here (omega (arith, clear_unseen s.cleaning (record { card = card; known = false; left = 0; published = 0; redirty = false }) (eqb (get_or (words_of c.shape c.words).cards card 0) 1)))
unseen-paid c i s step t = omega arith

-- a seat without work in hand cleans no card
idle_seen : (o : Option Cleaning) → cleaning_left o ≡ false → is_unseen o ≡ false
idle_seen None e = refl
idle_seen (Some x) e =
    let two = or_parts (not x.known || not (eqb x.left 0)) x.redirty e in
    let one = or_parts (not x.known) (not (eqb x.left 0)) two.0 in
    quiet_from x one.0 (inl (eqb-true x.left 0 (not-false (eqb x.left 0) one.1)))

pub idle-seen : (c : Core) → IsCore c → is_tracing (words_of c.shape c.words).phase ≡ false → All (λ (s : SeatState). has_unseen s ≡ false) c.seats
idle-seen c k e j d h = let s : SeatState = get_or c.seats j d in idle_seen s.cleaning (idle-cleaning c.shape.fields s (idle-seats c k e j d h))

-- outside Marking nothing is found unpublished
outside_marking : (c : Core) (i : ℕ) (s : SeatState) (b : ℕ) → Taken c i s (ReadAlloc b) → (drains : Bool) → eqb (words_of c.shape c.words).phase 2 ≡ drains → eqb (words_of c.shape c.words).phase 1 ≡ false → bit (lacks_bits s.cleaning b (get_or (words_of c.shape c.words).allocs b 0)) ≡ 0
outside_marking c i s b t true p q = in-drain c i s b t true p
outside_marking c i s b t false p q = ap bit (unlacked c i s b t (at-seat (λ (x : SeatState). has_unseen x ≡ false) c i s t.got (idle-seen c t.core (rw (q, p) refl))))

pub found-nowhere : (c : Core) (i : ℕ) (s : SeatState) (step : Step) → Taken c i s step → eqb (words_of c.shape c.words).phase 1 ≡ false → bit (finds_unpublished c s step) ≡ 0
found-nowhere c i s (ReadAlloc b) t e = outside_marking c i s b t (eqb (words_of c.shape c.words).phase 2) refl e
found-nowhere c i s step t e = refl
