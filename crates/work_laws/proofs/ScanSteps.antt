-- What one step does to the fields that its seat is still to read, and to the cell that it is to mark.
use Rattle.std.proofs.Common.{ℕ, ◌≡◌, ◌≢◌, ◌+◌, ◌-◌, ◌*◌, ◌/◌, ◌%◌, ◌^◌, ◌<◌, ◌≤◌, get_or, arith, refl, sym, ap, ◌∙◌, subst, Bool, true, false, not, ◌&&◌, ◌||◌, cond, eqb, Option, Some, None, ⊎_elim, suc, zero}
use Rattle.std.specs.Prelude.{is_some, nat_lt, IsTrue, IsFalse, IfSome, bit_and}
use Rattle.std.specs.List.{count_by, range_with_len}
use Rattle.std.proofs.lemmas.Bool.{and_parts, or_cases, ltb-true, eqb-true, ne_eqb, cases_eq, not-true, false≢true, true≢false}
use Rattle.std.proofs.Math.Nat.{mul-le-mul_left}
use Rattle.std.proofs.lemmas.List.Sums.{count_by-le-length}
use Rattle.std.proofs.lemmas.List.FromFn.{length-range_with_len}
use Rattle.mark_core.specs.Layout.{words_of, region_sizes}
use Rattle.mark_core.specs.Bits.{has_bit, without_bit, complement}
use Rattle.mark_core.specs.Cards.{card_of, block_of_card, card_bits}
use Rattle.mark_core.specs.Seats.{is_the, scans, scan_left, in_set, left_in, may_scan}
use Rattle.mark_core.specs.Strong.{IsStrongSeat}
use Rattle.mark_core.specs.Effects.{seat_after}
use Rattle.mark_core.specs.Steps.{Core}
use Rattle.mark_core.specs.Steps.ColourSteps.{popped_after, scan_after, cleaning_after, seen_in, without_cell, popped_off, redirty_off, known_in}
use Rattle.mark_core.specs.declared.kinds.Step.{Step}
use Rattle.mark_core.specs.declared.kinds.Step.TheVariants.{Push, Pop, ReadAlloc, ReadField, ReadRoot, LoadSlot, SetMark, DirtyCard, ClearCard, ReadMarks}
use Rattle.mark_core.specs.declared.seat.Cleaning.{Cleaning}
use Rattle.mark_core.specs.declared.seat.SeatState.{SeatState}
use Rattle.mark_core.proofs.Known.{found}
use Rattle.mark_core.proofs.Count.CountMoves.{bit, bit-below, count-cons, count-but-one}
use Rattle.mark_core.proofs.Writing.Places.{words-get}
use Rattle.mark_core.proofs.Writing.CellBits.{bit-first, no-bit, without_same, without_other, same-index}
use Rattle.mark_core.proofs.Blocks.BlocksStopped.{Taken, in-place, mine}
use Rattle.mark_core.proofs.Hands.HandsCleaning.{scan-left, in_set-less}
use Rattle.work_laws.specs.Queueing.{pops}
use Rattle.work_laws.specs.Scanning.{reads_field, reads_root, marks, cleans, left_of_scan, left_of_card, fields_left, has_value}

bit_less : (x y : Bool) → (y ≡ true → x ≡ true) → bit y ≤ bit x
bit_less x false h = omega arith
bit_less x true h = omega (arith, ap bit (h refl))

-- fewer cells of the card
count_fewer : (f g : ℕ → Bool) (a n : ℕ) → ((x : ℕ) → g x ≡ true → f x ≡ true) → count_by g (range_with_len a n) ≤ count_by f (range_with_len a n)
count_fewer f g a zero s = omega arith
count_fewer f g a (suc n) s =
    omega (arith, count-cons f a (range_with_len (a + 1) n), count-cons g a (range_with_len (a + 1) n), count_fewer f g (a + 1) n s, bit_less (f a) (g a) (s a))

few_by : (n : ℕ) (b : Bool) → n ≤ 16 → cond b n 16 ≤ 16
few_by n true h = h
few_by n false h = omega arith

-- a card has sixteen cells
few_left : (x : Cleaning) → left_of_card (Some x) ≤ 16
few_left x = few_by (count_by (left_in (Some x)) (range_with_len (16 * x.card) 16)) x.known (omega (arith, count_by-le-length (left_in (Some x)) (range_with_len (16 * x.card) 16), length-range_with_len (16 * x.card) 16))

less_by : (b : Bool) (m n : ℕ) → m ≤ n → cond b m 16 ≤ cond b n 16
less_by true m n l = l
less_by false m n l = omega arith

-- a cleaning of which no more is left
fewer_left : (x : Cleaning) (bits published : ℕ) (redirty : Bool) → ((c : ℕ) → has_bit bits (c % 64) ≡ true → has_bit x.left (c % 64) ≡ true) → left_of_card (Some (record x { left = bits; published = published; redirty = redirty })) ≤ left_of_card (Some x)
fewer_left x bits published redirty h =
    let b : ℕ = block_of_card x.card in
    let less : count_by (λ c. in_set b bits c) (range_with_len (16 * x.card) 16) ≤ count_by (λ c. in_set b x.left c) (range_with_len (16 * x.card) 16) =
    count_fewer (λ c. in_set b x.left c) (λ c. in_set b bits c) (16 * x.card) 16 (λ c f. in_set-less b bits x.left c (h c) f) in
    less_by x.known (count_by (λ c. in_set b bits c) (range_with_len (16 * x.card) 16)) (count_by (λ c. in_set b x.left c) (range_with_len (16 * x.card) 16)) less

-- the block's allocation word is read, in a cleaning
seen_left : (x : Cleaning) (b word : ℕ) (e : Bool) → left_of_card (Some (cond e (seen_in x word) x)) ≤ left_of_card (Some x)
seen_left x b word true = fewer_left x (bit_and x.left word) (bit_and x.left word) (x.redirty || not (eqb (bit_and x.left (complement word)) 0)) (λ c f. bit-first x.left word (c % 64) f)
seen_left x b word false = omega arith

read_alloc_left : (o : Option Cleaning) (b word : ℕ) → left_of_card (cleaning_after o b word) ≤ left_of_card o
read_alloc_left None b word = omega arith
read_alloc_left (Some x) b word = seen_left x b word (x.known && eqb (block_of_card x.card) b)

-- a popped cell comes into scan, stays, or is found unpublished
scanned_by : (f : ℕ) (x : ℕ × Bool) (scan : Option (ℕ × ℕ)) (here there : Bool)
    → left_of_scan f (cond (here && there) (Some (x.0, 0)) scan) + f * bit (is_some (cond here (cond there None (Some (x.0, true))) (Some x))) ≤ left_of_scan f scan + f * 1
scanned_by f x scan true true = omega arith
scanned_by f x scan true false = omega arith
scanned_by f x scan false there = omega arith

read_alloc_scan : (f : ℕ) (o : Option (ℕ × Bool)) (scan : Option (ℕ × ℕ)) (b word : ℕ) → left_of_scan f (scan_after o scan b word) + f * bit (is_some (popped_after o b word)) ≤ left_of_scan f scan + f * bit (is_some o)
read_alloc_scan f None scan b word = omega arith
read_alloc_scan f (Some x) scan b word = omega (arith, scanned_by f x scan (eqb (x.0 / 64) b) (has_bit word (x.0 % 64)))

-- a cell leaves the list
without_left : (x : Cleaning) (c : ℕ) (e : Bool) → left_of_card (Some (cond e (record x { left = without_bit x.left (c % 64); published = without_bit x.published (c % 64) }) x)) ≤ left_of_card (Some x)
without_left x c true = fewer_left x (without_bit x.left (c % 64)) (without_bit x.published (c % 64)) x.redirty (λ d f. bit-first x.left (complement (2 ^ (c % 64))) (d % 64) f)
without_left x c false = omega arith

read_left : (o : Option Cleaning) (c : ℕ) → left_of_card (without_cell o c) ≤ left_of_card o
read_left None c = omega arith
read_left (Some x) c = without_left x c (eqb (block_of_card x.card) (c / 64))

-- the bit of another cell of the block
other_left : (b left c d : ℕ) → d ≢ c → b ≡ c / 64 → in_set b (without_bit left (c % 64)) d ≡ in_set b left d
other_left b left c d n e =
    ⊎_elim
    (λ (h : b ≡ d / 64).
    let far : d % 64 ≢ c % 64 = λ z. n (same-index d c (sym h ∙ e) z) in
    ap (λ z. eqb b (d / 64) && z) (without_other left (c % 64) (d % 64) (omega arith) (omega arith) far))
    (λ (h : b ≡ d / 64 → ⊥). rw (ne_eqb b (d / 64) h) refl)
    (cases_eq b (d / 64))

-- a count of which one is gone
one_counted : (f g : ℕ → Bool) (p a n : ℕ) → a ≤ p → p < a + n → f p ≡ true → g p ≡ false → ((x : ℕ) → x ≢ p → g x ≡ f x) → 1 + count_by g (range_with_len a n) ≤ count_by f (range_with_len a n)
one_counted f g p a n l h e d s = omega (arith, count-but-one f g p a n l h (λ x k m r. s x r), ap bit e, ap bit d)

less_one : (b : Bool) (m n : ℕ) → b ≡ true → 1 + m ≤ n → 1 + cond b m 16 ≤ cond b n 16
less_one true m n e h = h
less_one false m n e h = absurd (false≢true e)

-- a cell that was left is one fewer
one_less : (x : Cleaning) (c : ℕ) → x.known ≡ true → card_of c ≡ x.card → left_in (Some x) c ≡ true
    → 1 + left_of_card (Some (record x { left = without_bit x.left (c % 64); published = without_bit x.published (c % 64) })) ≤ left_of_card (Some x)
one_less x c k at e =
    let b : ℕ = block_of_card x.card in
    let f : ℕ → Bool = λ d. in_set b x.left d in
    let g : ℕ → Bool = λ d. in_set b (without_bit x.left (c % 64)) d in
    let here = and_parts (eqb b (c / 64)) (has_bit x.left (c % 64)) e in
    let is : b ≡ c / 64 = eqb-true b (c / 64) here.0 in
    let gone : g c ≡ false = ap (λ z. eqb b (c / 64) && z) (without_same x.left (c % 64) (omega arith)) ∙ ap (λ z. z && false) here.0 in
    less_one x.known (count_by g (range_with_len (16 * x.card) 16)) (count_by f (range_with_len (16 * x.card) 16)) k
    (one_counted f g c (16 * x.card) 16 (omega (arith, at)) (omega (arith, at)) e gone (λ d n. other_left b x.left c d n is))

known_by : (b : Bool) → (b ≡ false → ⊥) → b ≡ true
known_by true n = refl
known_by false n = absurd (n refl)

-- the cell that the cleaning may scan is one of those left
scan_one : (o : Option Cleaning) (c : ℕ) → IfSome o (λ (x : Cleaning). (d : ℕ) → IsTrue (left_in (Some x) d) → card_of d ≡ x.card) → IfSome o (λ (x : Cleaning). IsFalse x.known → x.left ≡ 0) → may_scan o c ≡ true
    → 1 + left_of_card (without_cell o c) ≤ left_of_card o
scan_one None c at none e = absurd (false≢true e)
scan_one (Some x) c at none e =
    let here : left_in (Some x) c ≡ true = scan-left (Some x) c e in
    let block : eqb (block_of_card x.card) (c / 64) ≡ true = (and_parts (eqb (block_of_card x.card) (c / 64)) (has_bit x.left (c % 64)) here).0 in
    let known : x.known ≡ true = known_by x.known (λ f. let bits = (and_parts (eqb (block_of_card x.card) (c / 64)) (has_bit x.left (c % 64)) here).1 in true≢false (sym bits ∙ (ap (λ z. has_bit z (c % 64)) (none f) ∙ no-bit (c % 64)))) in
    subst (λ (z : Bool). 1 + left_of_card (Some (cond z (record x { left = without_bit x.left (c % 64); published = without_bit x.published (c % 64) }) x)) ≤ left_of_card (Some x)) (sym block)
    (one_less x c known (at c here) here)

-- the card's cells become known, sixteen at most
marks_left : (x : Cleaning) (y : Cleaning) (e : Bool) → (e ≡ true → left_of_card (Some x) ≡ 16) → left_of_card (Some (cond e y x)) ≤ left_of_card (Some x)
marks_left x y true h = omega (arith, h refl, few_left y)
marks_left x y false h = omega arith

unknown_left : (x : Cleaning) → x.known ≡ false → left_of_card (Some x) ≡ 16
unknown_left x e = ap (λ (z : Bool). cond z (count_by (left_in (Some x)) (range_with_len (16 * x.card) 16)) 16) e

read_marks_left : (o : Option Cleaning) (b word : ℕ) → left_of_card (known_in o b word) ≤ left_of_card o
read_marks_left None b word = omega arith
read_marks_left (Some x) b word = marks_left x (record x { known = true; left = bit_and word (card_bits x.card); published = 0 }) (not x.known && eqb (block_of_card x.card) b) (λ e. unknown_left x (not-true x.known (and_parts (not x.known) (eqb (block_of_card x.card) b) e).0))

redirty_by : (x y : Cleaning) (e : Bool) → left_of_card (Some y) ≡ left_of_card (Some x) → left_of_card (Some (cond e y x)) ≤ left_of_card (Some x)
redirty_by x y true h = omega (arith, h)
redirty_by x y false h = omega arith

dirty_left : (o : Option Cleaning) (card : ℕ) → left_of_card (redirty_off o card) ≤ left_of_card o
dirty_left None card = omega arith
dirty_left (Some x) card = redirty_by x (record x { redirty = false }) (eqb x.card card) refl

fewer_popped : (o : Option (ℕ × Bool)) (b : Bool) → bit (is_some (cond b None o)) ≤ bit (is_some o)
fewer_popped o true = omega arith
fewer_popped o false = omega arith

popped_dirty : (o : Option (ℕ × Bool)) (card : ℕ) → bit (is_some (popped_off o card)) ≤ bit (is_some o)
popped_dirty None card = omega arith
popped_dirty (Some x) card = fewer_popped (Some x) (x.1 && eqb (card_of x.0) card)

pushed : (o : Option (ℕ × Bool)) (fresh : Bool) → bit (is_some (cond fresh o None)) ≤ bit (is_some o)
pushed o true = omega arith
pushed o false = omega arith

clear_left : (f : ℕ) (o : Option Cleaning) (x : Cleaning) (e : Bool) → f * left_of_card (cond e (Some x) o) ≤ f * left_of_card o + 16 * f * bit e
clear_left f o x true = omega (arith, mul-le-mul_left f (few_left x))
clear_left f o x false = omega arith

-- a factor, and one less
product_less : (f m n : ℕ) → 1 + m ≤ n → f + f * m ≤ f * n
product_less f m n h = let all : f * (1 + m) ≤ f * n = mul-le-mul_left f h in grind (arith, all)

-- while the cells aren't known, none is left
none_known : (o : Option Cleaning) (f : ℕ) (s : SeatState) → IfSome o (λ (x : Cleaning). IsFalse x.known → IsFalse (is_some s.popped) × IsFalse (scan_left f s.scan) × (x.left ≡ 0)) → IfSome o (λ (x : Cleaning). IsFalse x.known → x.left ≡ 0)
none_known None f s h = tt
none_known (Some x) f s h = λ e. (h e).2

-- what is read is the next field of the cell in scan, or the first of a cell that is left
next_read : (fields : ℕ) (o : Option (ℕ × ℕ)) (x i : ℕ) → scans o x i ≡ true → i < fields → 1 + (fields - (i + 1)) ≤ left_of_scan fields o
next_read fields None x i e h = absurd (false≢true e)
next_read fields (Some z) x i e h = omega (arith, eqb-true z.1 i (and_parts (eqb z.0 x) (eqb z.1 i) e).1, h)

abbrev FieldsPaid : Core → SeatState → Step → Type 0
FieldsPaid c s step = bit (reads_field c s step) + fields_left c.shape.fields (seat_after c.shape s step (found c s step)) ≤ fields_left c.shape.fields s + (c.shape.fields * bit (pops c s step) + 16 * c.shape.fields * bit (cleans c s step))

read_field : (c : Core) (i : ℕ) (s : SeatState) (x k : ℕ) → Taken c i s (ReadField x k) → FieldsPaid c s (ReadField x k)
read_field c i s x k t =
    let f : ℕ = c.shape.fields in
    let strong : IsStrongSeat c.shape s = mine c i s (ReadField x k) (IsStrongSeat c.shape) t t.core.strong.seats_strong in
    let range = and_parts (nat_lt x c.shape.cells && nat_lt k f) _ t.ok.0 in
    let hk : k < f = ltb-true k f (and_parts (nat_lt x c.shape.cells) (nat_lt k f) range.0).1 in
    ⊎_elim
    (λ (a : scans s.scan x k ≡ true). omega (arith, next_read f s.scan x k a hk, mul-le-mul_left f (read_left s.cleaning x)))
    (λ a.
    let both = and_parts (eqb k 0) (may_scan s.cleaning x) (and_parts (eqb k 0 && may_scan s.cleaning x) (not (scan_left f s.scan)) a).0 in
    let first : k ≡ 0 = eqb-true k 0 both.0 in
    let less = scan_one s.cleaning x strong.left_of_the_card (none_known s.cleaning f s strong.unknown_alone) both.1 in
    omega (arith, first, hk, product_less f (left_of_card (without_cell s.cleaning x)) (left_of_card s.cleaning) less))
    (or_cases (scans s.scan x k) (eqb k 0 && may_scan s.cleaning x && not (scan_left f s.scan)) range.1)

clear_card : (c : Core) (i : ℕ) (s : SeatState) (card : ℕ) → Taken c i s (ClearCard card) → FieldsPaid c s (ClearCard card)
clear_card c i s card t =
    let here : found c s (ClearCard card) ≡ get_or (words_of c.shape c.words).cards card 0 = words-get (region_sizes c.shape) 6 c.words card 0 (in-place c i s (ClearCard card) t) in
    rw here (omega (arith, clear_left c.shape.fields s.cleaning (record { card = card; known = false; left = 0; published = 0; redirty = false }) (eqb (get_or (words_of c.shape c.words).cards card 0) 1)))

-- what a step does to the fields that its seat is to read
pub fields-paid : (c : Core) (i : ℕ) (s : SeatState) (step : Step) → Taken c i s step → FieldsPaid c s step
fields-paid c i s (ReadField x k) t = read_field c i s x k t
fields-paid c i s (ClearCard card) t = clear_card c i s card t
fields-paid c i s (ReadAlloc b) t =
    let f : ℕ = c.shape.fields in
    let word : ℕ = found c s (ReadAlloc b) in
    omega (arith, read_alloc_scan f s.popped s.scan b word, mul-le-mul_left f (read_alloc_left s.cleaning b word))
fields-paid c i s (ReadMarks b) t = omega (arith, mul-le-mul_left c.shape.fields (read_marks_left s.cleaning b (found c s (ReadMarks b))))
fields-paid c i s (Pop p) t = omega arith
fields-paid c i s (Push p x) t = omega (arith, mul-le-mul_left c.shape.fields (pushed s.popped (is_the s.fresh x)))
fields-paid c i s (DirtyCard card) t = omega (arith, mul-le-mul_left c.shape.fields (popped_dirty s.popped card), mul-le-mul_left c.shape.fields (dirty_left s.cleaning card))
fields-paid c i s step t = omega arith

abbrev ValuePaid : Core → SeatState → Step → Type 0
ValuePaid c s step = bit (marks c s step) + bit (has_value (seat_after c.shape s step (found c s step))) ≤ bit (has_value s) + (bit (reads_field c s step) + bit (reads_root c s step))

some_value : (o : Option ℕ) (x : ℕ) → is_the o x ≡ true → bit (is_some o) ≡ 1
some_value None x e = absurd (false≢true e)
some_value (Some y) x e = refl

-- what a step does to the cell that its seat is to mark
pub value-paid : (c : Core) (i : ℕ) (s : SeatState) (step : Step) → Taken c i s step → ValuePaid c s step
value-paid c i s (SetMark x) t = omega (arith, some_value s.value x (and_parts _ _ t.ok.0).1)
value-paid c i s (ReadField x k) t = omega (arith, bit-below (is_some (seat_after c.shape s (ReadField x k) (found c s (ReadField x k))).value))
value-paid c i s (ReadRoot section v) t = omega (arith, bit-below (is_some (seat_after c.shape s (ReadRoot section v) (found c s (ReadRoot section v))).value))
value-paid c i s (LoadSlot section k) t = omega (arith, bit-below (is_some (seat_after c.shape s (LoadSlot section k) (found c s (LoadSlot section k))).value))
value-paid c i s step t = omega arith
