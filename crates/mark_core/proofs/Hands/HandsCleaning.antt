-- Which cells are left in a cleaning, and which of them may be scanned, after a step of its seat.
use Rattle.std.proofs.Common.{ℕ, ◌≡◌, ◌/◌, ◌%◌, refl, sym, ◌∙◌, ◌⊎◌, inl, inr, Bool, true, false, not, cond, eqb, ◌&&◌, Option, Some, None, ◌||◌, ◌<◌, ◌≤◌, arith, ◌+◌, ◌-◌, ◌^◌, ap, min, ⊎_elim}
use Rattle.std.specs.Prelude.{IsTrue, IfSome, bit_and}
use Rattle.std.proofs.lemmas.Bool.{true≢false, false≢true, and_parts, and_from, eqb-true, or_parts, and_right, not-false, or_from, ltb-false, lt-leb, cases_lt, eq-eqb}
use Rattle.mark_core.specs.Bits.{has_bit}
use Rattle.mark_core.specs.Seats.{in_set, left_in, may_scan, cleaning_left, scan_left}
use Rattle.mark_core.specs.Steps.ColourSteps.{cleaning_after, seen_in, without_cell, redirty_off, known_in}
use Rattle.mark_core.specs.Rules.ColourRules.{cleans, is_unread_by}
use Rattle.mark_core.proofs.Writing.CellBits.{no-bit}
use Rattle.mark_core.specs.declared.seat.Cleaning.{Cleaning}
use Rattle.mark_core.specs.Cards.{block_of_card, card_of, card_bits, card_cells, first_bit}
use Rattle.std.specs.Int.{bit_at}
use Rattle.std.proofs.lemmas.Nat.{pow-add, shl_below}
use Rattle.std.proofs.Math.Nat.{pow-le-pow_right}
use Rattle.std.proofs.lemmas.Nat.Bits.{bit_at_and, bit_at-lt, bit_at_mask_below, bit_at_mask_above, bit_at_mask_inside}

-- The bits of a card are those of its cells, and a bit of a common part is one of both words.
-- a bit of the common part of two words
pub both-bits : (a b i : ℕ) → has_bit (bit_and a b) i ≡ true → (has_bit a i ≡ true) × (has_bit b i ≡ true)
both-bits a b i e =
    let one : min (bit_at a i) (bit_at b i) ≡ 1 = sym (bit_at_and a b i) ∙ eqb-true (bit_at (bit_and a b) i) 1 e in
    (eq-eqb (bit_at a i) 1 (omega (arith, one, bit_at-lt a i)), eq-eqb (bit_at b i) 1 (omega (arith, one, bit_at-lt b i)))

-- a word whose bits stand from lo up to hi
mask_bit : (lo hi i : ℕ) → has_bit (2 ^ hi - 2 ^ lo) i ≡ true → (lo ≤ i) × (i < hi)
mask_bit lo hi i e =
    let one : bit_at (2 ^ hi - 2 ^ lo) i ≡ 1 = eqb-true (bit_at (2 ^ hi - 2 ^ lo) i) 1 e in (
      ⊎_elim (λ (h : i < lo). absurd (omega (arith, one, bit_at_mask_below lo hi i h))) (λ (h : lo ≤ i). h) (cases_lt i lo),
      ⊎_elim (λ (h : i < hi). h) (λ (h : hi ≤ i). absurd (omega (arith, one, bit_at_mask_above lo hi i h))) (cases_lt i hi),
    )

-- the bits of a card stand from the place of its first cell up to that of the next card's
bits_are : (card : ℕ) → card_bits card ≡ 2 ^ (first_bit card + card_cells) - 2 ^ first_bit card
bits_are card = omega (arith, pow-add 2 (first_bit card) card_cells)

-- they lie in one word
pub card-bits_fit : (card : ℕ) → card_bits card < 18446744073709551616
card-bits_fit card =
    let two : 0 < 2 = omega arith in
    let few : card_cells + first_bit card ≤ 64 = omega arith in
    let top : 2 ^ (card_cells + first_bit card) ≤ 2 ^ 64 = pow-le-pow_right two few in
    omega (arith, top, shl_below (2 ^ card_cells - 1) card_cells (first_bit card) (omega arith))

pub ruleset card_rules = (card-bits_fit)

-- a bit of the card's cells in its block is that of a cell of the card
pub card-bit : (card c : ℕ) → block_of_card card ≡ c / 64 → has_bit (card_bits card) (c % 64) ≡ true → card_of c ≡ card
card-bit card c b e =
    let r = mask_bit (first_bit card) (first_bit card + card_cells) (c % 64) (ap (λ word. has_bit word (c % 64)) (sym (bits_are card)) ∙ e) in
    omega (arith, b, r)

-- each cell of the card has its bit there
pub card-has : (card c : ℕ) → card ≡ card_of c → has_bit (card_bits card) (c % 64) ≡ true
card-has card c e =
    ap (λ word. has_bit word (c % 64)) (bits_are card)
    ∙ eq-eqb _ _ (bit_at_mask_inside (first_bit card) (first_bit card + card_cells) (c % 64) (omega (arith, e)) (omega (arith, e)))

-- a set of fewer bits
pub in_set-less : (b u v c : ℕ) → (has_bit u (c % 64) ≡ true → has_bit v (c % 64) ≡ true) → in_set b u c ≡ true → in_set b v c ≡ true
in_set-less b u v c f e = let a = and_parts (eqb b (c / 64)) (has_bit u (c % 64)) e in and_from (eqb b (c / 64)) (has_bit v (c % 64)) a.0 (f a.1)

pub in_set-none : (b c : ℕ) (P : Type 0) → in_set b 0 c ≡ true → P
in_set-none b c P e = absurd (true≢false (sym (and_parts (eqb b (c / 64)) (has_bit 0 (c % 64)) e).1 ∙ no-bit (c % 64)))

-- what may be scanned is left
pub scan-left : (o : Option Cleaning) (c : ℕ) → may_scan o c ≡ true → left_in o c ≡ true
scan-left None c e = absurd (false≢true e)
scan-left (Some x) c e = (and_parts (in_set (block_of_card x.card) x.left c) _ e).0

-- 9: no more is left than before
left_seen : (x : Cleaning) (b : Bool) (word c : ℕ) → left_in (Some (cond b (seen_in x word) x)) c ≡ true → left_in (Some x) c ≡ true
left_seen x true word c e = in_set-less (block_of_card x.card) _ x.left c (λ h. (both-bits x.left word (c % 64) h).0) e
left_seen x false word c e = e

pub left-read : (o : Option Cleaning) (b word c : ℕ) → left_in (cleaning_after o b word) c ≡ true → left_in o c ≡ true
left-read None b word c e = e
left-read (Some x) b word c e = left_seen x (x.known && eqb (block_of_card x.card) b) word c e

-- 9: what may be scanned has its bit in the word, unless it might be scanned before
scan_seen : (x : Cleaning) (t : Bool) (b word c : ℕ) → (t ≡ true → block_of_card x.card ≡ b) → may_scan (Some (cond t (seen_in x word) x)) c ≡ true → (may_scan (Some x) c ≡ true) ⊎ ((b ≡ c / 64) × (has_bit word (c % 64) ≡ true))
scan_seen x true b word c f e =
    let a = and_parts (eqb (block_of_card x.card) (c / 64)) _ (and_parts (in_set (block_of_card x.card) _ c) _ e).0 in
    inr (sym (f refl) ∙ eqb-true (block_of_card x.card) (c / 64) a.0, (both-bits x.left word (c % 64) a.1).1)
scan_seen x false b word c f e = inl e

pub scan-read : (o : Option Cleaning) (b word c : ℕ) → may_scan (cleaning_after o b word) c ≡ true → (may_scan o c ≡ true) ⊎ ((b ≡ c / 64) × (has_bit word (c % 64) ≡ true))
scan-read None b word c e = inl e
scan-read (Some x) b word c e = scan_seen x (x.known && eqb (block_of_card x.card) b) b word c (λ h. eqb-true (block_of_card x.card) b (and_parts x.known _ h).1) e

-- 10: a cell leaves the list
left_gone : (x : Cleaning) (t : Bool) (u v c : ℕ) → (has_bit u (c % 64) ≡ true → has_bit x.left (c % 64) ≡ true) → left_in (Some (cond t (record x { left = u; published = v }) x)) c ≡ true → left_in (Some x) c ≡ true
left_gone x true u v c f e = in_set-less (block_of_card x.card) u x.left c f e
left_gone x false u v c f e = e

pub left-without : (o : Option Cleaning) (m c : ℕ) → left_in (without_cell o m) c ≡ true → left_in o c ≡ true
left-without None m c e = e
left-without (Some x) m c e = left_gone x (eqb (block_of_card x.card) (m / 64)) _ _ c (λ h. (both-bits x.left _ (c % 64) h).0) e

scan_gone : (x : Cleaning) (t : Bool) (u v c : ℕ) → (has_bit u (c % 64) ≡ true → has_bit x.left (c % 64) ≡ true) → (has_bit v (c % 64) ≡ true → has_bit x.published (c % 64) ≡ true) → may_scan (Some (cond t (record x { left = u; published = v }) x)) c ≡ true → may_scan (Some x) c ≡ true
scan_gone x true u v c f g e =
    let a = and_parts (in_set (block_of_card x.card) u c) (in_set (block_of_card x.card) v c) e in
    and_from (in_set (block_of_card x.card) x.left c) (in_set (block_of_card x.card) x.published c) (in_set-less (block_of_card x.card) u x.left c f a.0) (in_set-less (block_of_card x.card) v x.published c g a.1)
scan_gone x false u v c f g e = e

pub scan-without : (o : Option Cleaning) (m c : ℕ) → may_scan (without_cell o m) c ≡ true → may_scan o c ≡ true
scan-without None m c e = e
scan-without (Some x) m c e = scan_gone x (eqb (block_of_card x.card) (m / 64)) _ _ c (λ h. (both-bits x.left _ (c % 64) h).0) (λ h. (both-bits x.published _ (c % 64) h).0) e

-- 12: a debt ends, and the cells stay
same_cells : (x : Cleaning) (t : Bool) (c : ℕ) → (left_in (Some (cond t (record x { redirty = false }) x)) c ≡ left_in (Some x) c) × (may_scan (Some (cond t (record x { redirty = false }) x)) c ≡ may_scan (Some x) c)
same_cells x true c = (refl, refl)
same_cells x false c = (refl, refl)

pub left-dirtied : (o : Option Cleaning) (card c : ℕ) → left_in (redirty_off o card) c ≡ left_in o c
left-dirtied None card c = refl
left-dirtied (Some x) card c = (same_cells x (eqb x.card card) c).0

pub scan-dirtied : (o : Option Cleaning) (card c : ℕ) → may_scan (redirty_off o card) c ≡ may_scan o c
scan-dirtied None card c = refl
scan-dirtied (Some x) card c = (same_cells x (eqb x.card card) c).1

-- 14: marked cells of the card are left
left_found : (x : Cleaning) (t : Bool) (b word u c : ℕ) → (t ≡ true → block_of_card x.card ≡ b) → (has_bit u (c % 64) ≡ true → has_bit word (c % 64) ≡ true)
    → left_in (Some (cond t (record x { known = true; left = u; published = 0 }) x)) c ≡ true → (left_in (Some x) c ≡ true) ⊎ ((b ≡ c / 64) × (has_bit word (c % 64) ≡ true))
left_found x true b word u c f g e = let a = and_parts (eqb (block_of_card x.card) (c / 64)) (has_bit u (c % 64)) e in inr (sym (f refl) ∙ eqb-true (block_of_card x.card) (c / 64) a.0, g a.1)
left_found x false b word u c f g e = inl e

pub left-known : (o : Option Cleaning) (b word c : ℕ) → left_in (known_in o b word) c ≡ true → (left_in o c ≡ true) ⊎ ((b ≡ c / 64) × (has_bit word (c % 64) ≡ true))
left-known None b word c e = inl e
left-known (Some x) b word c e = left_found x (not x.known && eqb (block_of_card x.card) b) b word _ c (λ h. eqb-true (block_of_card x.card) b (and_parts (not x.known) _ h).1) (λ h. (both-bits word _ (c % 64) h).0) e

scan_found : (x : Cleaning) (t : Bool) (u c : ℕ) → may_scan (Some (cond t (record x { known = true; left = u; published = 0 }) x)) c ≡ true → may_scan (Some x) c ≡ true
scan_found x true u c e = in_set-none (block_of_card x.card) c _ (and_parts (in_set (block_of_card x.card) u c) _ e).1
scan_found x false u c e = e

pub scan-known : (o : Option Cleaning) (b word c : ℕ) → may_scan (known_in o b word) c ≡ true → may_scan o c ≡ true
scan-known None b word c e = e
scan-known (Some x) b word c e = scan_found x (not x.known && eqb (block_of_card x.card) b) _ c e

-- the cells left are cells of the card
abbrev pub IsOfCard : Cleaning → Type 0
IsOfCard x = (c : ℕ) → IsTrue (left_in (Some x) c) → card_of c ≡ x.card

seen_card : (x : Cleaning) (t : Bool) (word : ℕ) → IsOfCard x → IsOfCard (cond t (seen_in x word) x)
seen_card x true word k c e = k c (left_seen x true word c e)
seen_card x false word k c e = k c e

pub card-read : (o : Option Cleaning) (b word : ℕ) → IfSome o IsOfCard → IfSome (cleaning_after o b word) IsOfCard
card-read None b word k = tt
card-read (Some x) b word k = seen_card x (x.known && eqb (block_of_card x.card) b) word k

gone_card : (x : Cleaning) (t : Bool) (u v : ℕ) → ((c : ℕ) → has_bit u (c % 64) ≡ true → has_bit x.left (c % 64) ≡ true) → IsOfCard x → IsOfCard (cond t (record x { left = u; published = v }) x)
gone_card x true u v f k c e = k c (left_gone x true u v c (f c) e)
gone_card x false u v f k c e = k c e

pub card-without : (o : Option Cleaning) (m : ℕ) → IfSome o IsOfCard → IfSome (without_cell o m) IsOfCard
card-without None m k = tt
card-without (Some x) m k = gone_card x (eqb (block_of_card x.card) (m / 64)) _ _ (λ c h. (both-bits x.left _ (c % 64) h).0) k

dirtied_card : (x : Cleaning) (t : Bool) → IsOfCard x → IsOfCard (cond t (record x { redirty = false }) x)
dirtied_card x true k c e = k c e
dirtied_card x false k c e = k c e

pub card-dirtied : (o : Option Cleaning) (card : ℕ) → IfSome o IsOfCard → IfSome (redirty_off o card) IsOfCard
card-dirtied None card k = tt
card-dirtied (Some x) card k = dirtied_card x (eqb x.card card) k

found_card : (x : Cleaning) (t : Bool) (u v : ℕ) → ((c : ℕ) → block_of_card x.card ≡ c / 64 → has_bit u (c % 64) ≡ true → card_of c ≡ x.card) → IsOfCard x → IsOfCard (cond t (record x { known = true; left = u; published = v }) x)
found_card x true u v f k c e = let a = and_parts (eqb (block_of_card x.card) (c / 64)) (has_bit u (c % 64)) e in f c (eqb-true (block_of_card x.card) (c / 64) a.0) a.1
found_card x false u v f k c e = k c e

pub card-known : (o : Option Cleaning) (b word : ℕ) → IfSome o IsOfCard → IfSome (known_in o b word) IsOfCard
card-known None b word k = tt
card-known (Some x) b word k = found_card x (not x.known && eqb (block_of_card x.card) b) _ 0 (λ c s h. card-bit x.card c s (both-bits word _ (c % 64) h).1) k

-- a cleaning that is done leaves no cell, and no card to be dirtied
pub done-left : (o : Option Cleaning) (x : ℕ) → cleaning_left o ≡ false → left_in o x ≡ false
done-left None x e = refl
done-left (Some y) x e =
    let a = or_parts (not y.known || not (eqb y.left 0)) y.redirty e in
    let b = or_parts (not y.known) (not (eqb y.left 0)) a.0 in
    rw (eqb-true y.left 0 (not-false (eqb y.left 0) b.1), no-bit) (and_right _ false refl)

pub done-cleans : (o : Option Cleaning) (card : ℕ) → cleaning_left o ≡ false → cleans o card ≡ false
done-cleans None card e = refl
done-cleans (Some y) card e =
    let a = or_parts (not y.known || not (eqb y.left 0)) y.redirty e in
    let b = or_parts (not y.known) (not (eqb y.left 0)) a.0 in
    and_right (eqb y.card card) _ (or_from (not y.known) y.redirty b.0 a.1)

-- a scan that is done reads no field any more
pub done-scan : (o : Option (ℕ × ℕ)) (fields x i : ℕ) → scan_left fields o ≡ false → i < fields → is_unread_by o x i ≡ false
done-scan None fields x i e h = refl
done-scan (Some y) fields x i e h = let past : fields ≤ y.1 = ltb-false y.1 fields e in and_right (eqb y.0 x) _ (lt-leb y.1 i (omega (arith, past, h)))
