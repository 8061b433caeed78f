-- What a seat tends and which card it cleans, after a step of its own.
use Rattle.std.proofs.Common.{ℕ, ◌≡◌, ◌≢◌, ◌/◌, ◌%◌, ◌^◌, ◌<◌, arith, refl, sym, ap, ◌∙◌, ◌⊎◌, inl, inr, Bool, true, false, not, cond, eqb, ◌&&◌, ◌||◌, Option, Some, None, ⊎_elim}
use Rattle.std.specs.Prelude.{IfSome, is_some, bit_and}
use Rattle.std.specs.Int.{bit_at}
use Rattle.std.proofs.lemmas.Bool.{true≢false, false≢true, cases_eq, cases_Bool, and_parts, and_from, and_right, or_cases, or_left, or_right, not_from_false, eqb-true, eq-eqb, ne_eqb}
use Rattle.std.proofs.Math.Pow.{pow-lt}
use Rattle.std.proofs.lemmas.Nat.Bits.{bit_at_not, bit_at-pow_other, bit_at-lt}
use Rattle.mark_core.specs.Bits.{has_bit, without_bit, complement}
use Rattle.mark_core.specs.Seats.{left_in, is_the, is_unpublished}
use Rattle.mark_core.specs.Rules.ColourRules.{popped_is, cleans}
use Rattle.mark_core.specs.Steps.ColourSteps.{popped_after, cleaning_after, seen_in, without_cell, fresh_off, popped_off, redirty_off, known_in}
use Rattle.mark_core.proofs.Hands.HandsCleaning.{card-has, IsOfCard}
use Rattle.mark_core.proofs.Writing.CellBits.{some-bit, bit-both}
use Rattle.mark_core.specs.declared.seat.Cleaning.{Cleaning}
use mir.Syntax.{w64}
use Rattle.mark_core.specs.Cards.{block_of_card, card_bits, card_of}

-- the ways in which a seat tends a cell
pub tends-cases : (P : Type 0) (a b d : Bool) → (a ≡ true → P) → (b ≡ true → P) → (d ≡ true → P) → (a || b || d) ≡ true → P
tends-cases P true b d f g h e = f refl
tends-cases P false true d f g h e = g refl
tends-cases P false false d f g h e = h e

pub tends-popped : (a b d : Bool) → a ≡ true → (a || b || d) ≡ true
tends-popped true b d e = refl
tends-popped false b d e = absurd (false≢true e)

pub tends-left : (a b d : Bool) → d ≡ true → (a || b || d) ≡ true
tends-left true b d e = refl
tends-left false true d e = refl
tends-left false false d e = e

pub same-number : (o : Option ℕ) (x y : ℕ) → is_the o x ≡ true → is_the o y ≡ true → x ≡ y
same-number None x y e f = absurd (false≢true e)
same-number (Some z) x y e f = sym (eqb-true z x e) ∙ eqb-true z y f

pub some-popped : (o : Option (ℕ × Bool)) (x : ℕ) → popped_is o x ≡ true → is_some o ≡ true
some-popped None x e = absurd (false≢true e)
some-popped (Some y) x e = refl

pub same-popped : (o : Option (ℕ × Bool)) (x y : ℕ) → popped_is o x ≡ true → is_unpublished o y ≡ true → x ≡ y
same-popped None x y e f = absurd (false≢true e)
same-popped (Some z) x y e f = sym (eqb-true z.0 x e) ∙ eqb-true z.0 y (and_parts (eqb z.0 y) z.1 f).0

-- 9: a popped cell stays if its bit is clear
popped_seen : (y : ℕ × Bool) (x : ℕ) (t h : Bool) → popped_is (Some y) x ≡ true → (popped_is (cond t (cond h None (Some (y.0, true))) (Some y)) x ≡ true) ⊎ ((t ≡ true) × (h ≡ true) × (y.0 ≡ x))
popped_seen y x true true e = inr (refl, refl, eqb-true y.0 x e)
popped_seen y x true false e = inl e
popped_seen y x false h e = inl e

pub popped-read : (o : Option (ℕ × Bool)) (b word x : ℕ) → popped_is o x ≡ true → (popped_is (popped_after o b word) x ≡ true) ⊎ ((x / 64 ≡ b) × (has_bit word (x % 64) ≡ true))
popped-read None b word x e = absurd (false≢true e)
popped-read (Some y) b word x e =
    ⊎_elim
    (λ h. inl h)
    (λ p. inr (sym (ap (λ z. z / 64) p.2) ∙ eqb-true (y.0 / 64) b p.0, ap (λ z. has_bit word (z % 64)) (sym p.2) ∙ p.1))
    (popped_seen y x (eqb (y.0 / 64) b) (has_bit word (y.0 % 64)) e)

-- if a bit of the first word isn't in the second, it is in the complement
bit_other : (a b i : ℕ) → b < 2 ^ 64 → i < 64 → has_bit a i ≡ true → has_bit b i ≡ false → has_bit (bit_and a (complement b)) i ≡ true
bit_other a b i h l e f =
    let none : bit_at b i ≡ 0 = ⊎_elim (λ (z : bit_at b i ≡ 1). absurd (true≢false (sym (eq-eqb (bit_at b i) 1 z) ∙ f))) (λ (z : bit_at b i ≡ 1 → ⊥). omega (arith, z, bit_at-lt b i)) (cases_eq (bit_at b i) 1) in
    bit-both a (complement b) i e (eq-eqb _ _ (bit_at_not w64 b i h l ∙ omega (arith, none)))

-- the seat will dirty the card
cleans_dirty : (y : Cleaning) (card : ℕ) → y.card ≡ card → y.redirty ≡ true → cleans (Some y) card ≡ true
cleans_dirty y card e f = and_from (eqb y.card card) (not y.known || y.redirty) (eq-eqb y.card card e) (or_right (not y.known) y.redirty f)

-- a cell that was left stays so, or its card will be dirty again
left_seen : (y : Cleaning) (t : Bool) (word x : ℕ) → word < 2 ^ 64 → IsOfCard y → left_in (Some y) x ≡ true → (left_in (Some (cond t (seen_in y word) y)) x ≡ true) ⊎ (cleans (Some (cond t (seen_in y word) y)) (card_of x) ≡ true)
left_seen y false word x h k e = inl e
left_seen y true word x h k e =
    let a = and_parts (eqb (block_of_card y.card) (x / 64)) (has_bit y.left (x % 64)) e in
    ⊎_elim
    (λ (f : has_bit word (x % 64) ≡ true). inl (and_from (eqb (block_of_card y.card) (x / 64)) _ a.0 (bit-both y.left word (x % 64) a.1 f)))
    (λ (f : has_bit word (x % 64) ≡ false).
    let out = bit_other y.left word (x % 64) h (omega arith) a.1 f in
    inr (cleans_dirty (seen_in y word) (card_of x) (sym (k x e)) (or_right y.redirty _ (not_from_false _ (some-bit (bit_and y.left (complement word)) (x % 64) out)))))
    (cases_Bool (has_bit word (x % 64)))

pub left-seen : (o : Option Cleaning) (b word x : ℕ) → word < 2 ^ 64 → IfSome o IsOfCard → left_in o x ≡ true → (left_in (cleaning_after o b word) x ≡ true) ⊎ (cleans (cleaning_after o b word) (card_of x) ≡ true)
left-seen None b word x h k e = inl e
left-seen (Some y) b word x h k e = left_seen y (y.known && eqb (block_of_card y.card) b) word x h k e

cleans_more : (c k r s : Bool) → (c && (not k || r)) ≡ true → (c && (not k || (r || s))) ≡ true
cleans_more true k r s e = ⊎_elim (λ (f : not k ≡ true). or_left (not k) (r || s) f) (λ (f : r ≡ true). or_right (not k) (r || s) (or_left r s f)) (or_cases (not k) r e)
cleans_more false k r s e = e

cleans_seen : (y : Cleaning) (t : Bool) (word card : ℕ) → cleans (Some y) card ≡ true → cleans (Some (cond t (seen_in y word) y)) card ≡ true
cleans_seen y true word card e = cleans_more (eqb y.card card) y.known y.redirty (not (eqb (bit_and y.left (complement word)) 0)) e
cleans_seen y false word card e = e

pub cleans-read : (o : Option Cleaning) (b word card : ℕ) → cleans o card ≡ true → cleans (cleaning_after o b word) card ≡ true
cleans-read None b word card e = e
cleans-read (Some y) b word card e = cleans_seen y (y.known && eqb (block_of_card y.card) b) word card e

bit_stays : (w k i : ℕ) → k < 64 → i < 64 → i ≢ k → has_bit w i ≡ true → has_bit (without_bit w k) i ≡ true
bit_stays w k i h l d e = bit-both w (complement (2 ^ k)) i e (eq-eqb _ _ (bit_at_not w64 (2 ^ k) i (pow-lt h) l ∙ rw (bit_at-pow_other k i d) refl))

left_there : (y : Cleaning) (t : Bool) (m x : ℕ) → (t ≡ true → x % 64 ≢ m % 64) → left_in (Some y) x ≡ true → left_in (Some (cond t (record y { left = without_bit y.left (m % 64); published = without_bit y.published (m % 64) }) y)) x ≡ true
left_there y true m x d e =
    let a = and_parts (eqb (block_of_card y.card) (x / 64)) (has_bit y.left (x % 64)) e in
    and_from (eqb (block_of_card y.card) (x / 64)) _ a.0 (bit_stays y.left (m % 64) (x % 64) (omega arith) (omega arith) (d refl) a.1)
left_there y false m x d e = e

-- 10: another cell stays left
pub left-other : (o : Option Cleaning) (m x : ℕ) → x ≢ m → left_in o x ≡ true → left_in (without_cell o m) x ≡ true
left-other None m x d e = e
left-other (Some y) m x d e =
    let a = and_parts (eqb (block_of_card y.card) (x / 64)) (has_bit y.left (x % 64)) e in
    let block : block_of_card y.card ≡ x / 64 = eqb-true (block_of_card y.card) (x / 64) a.0 in
    left_there y (eqb (block_of_card y.card) (m / 64)) m x
    (λ t. let same : block_of_card y.card ≡ m / 64 = eqb-true (block_of_card y.card) (m / 64) t in λ f. d (omega (arith, f, same, block)))
    e

cleans_without : (y : Cleaning) (t : Bool) (u v card : ℕ) → cleans (Some (cond t (record y { left = u; published = v }) y)) card ≡ cleans (Some y) card
cleans_without y true u v card = refl
cleans_without y false u v card = refl

pub cleans-without : (o : Option Cleaning) (m card : ℕ) → cleans (without_cell o m) card ≡ cleans o card
cleans-without None m card = refl
cleans-without (Some y) m card = cleans_without y (eqb (block_of_card y.card) (m / 64)) _ _ card

-- 12: what isn't of the card stays
pub fresh-other : (o : Option ℕ) (card x : ℕ) → card_of x ≢ card → is_the o x ≡ true → is_the (fresh_off o card) x ≡ true
fresh-other None card x d e = e
fresh-other (Some y) card x d e = let far : eqb (card_of y) card ≡ false = ne_eqb (card_of y) card (λ f. d (ap card_of (sym (eqb-true y x e)) ∙ f)) in rw far e

popped_there : (y : ℕ × Bool) (card x : ℕ) (t : Bool) → t ≡ false → popped_is (Some y) x ≡ true → popped_is (cond t None (Some y)) x ≡ true
popped_there y card x true f e = absurd (true≢false f)
popped_there y card x false f e = e

pub popped-other : (o : Option (ℕ × Bool)) (card x : ℕ) → card_of x ≢ card → popped_is o x ≡ true → popped_is (popped_off o card) x ≡ true
popped-other None card x d e = e
popped-other (Some y) card x d e =
    popped_there y card x (y.1 && eqb (card_of y.0) card) (and_right y.1 (eqb (card_of y.0) card) (ne_eqb (card_of y.0) card (λ f. d (ap card_of (sym (eqb-true y.0 x e)) ∙ f)))) e

cleans_there : (y : Cleaning) (card other : ℕ) (t : Bool) → t ≡ false → cleans (Some y) other ≡ true → cleans (Some (cond t (record y { redirty = false }) y)) other ≡ true
cleans_there y card other true f e = absurd (true≢false f)
cleans_there y card other false f e = e

pub cleans-other : (o : Option Cleaning) (card other : ℕ) → other ≢ card → cleans o other ≡ true → cleans (redirty_off o card) other ≡ true
cleans-other None card other d e = e
cleans-other (Some y) card other d e =
    let same : y.card ≡ other = eqb-true y.card other (and_parts (eqb y.card other) (not y.known || y.redirty) e).0 in
    cleans_there y card other (eqb y.card card) (ne_eqb y.card card (λ f. d (sym same ∙ f))) e

-- 14: a marked cell of the card is left
found_left : (y : Cleaning) (t : Bool) (b word x : ℕ) → (t ≡ true → block_of_card y.card ≡ b) → y.card ≡ card_of x → (b ≡ x / 64 → has_bit word (x % 64) ≡ true)
    → t ≡ true → left_in (Some (cond t (record y { known = true; left = bit_and word (card_bits y.card); published = 0 }) y)) x ≡ true
found_left y true b word x f c m e =
    let block : block_of_card y.card ≡ x / 64 = omega (arith, c) in
    and_from (eqb (block_of_card y.card) (x / 64)) _ (eq-eqb (block_of_card y.card) (x / 64) block) (bit-both word (card_bits y.card) (x % 64) (m (sym (f refl) ∙ block)) (card-has y.card x c))
found_left y false b word x f c m e = absurd (false≢true e)

-- a cell of the card that the seat cleans is left now, or the card is still to be looked at
pub found-cleans : (o : Option Cleaning) (b word x : ℕ) → (b ≡ x / 64 → has_bit word (x % 64) ≡ true) → cleans o (card_of x) ≡ true → (left_in (known_in o b word) x ≡ true) ⊎ (cleans (known_in o b word) (card_of x) ≡ true)
found-cleans None b word x m e = absurd (false≢true e)
found-cleans (Some y) b word x m e =
    let t : Bool = not y.known && eqb (block_of_card y.card) b in
    let c : y.card ≡ card_of x = eqb-true y.card (card_of x) (and_parts (eqb y.card (card_of x)) (not y.known || y.redirty) e).0 in
    ⊎_elim
    (λ (f : t ≡ true). inl (found_left y t b word x (λ h. eqb-true (block_of_card y.card) b (and_parts (not y.known) _ h).1) c m f))
    (λ (f : t ≡ false). inr (rw f e))
    (cases_Bool t)

-- a cell that was left to scan is still left
pub found-left : (o : Option Cleaning) (b word x : ℕ) → (b ≡ x / 64 → has_bit word (x % 64) ≡ true) → IfSome o IsOfCard → left_in o x ≡ true → left_in (known_in o b word) x ≡ true
found-left None b word x m k e = e
found-left (Some y) b word x m k e =
    let t : Bool = not y.known && eqb (block_of_card y.card) b in
    ⊎_elim
    (λ (f : t ≡ true). found_left y t b word x (λ h. eqb-true (block_of_card y.card) b (and_parts (not y.known) _ h).1) (sym (k x e)) m f)
    (λ (f : t ≡ false). rw f e)
    (cases_Bool t)
