-- The bits of words and of cells: when one is set or cleared, when one word is replaced, and in unions and intersections.
use Rattle.std.proofs.Common.{ℕ, ◌≡◌, ◌/◌, ◌%◌, ◌<◌, ◌≤◌, List, set, get_or, length, arith, sym, ap, ◌∙◌, true, false, max, min, ◌⊎◌, inl, inr, ⊎_elim, refl, ◌^◌, ◌≢◌, eqb}
use Rattle.std.specs.Prelude.{bit_or, bit_and}
use Rattle.std.specs.Int.{bit_at, bit_not}
use Rattle.std.proofs.lemmas.Bool.{eqb-true, eq-eqb, cases_eq, cases_lt, cases_Bool, ne_eqb, true≢false}
use Rattle.std.proofs.lemmas.Nat.Bits.{bit_at_or, bit_at_and, bit_at-lt, bit_at-zero, bit_at-pow_same, bit_at-pow_other, bit_at_not}
use Rattle.std.proofs.lemmas.List.{get_or-set_same, get_or-set_other, set_past}
use Rattle.std.proofs.Math.Pow.{pow-lt}
use Rattle.mark_core.specs.Bits.{cell_bit, has_bit, with_bit, without_bit}
use mir.Syntax.{w64}

pub bit-more : (w m i : ℕ) → has_bit w i ≡ true → has_bit (bit_or w m) i ≡ true
bit-more w m i e = let a : bit_at w i ≡ 1 = eqb-true (bit_at w i) 1 e in eq-eqb _ _ (bit_at_or w m i ∙ omega (arith, a, bit_at-lt m i))

pub bit-both : (w m i : ℕ) → has_bit w i ≡ true → has_bit m i ≡ true → has_bit (bit_and w m) i ≡ true
bit-both w m i e f = eq-eqb _ _ (bit_at_and w m i ∙ omega (arith, eqb-true (bit_at w i) 1 e, eqb-true (bit_at m i) 1 f))

pub bit-joined : (w m i : ℕ) → has_bit m i ≡ true → has_bit (bit_or w m) i ≡ true
bit-joined w m i e = let a : bit_at m i ≡ 1 = eqb-true (bit_at m i) 1 e in eq-eqb _ _ (bit_at_or w m i ∙ omega (arith, a, bit_at-lt w i))

pub bit-either : (w m i : ℕ) → has_bit (bit_or w m) i ≡ true → (has_bit w i ≡ true) ⊎ (has_bit m i ≡ true)
bit-either w m i e =
    let a : max (bit_at w i) (bit_at m i) ≡ 1 = sym (bit_at_or w m i) ∙ eqb-true (bit_at (bit_or w m) i) 1 e in
    ⊎_elim
    (λ (z : has_bit w i ≡ true). inl z)
    (λ (z : has_bit w i ≡ false). inr (eq-eqb _ _ (grind (arith, a, z, bit_at-lt w i, bit_at-lt m i))))
    (cases_Bool (has_bit w i))

pub bit-first : (w m i : ℕ) → has_bit (bit_and w m) i ≡ true → has_bit w i ≡ true
bit-first w m i e =
    let a : min (bit_at w i) (bit_at m i) ≡ 1 = sym (bit_at_and w m i) ∙ eqb-true (bit_at (bit_and w m) i) 1 e in
    eq-eqb _ _ (omega (arith, a, bit_at-lt w i))

-- zero has no bit
pub no-bit : (i : ℕ) → has_bit 0 i ≡ false
no-bit i = rw bit_at-zero refl

pub with_same : (w k : ℕ) → has_bit (with_bit w k) k ≡ true
with_same w k = eq-eqb _ _ (bit_at_or w (2 ^ k) k ∙ rw bit_at-pow_same (omega (arith, bit_at-lt w k)))

pub with_other : (w k i : ℕ) → i ≢ k → has_bit (with_bit w k) i ≡ has_bit w i
with_other w k i d = ap (λ b. eqb b 1) (bit_at_or w (2 ^ k) i ∙ rw (bit_at-pow_other k i d) (omega (arith, bit_at-lt w i)))

power_below : (k : ℕ) → k < 64 → 2 ^ k < 2 ^ 64
power_below k h = pow-lt h

pub without_same : (w k : ℕ) → k < 64 → has_bit (without_bit w k) k ≡ false
without_same w k h =
    let c : bit_at (bit_not w64 (2 ^ k)) k ≡ 0 = bit_at_not w64 (2 ^ k) k (power_below k h) h ∙ rw bit_at-pow_same refl in
    let z : bit_at (without_bit w k) k ≡ 0 = bit_at_and w (bit_not w64 (2 ^ k)) k ∙ rw c (omega arith) in
    ne_eqb _ _ (λ e. omega (arith, z, e))

pub without_other : (w k i : ℕ) → k < 64 → i < 64 → i ≢ k → has_bit (without_bit w k) i ≡ has_bit w i
without_other w k i h hi d =
    let c : bit_at (bit_not w64 (2 ^ k)) i ≡ 1 = bit_at_not w64 (2 ^ k) i (power_below k h) hi ∙ rw (bit_at-pow_other k i d) refl in
    ap (λ b. eqb b 1) (bit_at_and w (bit_not w64 (2 ^ k)) i ∙ rw c (omega (arith, bit_at-lt w i)))

-- a number is determined by its word and its place in it
pub same-index : (x p : ℕ) → x / 64 ≡ p / 64 → x % 64 ≡ p % 64 → x ≡ p
same-index x p e f = omega arith

-- a word with a bit is not zero
pub some-bit : (word i : ℕ) → has_bit word i ≡ true → eqb word 0 ≡ false
some-bit word i e =
    ⊎_elim
    (λ (z : eqb word 0 ≡ true). absurd (true≢false (sym e ∙ rw (eqb-true word 0 z) (rw bit_at-zero refl))))
    (λ (z : eqb word 0 ≡ false). z)
    (cases_Bool (eqb word 0))

-- the bit of a cell whose word is written, and of any other
pub bit-here : (ws : List ℕ) (b v x : ℕ) → b < length ws → b ≡ x / 64 → cell_bit (set ws b v) x ≡ has_bit v (x % 64)
bit-here ws b v x h e = rw (← e) (rw (get_or-set_same ws b v 0 h) refl)

pub bit-there : (ws : List ℕ) (b v x : ℕ) → x / 64 ≢ b → cell_bit (set ws b v) x ≡ cell_bit ws x
bit-there ws b v x n = ap (λ w. has_bit w (x % 64)) (get_or-set_other ws b (x / 64) v 0 n)

-- no bit is lost if the new word has those of the old one
pub bits-grow : (ws : List ℕ) (b v x : ℕ) → (b ≡ x / 64 → has_bit (get_or ws b 0) (x % 64) ≡ true → has_bit v (x % 64) ≡ true) → cell_bit ws x ≡ true → cell_bit (set ws b v) x ≡ true
bits-grow ws b v x f e =
    ⊎_elim
    (λ (s : x / 64 ≡ b).
    ⊎_elim
    (λ (h : b < length ws). bit-here ws b v x h (sym s) ∙ f (sym s) (rw (← s) e))
    (λ (h : length ws ≤ b). rw (set_past ws b v h) e)
    (cases_lt b (length ws)))
    (λ (n : x / 64 ≡ b → ⊥). bit-there ws b v x n ∙ e)
    (cases_eq (x / 64) b)

-- a bit is there as before, or is one of the new word
pub bits-from : (ws : List ℕ) (b v x : ℕ) → cell_bit (set ws b v) x ≡ true → (cell_bit ws x ≡ true) ⊎ ((b ≡ x / 64) × (has_bit v (x % 64) ≡ true))
bits-from ws b v x e =
    ⊎_elim
    (λ (s : x / 64 ≡ b).
    ⊎_elim
    (λ (h : b < length ws). inr (sym s, sym (bit-here ws b v x h (sym s)) ∙ e))
    (λ (h : length ws ≤ b). inl (rw (set_past ws b v h) at e))
    (cases_lt b (length ws)))
    (λ (n : x / 64 ≡ b → ⊥). inl (sym (bit-there ws b v x n) ∙ e))
    (cases_eq (x / 64) b)
