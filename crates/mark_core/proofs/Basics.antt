-- Facts of numbers, Bools and options that several parts use.
use Rattle.std.proofs.Common.{◌≡◌, refl, true, false, Option, Some, None, Bool, not, ℕ, ◌<◌, arith, eqb, ◌||◌, zero, suc, List, [], ◌∷◌, get_or, ◌≤◌}
use Rattle.std.specs.Prelude.{is_none, is_some, unwrap_or}
use Rattle.std.proofs.lemmas.Bool.{false≢true, eqb-false, and_parts, eqb-true}
use Rattle.std.specs.List.{list_all}
use Rattle.mark_core.specs.Seats.{is_the}
use Rattle.mark_core.specs.Bits.{reference_in}

pub none-is : {A : Type 0} (o : Option A) → is_none o ≡ true → o ≡ None
none-is None e = refl
none-is (Some x) e = absurd (false≢true e)

pub not-not : (b : Bool) → not (not b) ≡ b
not-not true = refl
not-not false = refl

-- a number that is not zero
pub positive : (n : ℕ) → eqb n 0 ≡ false → 0 < n
positive n e = grind (arith, eqb-false)

-- an option that holds a number
pub some-number : (o : Option ℕ) (x : ℕ) → is_the o x ≡ true → is_some o ≡ true
some-number None x e = absurd (false≢true e)
some-number (Some y) x e = refl

-- a number that is known and not zero
pub some-positive : (o : Option ℕ) → not (eqb (unwrap_or o 0) 0) ≡ true → is_some o ≡ true
some-positive None e = absurd (false≢true e)
some-positive (Some n) e = refl

-- one of three holds if the second does
pub or-second : (a k d : Bool) → k ≡ true → (a || k || d) ≡ true
or-second true k d e = refl
or-second false true d e = refl
or-second false false d e = absurd (false≢true e)

-- each word of a list of zeros is zero
pub all-zero : (ws : List ℕ) → list_all (λ x. eqb x 0) ws ≡ true → (g : ℕ) → get_or ws g 0 ≡ 0
all-zero [] e g = refl
all-zero (w ∷ ws) e zero = eqb-true w 0 (and_parts (eqb w 0) (list_all (λ x. eqb x 0) ws) e).0
all-zero (w ∷ ws) e (suc g) = all-zero ws (and_parts (eqb w 0) (list_all (λ x. eqb x 0) ws) e).1 g

-- a length is read as it was stored
pub whole-length : (h e : ℕ) → h ≤ e → e ≤ 512 → reference_in h ≡ h
whole-length h e l m = omega arith
