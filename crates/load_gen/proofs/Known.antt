-- The names of a warehouse, which its first eight lines assign.
use Rattle.std.proofs.Common.{◌≡◌, ℕ, ◌+◌, ◌<◌, ◌≤◌, zero, suc, List, [], ◌∷◌, ◌++◌, length, take, refl, ap, sym, ◌∙◌, subst, cond, Bool, true, arith}
use Rattle.std.proofs.lemmas.List.{length-take, take_all}
use Rattle.std.specs.Prelude.{Some}
use Rattle.gc_script.specs.Earlier.{place, has_name, with_name}
use Rattle.load_gen.specs.Generated.{letter}

-- the names that there are
abbrev pub letters : List (List ℕ)
letters = letter 0 ∷ letter 1 ∷ letter 2 ∷ letter 3 ∷ letter 4 ∷ letter 5 ∷ letter 6 ∷ letter 7 ∷ []

-- after j lines the first j letters are known, or all eight
abbrev pub Knows : List (List ℕ) → ℕ → Type 0
Knows names j = names ≡ take j letters

-- what holds of each number below 8
each_below_eight : (P : ℕ → Type 0) → P 0 → P 1 → P 2 → P 3 → P 4 → P 5 → P 6 → P 7 → (n : ℕ) → n < 8 → P n
each_below_eight P a b c d e f g h zero l = a
each_below_eight P a b c d e f g h (suc zero) l = b
each_below_eight P a b c d e f g h (suc (suc zero)) l = c
each_below_eight P a b c d e f g h (suc (suc (suc zero))) l = d
each_below_eight P a b c d e f g h (suc (suc (suc (suc zero)))) l = e
each_below_eight P a b c d e f g h (suc (suc (suc (suc (suc zero))))) l = f
each_below_eight P a b c d e f g h (suc (suc (suc (suc (suc (suc zero)))))) l = g
each_below_eight P a b c d e f g h (suc (suc (suc (suc (suc (suc (suc zero))))))) l = h
each_below_eight P a b c d e f g h (suc (suc (suc (suc (suc (suc (suc (suc n)))))))) l = absurd (omega (arith, l))

letter_place : (a : ℕ) → a < 8 → place letters (letter a) ≡ a
letter_place = each_below_eight (λ a. place letters (letter a) ≡ a) refl refl refl refl refl refl refl refl

letter_known : (a : ℕ) → a < 8 → has_name (letter a) letters ≡ true
letter_known = each_below_eight (λ a. has_name (letter a) letters ≡ true) refl refl refl refl refl refl refl refl

next_letter_place : (j : ℕ) → j < 8 → place (take j letters) (letter j) ≡ j
next_letter_place = each_below_eight (λ j. place (take j letters) (letter j) ≡ j) refl refl refl refl refl refl refl refl

next_letter : (j : ℕ) → j < 8 → with_name (Some (letter j)) (take j letters) ≡ take (j + 1) letters
next_letter = each_below_eight (λ j. with_name (Some (letter j)) (take j letters) ≡ take (j + 1) letters) refl refl refl refl refl refl refl refl

pub knows_none : Knows [] 0
knows_none = refl

-- from the eighth line on, all eight are
all_known : (names : List (List ℕ)) (j : ℕ) → 8 ≤ j → Knows names j → names ≡ letters
all_known names j l k = k ∙ take_all j letters l

pub few_names : (names : List (List ℕ)) (j : ℕ) → Knows names j → length names ≤ 8
few_names names j k = subst (λ (ns : List (List ℕ)). length ns ≤ 8) (sym k) (omega (arith, length-take j letters))

pub is_known : (names : List (List ℕ)) (j a : ℕ) → 8 ≤ j → a < 8 → Knows names j → has_name (letter a) names ≡ true
is_known names j a l h k = ap (has_name (letter a)) (all_known names j l k) ∙ letter_known a h

-- the letters are variables 0 to 7
pub place_is : (names : List (List ℕ)) (j a : ℕ) → 8 ≤ j → a < 8 → Knows names j → place names (letter a) ≡ a
place_is names j a l h k = ap (λ (ns : List (List ℕ)). place ns (letter a)) (all_known names j l k) ∙ letter_place a h

pub place_below : (names : List (List ℕ)) (j a : ℕ) → 8 ≤ j → a < 8 → Knows names j → place names (letter a) < 8
place_below names j a l h k = subst (λ (n : ℕ). n < 8) (sym (place_is names j a l h k)) h

pub first_place : (names : List (List ℕ)) (j : ℕ) → j < 8 → Knows names j → place names (letter j) ≡ j
first_place names j h k = ap (λ (ns : List (List ℕ)). place ns (letter j)) k ∙ next_letter_place j h

-- a line that assigns no name leaves all eight known
pub knows_more : (names : List (List ℕ)) (j : ℕ) → 8 ≤ j → Knows names j → Knows names (j + 1)
knows_more names j l k = all_known names j l k ∙ sym (take_all (j + 1) letters (omega (arith, l)))

-- a line that sets the letter of its place to nil, in the first block
pub first_letter : (names : List (List ℕ)) (j : ℕ) → j < 8 → Knows names j → Knows (with_name (Some (letter j)) names) (j + 1)
first_letter names j h k = ap (with_name (Some (letter j))) k ∙ next_letter j h

-- a line that sets the letter of its place to nil, in a block after the first
pub later_letter : (names : List (List ℕ)) (j a : ℕ) → 8 ≤ j → a < 8 → Knows names j → Knows (with_name (Some (letter a)) names) (j + 1)
later_letter names j a l h k = ap (λ (test : Bool). cond test names (names ++ letter a ∷ [])) (is_known names j a l h k) ∙ knows_more names j l k
