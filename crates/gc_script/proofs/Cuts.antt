-- The lines of a text and the words of a line, by the first of them.
use Rattle.std.proofs.Common.{◌≡◌, ℕ, ◌+◌, ◌-◌, ◌<◌, ◌≤◌, suc, List, [], ◌∷◌, length, take, get_or, refl, ap, sym, ◌∙◌, cond, Bool, true, false, arith}
use Rattle.std.proofs.lemmas.Bool.Decides.{nat_tests}
use Rattle.std.proofs.lemmas.List.{take_all, drop_all}
use Rattle.std.proofs.lemmas.List.Splits.{slice_split_first, length-slice_split}
use Rattle.std.specs.Prelude.{not, nat_lt, filter, ◌==◌}
use Rattle.std.specs.List.{slice_split, onto_first, position_or_len, before_first, after_first}
use Rattle.gc_script.specs.ScriptText.{words, is_word, lines, without_empty_last}

abbrev pub is_space : ℕ → Bool
is_space b = b == 32

-- a text without a separator is one piece
whole : (p : ℕ → Bool) (xs : List ℕ) → length xs ≤ position_or_len p xs → slice_split p xs ≡ xs ∷ []
whole p [] h = refl
whole p (x ∷ xs) h = by_head (p x) h (whole p xs)
  where
    by_head : (b : Bool) → suc (length xs) ≤ cond (not b) (1 + position_or_len p xs) 0 → (length xs ≤ position_or_len p xs → slice_split p xs ≡ xs ∷ [])
        → cond b ([] ∷ slice_split p xs) (onto_first x (slice_split p xs)) ≡ (x ∷ xs) ∷ []
    by_head true h ih = let no : ⊥ = omega arith in absurd no
    by_head false h ih = ap (onto_first x) (ih (omega arith))

-- the words of a line: its first piece, if that is a word, and those of the rest
pub words_step : (xs : List ℕ) → words xs ≡ cond (is_word (before_first is_space xs)) (before_first is_space xs ∷ words (after_first is_space xs)) (words (after_first is_space xs))
words_step xs = by_test (nat_lt (position_or_len is_space xs) (length xs)) refl
  where
    by_test : (b : Bool) → nat_lt (position_or_len is_space xs) (length xs) ≡ b
        → words xs ≡ cond (is_word (before_first is_space xs)) (before_first is_space xs ∷ words (after_first is_space xs)) (words (after_first is_space xs))
    by_test true e =
        let within : position_or_len is_space xs < length xs = grind (arith, nat_tests) in
        ap (filter is_word) (slice_split_first is_space xs 0 within)
    by_test false e =
        let far : length xs ≤ position_or_len is_space xs = grind (arith, nat_tests) in
        let rest : List ℕ = after_first is_space xs in
        ap (filter is_word) (whole is_space xs far)
        ∙ sym (ap (λ (b : List ℕ). cond (is_word b) (b ∷ words rest) (words rest)) (take_all (position_or_len is_space xs) xs far)
        ∙ ap (λ (r : List ℕ). cond (is_word xs) (xs ∷ words r) (words r)) (drop_all (position_or_len is_space xs + 1) xs (omega (arith, far))))

abbrev is_line_feed : ℕ → Bool
is_line_feed b = b == 10

-- a piece before others stays, and of those an empty last one is left out
before_others : (piece p : List ℕ) (pieces : List (List ℕ)) → without_empty_last (piece ∷ p ∷ pieces) ≡ piece ∷ without_empty_last (p ∷ pieces)
before_others piece p pieces =
    ap (λ (n : ℕ). left_out n (piece ∷ p ∷ pieces)) (less (suc (length pieces)))
    ∙ by_test (length (get_or (p ∷ pieces) (length pieces) []) == 0)
    ∙ sym (ap (λ (n : ℕ). piece ∷ left_out n (p ∷ pieces)) (less (length pieces)))
  where
    left_out : ℕ → List (List ℕ) → List (List ℕ)
    left_out n ps = cond (length (get_or ps n []) == 0) (take n ps) ps

    less : (n : ℕ) → suc n - 1 ≡ n
    less n = omega arith

    by_test : (b : Bool) → cond b (piece ∷ take (length pieces) (p ∷ pieces)) (piece ∷ p ∷ pieces) ≡ piece ∷ cond b (take (length pieces) (p ∷ pieces)) (p ∷ pieces)
    by_test true = refl
    by_test false = refl

onto_others : (piece : List ℕ) (pieces : List (List ℕ)) → 0 < length pieces → without_empty_last (piece ∷ pieces) ≡ piece ∷ without_empty_last pieces
onto_others piece [] h = absurd (omega arith)
onto_others piece (p ∷ pieces) h = before_others piece p pieces

some_pieces : (xs : List ℕ) → 0 < length (slice_split is_line_feed xs)
some_pieces xs = let pieces = length-slice_split is_line_feed xs in omega arith

alone : (xs : List ℕ) → 0 < length xs → without_empty_last (xs ∷ []) ≡ xs ∷ []
alone xs h = ap (λ (b : Bool). cond b [] (xs ∷ [])) (not_empty (length xs) h)
  where
    not_empty : (n : ℕ) → 0 < n → (n == 0) ≡ false
    not_empty n h = grind (arith, nat_tests)

-- the lines of a text: what stands before its first line feed, and the lines of the rest
pub lines_step : (xs : List ℕ) → 0 < length xs → lines xs ≡ before_first is_line_feed xs ∷ lines (after_first is_line_feed xs)
lines_step xs h = by_test (nat_lt (position_or_len is_line_feed xs) (length xs)) refl
  where
    by_test : (b : Bool) → nat_lt (position_or_len is_line_feed xs) (length xs) ≡ b → lines xs ≡ before_first is_line_feed xs ∷ lines (after_first is_line_feed xs)
    by_test true e =
        let within : position_or_len is_line_feed xs < length xs = grind (arith, nat_tests) in
        ap without_empty_last (slice_split_first is_line_feed xs 0 within) ∙ onto_others (before_first is_line_feed xs) _ (some_pieces (after_first is_line_feed xs))
    by_test false e =
        let far : length xs ≤ position_or_len is_line_feed xs = grind (arith, nat_tests) in
        ap without_empty_last (whole is_line_feed xs far) ∙ alone xs h
        ∙ sym (ap (λ (l : List ℕ). l ∷ lines (after_first is_line_feed xs)) (take_all (position_or_len is_line_feed xs) xs far)
        ∙ ap (λ (r : List ℕ). xs ∷ lines r) (drop_all (position_or_len is_line_feed xs + 1) xs (omega (arith, far))))
