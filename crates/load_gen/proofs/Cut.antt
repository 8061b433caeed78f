-- Lines and words of texts that are put together from them.
use Rattle.std.proofs.Common.{◌≡◌, ℕ, ◌-◌, ◌<◌, suc, List, [], ◌∷◌, ◌++◌, length, take, get_or, map, refl, ap, ◌∙◌, cond, Bool, true, false, arith, ◌+◌, ◌*◌, ◌^◌, rules, decimal, fold}
use Rattle.std.proofs.lemmas.List.Elements.{All-nil, All-cons}
use Rattle.std.proofs.lemmas.List.Splits.{slice_split_at, slice_split_none, length-slice_split}
use Rattle.std.specs.Prelude.{not, ◌==◌, filter, ◌&&◌, nat_le, Option, Some, None}
use Rattle.std.specs.List.{All, list_all, slice_split}
use Rattle.gc_script.specs.ScriptText.{without_empty_last, lines, is_word, words, is_name, decimal_value, number_of}
use Rattle.gc_script.specs.Statement.{Statement, statement, Wrong, named, with_number}
use Rattle.std.proofs.lemmas.Bool.Decides.{nat_tests}
use Rattle.std.proofs.lemmas.Fmt.{digits_decimal, digits_value-decimal, decimal_nonempty}
use Rattle.std.proofs.lemmas.Str.Parse.{IsNumeralModel, numerals_by_fold}
use Rattle.std.specs.Char.{is_ascii_digit}
use Rattle.load_gen.specs.Generated.{letter}
use Rattle.plain_heap.proofs.Found.{both}

pub and_true : (a b : Bool) → a ≡ true → b ≡ true → (a && b) ≡ true
and_true true b p q = q
and_true false b p q = p

is_no : (test : Bool) → not test ≡ true → test ≡ false
is_no true h = cc
is_no false h = refl

-- no byte passes a test
all_fail : (p : ℕ → Bool) (xs : List ℕ) → list_all (λ (b : ℕ). not (p b)) xs ≡ true → All (λ (b : ℕ). p b ≡ false) xs
all_fail p [] h = All-nil (λ (b : ℕ). p b ≡ false)
all_fail p (x ∷ xs) h =
    let q = both (not (p x)) (list_all (λ (b : ℕ). not (p b)) xs) h in
    All-cons (λ (b : ℕ). p b ≡ false) x xs (is_no (p x) q.0) (all_fail p xs q.1)

-- pieces that end in an empty one keep the first
first_kept : (x : List ℕ) (parts : List (List ℕ)) → 0 < length parts → without_empty_last (x ∷ parts) ≡ x ∷ without_empty_last parts
first_kept x [] h = absurd (omega (arith, h))
first_kept x (y ∷ more) h = at_end (length more) (suc (suc (length more)) - 1) (suc (length more) - 1) (omega arith) (omega arith)
  where
    either : (test : Bool) (all rest : List (List ℕ)) → cond test (x ∷ rest) (x ∷ all) ≡ x ∷ cond test rest all
    either true all rest = refl
    either false all rest = refl

    at_end : (n long short : ℕ) → long ≡ suc n → short ≡ n
        → cond (length (get_or (x ∷ y ∷ more) long []) == 0) (take long (x ∷ y ∷ more)) (x ∷ y ∷ more) ≡ x ∷ cond (length (get_or (y ∷ more) short []) == 0) (take short (y ∷ more)) (y ∷ more)
    at_end n long short a b = rw (a, b) (either (length (get_or (y ∷ more) n []) == 0) (y ∷ more) (take n (y ∷ more)))

-- a line that is followed by LF is the first line
pub lines_first : (line rest : List ℕ) → list_all (λ (b : ℕ). not (b == 10)) line ≡ true → lines (line ++ 10 ∷ rest) ≡ line ∷ lines rest
lines_first line rest h =
    let ends : ℕ → Bool = λ b. b == 10 in
    let parts : 0 < length (slice_split ends rest) = omega (arith, length-slice_split ends rest) in
    ap without_empty_last (slice_split_at ends line 10 rest (all_fail ends line h) refl) ∙ first_kept line (slice_split ends rest) parts

-- what the lines of a text say
abbrev pub statements : List ℕ → List Statement
statements text = map statement (map words (lines text))

pub statements_first : (line rest : List ℕ) → list_all (λ (b : ℕ). not (b == 10)) line ≡ true → statements (line ++ 10 ∷ rest) ≡ statement (words line) ∷ statements rest
statements_first line rest h = ap (λ (ls : List (List ℕ)). map statement (map words ls)) (lines_first line rest h)

-- a word by itself
pub record IsWord (word : List ℕ) : Type 0 where
  pub some : is_word word ≡ true
  pub no_space : list_all (λ (b : ℕ). not (b == 32)) word ≡ true

kept_word : (word : List ℕ) (others : List (List ℕ)) → is_word word ≡ true → filter is_word (word ∷ others) ≡ word ∷ filter is_word others
kept_word word others h = ap (λ (test : Bool). cond test (word ∷ filter is_word others) (filter is_word others)) h

pub words_last : (word : List ℕ) → IsWord word → words word ≡ word ∷ []
words_last word h =
    let ends : ℕ → Bool = λ b. b == 32 in
    ap (filter is_word) (slice_split_none ends word (all_fail ends word h.no_space)) ∙ kept_word word [] h.some

pub words_first : (word rest : List ℕ) → IsWord word → words (word ++ 32 ∷ rest) ≡ word ∷ words rest
words_first word rest h =
    let ends : ℕ → Bool = λ b. b == 32 in
    ap (filter is_word) (slice_split_at ends word 32 rest (all_fail ends word h.no_space) refl) ∙ kept_word word (slice_split ends rest) h.some

pub two_words : (a b : List ℕ) → IsWord a → IsWord b → words (a ++ 32 ∷ b) ≡ a ∷ b ∷ []
two_words a b p q = words_first a b p ∙ ap (λ (ws : List (List ℕ)). a ∷ ws) (words_last b q)

pub three_words : (a b c : List ℕ) → IsWord a → IsWord b → IsWord c → words (a ++ 32 ∷ (b ++ 32 ∷ c)) ≡ a ∷ b ∷ c ∷ []
three_words a b c p q r = words_first a (b ++ 32 ∷ c) p ∙ ap (λ (ws : List (List ℕ)). a ∷ ws) (two_words b c q r)

pub four_words : (a b c d : List ℕ) → IsWord a → IsWord b → IsWord c → IsWord d → words (a ++ 32 ∷ (b ++ 32 ∷ (c ++ 32 ∷ d))) ≡ a ∷ b ∷ c ∷ d ∷ []
four_words a b c d p q r s = words_first a (b ++ 32 ∷ (c ++ 32 ∷ d)) p ∙ ap (λ (ws : List (List ℕ)). a ∷ ws) (three_words b c d q r s)

-- Numbers as they are written, and names of one letter.
-- a byte that a line may have
abbrev pub is_printed : ℕ → Bool
is_printed b = nat_le 32 b && nat_le b 126

-- a test that each byte passes, and another that follows from it
pub all_pass : (p q : ℕ → Bool) → ((b : ℕ) → p b ≡ true → q b ≡ true) → (xs : List ℕ) → list_all p xs ≡ true → list_all q xs ≡ true
all_pass p q f [] h = refl
all_pass p q f (x ∷ xs) h =
    let r = both (p x) (list_all p xs) h in
    and_true (q x) (list_all q xs) (f x r.0) (all_pass p q f xs r.1)

own : IsNumeralModel (λ ds. list_all is_ascii_digit ds ≡ true) (λ ds. decimal_value ds)
own = numerals_by_fold _ (search rules) (λ (n : ℕ) (ds : List ℕ). fold (λ (m b : ℕ). 10 * m + (b - 48)) n ds) (search rules)

pub decimal_digits : (n : ℕ) → n < 2 ^ 64 → list_all is_ascii_digit (decimal n) ≡ true
decimal_digits n h = digits_decimal own n h

pub number_of_decimal : (n : ℕ) → n < 2 ^ 64 → number_of (decimal n) ≡ Some n
number_of_decimal n h =
    ap (λ (test : Bool). cond test (Some (decimal_value (decimal n))) None) (decimal_digits n h)
    ∙ ap (λ (m : ℕ). Some m) (digits_value-decimal own n h)

digit_no_space : (b : ℕ) → is_ascii_digit b ≡ true → not (b == 32) ≡ true
digit_no_space b h = grind (arith, nat_tests)

digit_printed : (b : ℕ) → is_ascii_digit b ≡ true → is_printed b ≡ true
digit_printed b h = grind (arith, nat_tests)

some_is_word : (n : ℕ) → 0 < n → not (n == 0) ≡ true
some_is_word n h = grind (arith, nat_tests)

pub decimal_word : (n : ℕ) → n < 2 ^ 64 → IsWord (decimal n)
decimal_word n h = record {
  some = some_is_word (length (decimal n)) (decimal_nonempty n h);
  no_space = all_pass is_ascii_digit (λ (b : ℕ). not (b == 32)) digit_no_space (decimal n) (decimal_digits n h);
}

pub decimal_printed : (n : ℕ) → n < 2 ^ 64 → list_all is_printed (decimal n) ≡ true
decimal_printed n h = all_pass is_ascii_digit is_printed digit_printed (decimal n) (decimal_digits n h)

letter_no_space : (n : ℕ) → not ((97 + n) == 32) ≡ true
letter_no_space n = grind (arith, nat_tests)

pub letter_word : (n : ℕ) → IsWord (letter n)
letter_word n = record { some = refl; no_space = and_true (not ((97 + n) == 32)) true (letter_no_space n) refl }

pub letter_printed : (n : ℕ) → n < 8 → is_printed (97 + n) ≡ true
letter_printed n h = grind (arith, nat_tests)

letter_first : (n : ℕ) → n < 8 → (nat_le 97 (97 + n) && nat_le (97 + n) 122) ≡ true
letter_first n h = grind (arith, nat_tests)

pub letter_name : (n : ℕ) → n < 8 → is_name (letter n) ≡ true
letter_name n h = and_true _ true (letter_first n h) refl

-- where a name is wanted
pub named_letter : (n : ℕ) (s : Statement) → n < 8 → named (letter n) s ≡ s
named_letter n s h = ap (λ (test : Bool). cond test s Wrong) (letter_name n h)

-- where a number is wanted
pub numbered_decimal : (n : ℕ) (s : ℕ → Statement) → n < 2 ^ 64 → with_number (number_of (decimal n)) s ≡ s n
numbered_decimal n s h = ap (λ (o : Option ℕ). with_number o s) (number_of_decimal n h)
