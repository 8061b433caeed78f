-- What each line of a warehouse says.
use Rattle.std.proofs.Common.{◌≡◌, ℕ, ◌+◌, ◌/◌, ◌%◌, ◌^◌, ◌<◌, ◌≤◌, List, [], ◌∷◌, ◌++◌, refl, ap, sym, ◌∙◌, subst, cond, Bool, true, false, arith, codes, decimal}
use Rattle.std.proofs.lemmas.Bool.Decides.{nat_tests}
use Rattle.std.proofs.lemmas.Fmt.{decimal_digit}
use Rattle.std.specs.Prelude.{◌&&◌, ◌==◌, nat_le, nat_lt, Some}
use Rattle.std.specs.List.{list_all}
use Rattle.plain_heap.specs.declared.operation.Op.TheVariants as ops
use Rattle.gc_script.specs.ScriptText.{words, number_of}
use Rattle.gc_script.specs.Statement.{Spoken, NewOf, LetOf, NilOf, SetOf, GetOf, SayOf, Statement, Command, with_number, statement}
use Rattle.gc_script.specs.Earlier.{place, has_name, with_name, names_read, reads_of_catalogue, assigns, is_too_large, is_printing}
use Rattle.gc_script.specs.Script.{operation}
use Rattle.load_gen.proofs.Cut.{and_true, IsWord, two_words, three_words, four_words, decimal_word, letter_word, named_letter, numbered_decimal}
use Rattle.load_gen.specs.Generated.{letter, draw_of, drawn_text, generated_line}
use Rattle.load_gen.proofs.Known.{Knows, is_known, place_is, place_below, first_place, knows_more, first_letter, later_letter}
use Rattle.load_gen.proofs.Blocks.{IsStep}

-- Two cases of a test.
-- what holds whether or not the test passes
pub by_test : (P : Bool → Type 0) (test : Bool) → (test ≡ true → P true) → (test ≡ false → P false) → P test
by_test P true f g = f refl
by_test P false f g = g refl

-- what holds of either text holds of the one that is chosen
pub chosen : (P : List ℕ → Type 0) (test : Bool) (x y : List ℕ) → P x → P y → P (cond test x y)
chosen P test x y f g = by_test (λ (t : Bool). P (cond t x y)) test (λ _. f) (λ _. g)

pub below : (a b : ℕ) → nat_lt a b ≡ true → a < b
below a b e = grind (arith, nat_tests)

pub not_below : (a b : ℕ) → nat_lt a b ≡ false → b ≤ a
not_below a b e = grind (arith, nat_tests)

new_is : (v n : ℕ) → v < 8 → n < 2 ^ 64 → statement (words (codes "new " ++ letter v ++ codes " " ++ decimal n)) ≡ Command (NewOf (letter v) n)
new_is v n h l =
    ap statement (three_words (codes "new") (letter v) (decimal n) (record { some = refl; no_space = refl }) (letter_word v) (decimal_word n l))
    ∙ named_letter v _ h ∙ numbered_decimal n (λ (n : ℕ). Command (NewOf (letter v) n)) l

let_is : (v x : ℕ) → v < 8 → x < 8 → statement (words (codes "let " ++ letter v ++ codes " " ++ letter x)) ≡ Command (LetOf (letter v) (letter x))
let_is v x h l =
    ap statement (three_words (codes "let") (letter v) (letter x) (record { some = refl; no_space = refl }) (letter_word v) (letter_word x))
    ∙ named_letter v _ h ∙ named_letter x _ l

nil_is : (v : ℕ) → v < 8 → statement (words (codes "nil " ++ letter v)) ≡ Command (NilOf (letter v))
nil_is v h = ap statement (two_words (codes "nil") (letter v) (record { some = refl; no_space = refl }) (letter_word v)) ∙ named_letter v _ h

say_is : (v : ℕ) → v < 8 → statement (words (codes "say s " ++ letter v)) ≡ Command (SayOf (codes "s") (letter v))
say_is v h =
    ap statement (three_words (codes "say") (codes "s") (letter v) (record { some = refl; no_space = refl }) (record { some = refl; no_space = refl }) (letter_word v))
    ∙ named_letter v _ h

-- a number of one digit
digit_is : (i : ℕ) (s : ℕ → Statement) → i < 10 → with_number (number_of ((48 + i) ∷ [])) s ≡ s i
digit_is i s h = ap (λ (w : List ℕ). with_number (number_of w) s) (sym (decimal_digit i h)) ∙ numbered_decimal i s (omega arith)

digit_word : (i : ℕ) → i < 10 → IsWord ((48 + i) ∷ [])
digit_word i h = subst IsWord (decimal_digit i h) (decimal_word i (omega arith))

set_is : (v i x : ℕ) → v < 8 → i < 10 → x < 8 → statement (words (codes "set " ++ letter v ++ codes " " ++ decimal i ++ codes " " ++ letter x)) ≡ Command (SetOf (letter v) i (letter x))
set_is v i x h k l =
    ap (λ (d : List ℕ). statement (words (codes "set " ++ letter v ++ codes " " ++ d ++ codes " " ++ letter x))) (decimal_digit i k)
    ∙ ap statement (four_words (codes "set") (letter v) ((48 + i) ∷ []) (letter x) (record { some = refl; no_space = refl }) (letter_word v) (digit_word i k) (letter_word x))
    ∙ named_letter v _ h ∙ named_letter x _ l ∙ digit_is i (λ (n : ℕ). Command (SetOf (letter v) n (letter x))) k

get_is : (v x i : ℕ) → v < 8 → x < 8 → i < 10 → statement (words (codes "get " ++ letter v ++ codes " " ++ letter x ++ codes " " ++ decimal i)) ≡ Command (GetOf (letter v) (letter x) i)
get_is v x i h l k =
    ap (λ (d : List ℕ). statement (words (codes "get " ++ letter v ++ codes " " ++ letter x ++ codes " " ++ d))) (decimal_digit i k)
    ∙ ap statement (four_words (codes "get") (letter v) (letter x) ((48 + i) ∷ []) (record { some = refl; no_space = refl }) (letter_word v) (letter_word x) (digit_word i k))
    ∙ named_letter v _ h ∙ named_letter x _ l ∙ digit_is i (λ (n : ℕ). Command (GetOf (letter v) (letter x) n)) k

-- a command that may stand on line j of a warehouse, after these names, whose numbers its operation has; it prints or not
pub record MayStand (names : List (List ℕ)) (j : ℕ) (prints : Bool) (spoken : Spoken) : Type 0 where
  pub small : is_too_large 4 spoken ≡ false
  pub known : list_all (λ name. has_name name names) (names_read spoken) ≡ true
  pub catalogue : reads_of_catalogue spoken ≡ []
  pub after : Knows (with_name (assigns spoken) names) (j + 1)
  pub printing : is_printing spoken ≡ prints
  pub step : (catalogue : List ℕ → ℕ) → IsStep (j % 64) (operation (place names) catalogue spoken)

-- the words of a line say a command, which may stand there
pub record IsLine (names : List (List ℕ)) (j : ℕ) (prints : Bool) (text : List ℕ) : Type 0 where
  pub spoken : Spoken
  pub says : statement (words text) ≡ Command spoken
  pub stands : MayStand names j prints spoken

reads_one : (names : List (List ℕ)) (j x : ℕ) → 8 ≤ j → x < 8 → Knows names j → (has_name (letter x) names && true) ≡ true
reads_one names j x l h k = and_true _ true (is_known names j x l h k) refl

-- a line past the first eight of its block is past the first eight of the warehouse
past : (j : ℕ) → 8 ≤ j % 64 → 8 ≤ j
past j l = omega (arith, l)

new_line : (names : List (List ℕ)) (j v n : ℕ) → 8 ≤ j % 64 → j % 64 < 63 → v < 8 → n < 1000 → Knows names j → IsLine names j false (codes "new " ++ letter v ++ codes " " ++ decimal n)
new_line names j v n l o h m k = record {
  spoken = NewOf (letter v) n;
  says = new_is v n h (omega (arith, m));
  stands = record { small = not_above n m; known = refl; catalogue = refl; after = later_letter names j v (past j l) h k; printing = refl; step = λ _. (l, o, place_below names j v (past j l) h k) };
}
  where
    not_above : (n : ℕ) → n < 1000 → nat_lt 4294967295 n ≡ false
    not_above n h = grind (arith, nat_tests)

let_line : (names : List (List ℕ)) (j v x : ℕ) → 8 ≤ j % 64 → v < 8 → x < 8 → Knows names j → IsLine names j false (codes "let " ++ letter v ++ codes " " ++ letter x)
let_line names j v x l h m k = record {
  spoken = LetOf (letter v) (letter x);
  says = let_is v x h m;
  stands = record { small = refl; known = reads_one names j x (past j l) m k; catalogue = refl; after = later_letter names j v (past j l) h k; printing = refl; step = λ _. (l, place_below names j v (past j l) h k) };
}

not_past : (i : ℕ) → i < 4 → nat_le 4 i ≡ false
not_past i h = grind (arith, nat_tests)

set_line : (names : List (List ℕ)) (j v i x : ℕ) → 8 ≤ j % 64 → v < 8 → i < 4 → x < 8 → Knows names j → IsLine names j false (codes "set " ++ letter v ++ codes " " ++ decimal i ++ codes " " ++ letter x)
set_line names j v i x l h m n k = record {
  spoken = SetOf (letter v) i (letter x);
  says = set_is v i x h (omega (arith, m)) n;
  stands = record {
    small = not_past i m;
    known = and_true _ _ (is_known names j v (past j l) h k) (reads_one names j x (past j l) n k);
    catalogue = refl;
    after = knows_more names j (past j l) k;
    printing = refl;
    step = λ _. l;
  };
}

get_line : (names : List (List ℕ)) (j v x i : ℕ) → 8 ≤ j % 64 → v < 8 → x < 8 → i < 4 → Knows names j → IsLine names j false (codes "get " ++ letter v ++ codes " " ++ letter x ++ codes " " ++ decimal i)
get_line names j v x i l h m n k = record {
  spoken = GetOf (letter v) (letter x) i;
  says = get_is v x i h m (omega (arith, n));
  stands = record {
    small = not_past i n;
    known = reads_one names j x (past j l) m k;
    catalogue = refl;
    after = later_letter names j v (past j l) h k;
    printing = refl;
    step = λ _. (l, place_below names j v (past j l) h k);
  };
}

say_line : (names : List (List ℕ)) (j v : ℕ) → 8 ≤ j % 64 → v < 8 → Knows names j → IsLine names j true (codes "say s " ++ letter v)
say_line names j v l h k = record {
  spoken = SayOf (codes "s") (letter v);
  says = say_is v h;
  stands = record { small = refl; known = reads_one names j v (past j l) h k; catalogue = refl; after = knows_more names j (past j l) k; printing = refl; step = λ _. l };
}

nil_line : (names : List (List ℕ)) (j a : ℕ) → a < 8 → Knows (with_name (Some (letter a)) names) (j + 1) → IsStep (j % 64) (ops.Nil (place names (letter a))) → IsLine names j false (codes "nil " ++ letter a)
nil_line names j a h k s = record {
  spoken = NilOf (letter a);
  says = nil_is a h;
  stands = record { small = refl; known = refl; catalogue = refl; after = k; printing = refl; step = λ _. s };
}

drawn_line : (names : List (List ℕ)) (j r : ℕ) → 8 ≤ j % 64 → j % 64 < 63 → Knows names j → IsLine names j false (drawn_text r)
drawn_line names j r l o k =
    let P : List ℕ → Type 0 = IsLine names j false in
    let a : (r / 8) % 8 < 8 = omega arith in
    let b : (r / 64) % 8 < 8 = omega arith in
    let c : (r / 512) % 4 < 4 = omega arith in
    let d : (r / 2048) % 1000 < 1000 = omega arith in
    chosen P (nat_lt (r % 8) 3) _ _ (new_line names j ((r / 8) % 8) ((r / 2048) % 1000) l o a d k)
    (chosen P (r % 8 == 3) _ _ (let_line names j ((r / 8) % 8) ((r / 64) % 8) l a b k)
    (chosen P (r % 8 == 7) _ _ (get_line names j ((r / 8) % 8) ((r / 64) % 8) ((r / 512) % 4) l a b c k)
    (set_line names j ((r / 8) % 8) ((r / 512) % 4) ((r / 64) % 8) l a c b k)))

-- a line that prints, or is drawn
late_line : (names : List (List ℕ)) (j state : ℕ) (prints : Bool) → 8 ≤ j % 64 → (prints ≡ false → j % 64 < 63) → Knows names j → IsLine names j prints (cond prints (codes "say s " ++ letter (draw_of state % 8)) (drawn_text (draw_of state)))
late_line names j state true l o k = say_line names j (draw_of state % 8) l (omega arith) k
late_line names j state false l o k = drawn_line names j (draw_of state) l (o refl) k

-- a line of a block before the last one
before_last : (p : ℕ) → p < 64 → (p == 63) ≡ false → p < 63
before_last p l h = grind (arith, nat_tests)

no_last : (k : ℕ) → k < 8 → (k == 63) ≡ false
no_last k h = grind (arith, nat_tests)

-- the letter of its place, as a line of the first block or of a later one finds it
early_letter : (names : List (List ℕ)) (j : ℕ) → j % 64 < 8 → Knows names j → Knows (with_name (Some (letter (j % 64))) names) (j + 1) × (place names (letter (j % 64)) ≡ j % 64)
early_letter names j h k =
    by_test (λ _. Knows (with_name (Some (letter (j % 64))) names) (j + 1) × (place names (letter (j % 64)) ≡ j % 64)) (nat_lt j 8)
    (λ e. let low : j < 8 = below j 8 e in
    let same : j ≡ j % 64 = omega arith in
    subst (λ (a : ℕ). Knows (with_name (Some (letter a)) names) (j + 1) × (place names (letter a) ≡ a)) same (first_letter names j low k, first_place names j low k))
    (λ e. let high : 8 ≤ j = not_below j 8 e in (later_letter names j (j % 64) high h k, place_is names j (j % 64) high h k))

-- a line that sets the letter of its place to nil
early_line : (names : List (List ℕ)) (j : ℕ) → j % 64 < 8 → Knows names j → IsLine names j (j % 64 == 63) (codes "nil " ++ letter (j % 64))
early_line names j h k =
    let found = early_letter names j h k in
    subst (λ (t : Bool). IsLine names j t (codes "nil " ++ letter (j % 64))) (sym (no_last (j % 64) h)) (nil_line names j (j % 64) h found.0 (h, found.1))

-- line j of a warehouse
pub line_is : (names : List (List ℕ)) (j state : ℕ) → Knows names j → IsLine names j (j % 64 == 63) (generated_line (j % 64) state)
line_is names j state k =
    by_test
    (λ (t : Bool). IsLine names j (j % 64 == 63) (cond t (codes "nil " ++ letter (j % 64)) (cond (j % 64 == 63) (codes "say s " ++ letter (draw_of state % 8)) (drawn_text (draw_of state)))))
    (nat_lt (j % 64) 8) (λ e. early_line names j (below (j % 64) 8 e) k)
    (λ e. late_line names j state (j % 64 == 63) (not_below (j % 64) 8 e) (before_last (j % 64) (omega arith)) k)
