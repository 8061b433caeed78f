-- The text has only bytes of a script, and is short enough for one.
use Rattle.std.proofs.Common.{◌≡◌, ℕ, ◌+◌, ◌*◌, ◌/◌, ◌%◌, ◌^◌, ◌<◌, ◌≤◌, zero, suc, List, ◌∷◌, ◌++◌, length, refl, sym, ◌∙◌, subst, cond, Bool, true, false, arith, codes, decimal, length-append}
use Rattle.std.proofs.lemmas.Bool.Decides.{nat_tests}
use Rattle.std.proofs.lemmas.Fmt.{decimal_digit, length-decimal-le}
use Rattle.std.proofs.lemmas.List.Folds.{list_all-append}
use Rattle.std.specs.Prelude.{not, ◌&&◌, ◌==◌, nat_lt, Some, None}
use Rattle.std.specs.List.{list_all}
use Rattle.gc_script.specs.ScriptText.{is_allowed}
use Rattle.gc_script.proofs.Bytes.{all_pass as all_end, none_foreign as no_foreign}
use Rattle.load_gen.proofs.Cut.{and_true, is_printed, all_pass, decimal_printed, letter_printed}
use Rattle.load_gen.specs.Generated.{letter, draw_of, drawn_text, state_after_line, generated_line, lines_text, last_state, generated_warehouses, generated}
use Rattle.load_gen.proofs.LineText.{by_test, chosen, below}
use Rattle.plain_heap.proofs.Found.{both}

-- the text of a line, without its LF
pub record IsShort (text : List ℕ) : Type 0 where
  pub printed : list_all is_printed text ≡ true
  pub short : length text ≤ 9

new_short : (v : ℕ) (digits : List ℕ) → v < 8 → list_all is_printed digits ≡ true → length digits ≤ 3 → IsShort (codes "new " ++ letter v ++ codes " " ++ digits)
new_short v digits h d l = record { printed = and_true (is_printed (97 + v)) (list_all is_printed digits) (letter_printed v h) d; short = omega arith }

two_letters : (v x : ℕ) → v < 8 → x < 8 → (is_printed (97 + v) && (is_printed (97 + x) && true)) ≡ true
two_letters v x h l = and_true (is_printed (97 + v)) _ (letter_printed v h) (and_true (is_printed (97 + x)) true (letter_printed x l) refl)

let_short : (v x : ℕ) → v < 8 → x < 8 → IsShort (codes "let " ++ letter v ++ codes " " ++ letter x)
let_short v x h l = record { printed = two_letters v x h l; short = omega arith }

one_letter : (v : ℕ) → v < 8 → (is_printed (97 + v) && true) ≡ true
one_letter v h = and_true (is_printed (97 + v)) true (letter_printed v h) refl

nil_short : (v : ℕ) → v < 8 → IsShort (codes "nil " ++ letter v)
nil_short v h = record { printed = one_letter v h; short = omega arith }

say_short : (v : ℕ) → v < 8 → IsShort (codes "say s " ++ letter v)
say_short v h = record { printed = one_letter v h; short = omega arith }

digit_printed : (i : ℕ) → i < 10 → is_printed (48 + i) ≡ true
digit_printed i h = grind (arith, nat_tests)

set_short : (v i x : ℕ) → v < 8 → i < 10 → x < 8 → IsShort (codes "set " ++ letter v ++ codes " " ++ decimal i ++ codes " " ++ letter x)
set_short v i x h k l =
    subst (λ (d : List ℕ). IsShort (codes "set " ++ letter v ++ codes " " ++ d ++ codes " " ++ letter x)) (sym (decimal_digit i k))
    (record { printed = and_true (is_printed (97 + v)) _ (letter_printed v h) (and_true (is_printed (48 + i)) _ (digit_printed i k) (one_letter x l)); short = omega arith })

get_short : (v x i : ℕ) → v < 8 → x < 8 → i < 10 → IsShort (codes "get " ++ letter v ++ codes " " ++ letter x ++ codes " " ++ decimal i)
get_short v x i h l k =
    subst (λ (d : List ℕ). IsShort (codes "get " ++ letter v ++ codes " " ++ letter x ++ codes " " ++ d)) (sym (decimal_digit i k))
    (record { printed = and_true (is_printed (97 + v)) _ (letter_printed v h) (and_true (is_printed (97 + x)) _ (letter_printed x l) (and_true (is_printed (48 + i)) true (digit_printed i k) refl)); short = omega arith })

drawn_short : (r : ℕ) → IsShort (drawn_text r)
drawn_short r =
    let a : (r / 8) % 8 < 8 = omega arith in
    let b : (r / 64) % 8 < 8 = omega arith in
    let c : (r / 512) % 4 < 10 = omega arith in
    let d : (r / 2048) % 1000 < 1000 = omega arith in
    let e : (r / 2048) % 1000 < 2 ^ 64 = omega (arith, d) in
    chosen IsShort (nat_lt (r % 8) 3) _ _ (new_short ((r / 8) % 8) (decimal ((r / 2048) % 1000)) a (decimal_printed ((r / 2048) % 1000) e) (length-decimal-le 3 ((r / 2048) % 1000) (omega arith) d e))
    (chosen IsShort (r % 8 == 3) _ _ (let_short ((r / 8) % 8) ((r / 64) % 8) a b)
    (chosen IsShort (r % 8 == 7) _ _ (get_short ((r / 8) % 8) ((r / 64) % 8) ((r / 512) % 4) a b c)
    (set_short ((r / 8) % 8) ((r / 512) % 4) ((r / 64) % 8) a c b)))

late_short : (prints : Bool) (state : ℕ) → IsShort (cond prints (codes "say s " ++ letter (draw_of state % 8)) (drawn_text (draw_of state)))
late_short true state = say_short (draw_of state % 8) (omega arith)
late_short false state = drawn_short (draw_of state)

pub line_short : (k state : ℕ) → IsShort (generated_line k state)
line_short k state =
    by_test (λ (t : Bool). IsShort (cond t (codes "nil " ++ letter k) (cond (k == 63) (codes "say s " ++ letter (draw_of state % 8)) (drawn_text (draw_of state))))) (nat_lt k 8) (λ e. nil_short k (below k 8 e))
    (λ _. late_short (k == 63) state)

printed_allowed : (b : ℕ) → is_printed b ≡ true → is_allowed b ≡ true
printed_allowed b h = grind (arith, nat_tests)

printed_no_end : (b : ℕ) → is_printed b ≡ true → not (b == 10) ≡ true
printed_no_end b h = grind (arith, nat_tests)

-- it has no LF
pub line_no_end : (k state : ℕ) → list_all (λ (b : ℕ). not (b == 10)) (generated_line k state) ≡ true
line_no_end k state = all_pass is_printed (λ (b : ℕ). not (b == 10)) printed_no_end (generated_line k state) (line_short k state).printed

-- bytes that a script may have, and this many at most
pub record IsSource (text : List ℕ) (most : ℕ) : Type 0 where
  pub allowed : list_all is_allowed text ≡ true
  pub short : length text ≤ most

joined : (a b : List ℕ) (m n k : ℕ) → m + n ≤ k → IsSource a m → IsSource b n → IsSource (a ++ b) k
joined a b m n k l p q =
    let long : length (a ++ b) ≡ length a + length b = length-append a b in
    record { allowed = list_all-append is_allowed a b ∙ and_true (list_all is_allowed a) (list_all is_allowed b) p.allowed q.allowed; short = omega (arith, p.short, q.short, long, l) }

lines_source : (more j state : ℕ) → IsSource (lines_text more j state) (10 * more)
lines_source zero j state = record { allowed = refl; short = omega arith }
lines_source (suc more) j state =
    let after : ℕ = state_after_line (j % 64) state in
    let line : List ℕ = generated_line (j % 64) after in
    let short : IsShort line = line_short (j % 64) after in
    let own : IsSource line 9 = record { allowed = all_pass is_printed is_allowed printed_allowed line short.printed; short = short.short } in
    let end : IsSource (codes "\n") 1 = record { allowed = refl; short = omega arith } in
    joined (line ++ codes "\n") (lines_text more (j + 1) after) 10 (10 * more) (10 * suc more) (omega arith) (joined line (codes "\n") 9 1 10 (omega arith) own end) (lines_source more (j + 1) after)

warehouses_source : (n size state : ℕ) → size ≤ 20000 → IsSource (generated_warehouses n size state) (200010 * n)
warehouses_source zero size state h = record { allowed = refl; short = omega arith }
warehouses_source (suc n) size state h =
    let head : IsSource (codes "warehouse\n") 10 = record { allowed = refl; short = omega arith } in
    joined (codes "warehouse\n" ++ lines_text size 0 state) (generated_warehouses n size (last_state size 0 state)) 200010 (200010 * n) (200010 * suc n) (omega arith)
    (joined (codes "warehouse\n") (lines_text size 0 state) 10 (10 * size) 200010 (omega (arith, h)) head (lines_source size 0 state)) (warehouses_source n size (last_state size 0 state) h)

pub generated_source : (number size : ℕ) → size ≤ 20000 → IsSource (generated number size) 800051
generated_source number size h =
    let head : IsSource (codes "gcscript 1\n") 11 = record { allowed = refl; short = omega arith } in
    joined (codes "gcscript 1\n") (generated_warehouses 4 size number) 11 800040 800051 (omega arith) head (warehouses_source 4 size number h)

none_from : (k n : ℕ) → k ≡ n → cond (nat_lt k n) (Some k) None ≡ None
none_from k n e = grind (arith, nat_tests)
