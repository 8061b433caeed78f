-- The parts of a section, and what is counted of them.
use Rattle.std.proofs.Common.{◌≡◌, ℕ, ◌≤◌, zero, suc, List, [], ◌∷◌, ◌++◌, length, map, get_or, take, drop, refl, ap, sym, ◌∙◌, min, arith, ◌+◌, ◌*◌, ◌<◌, Bool, true, cond}
use Rattle.std.proofs.lemmas.List.{length-append, take_more, append-nil}
use Rattle.std.proofs.lemmas.List.Elements.{All-nil, All-same, All-take, All-drop}
use Rattle.std.proofs.lemmas.List.Sums.{count_by-le-length, sum_by-append}
use Rattle.std.specs.List.{All, count_by, flat_map}
use Rattle.plain_heap.specs.Sections.{Execution, joined}
use Rattle.gc_script.specs.Blocks.{counts, part_shown}
use Rattle.gc_script.specs.Sectioned.{IsSmall, IsCounted}
use Rattle.gc_script.specs.declared.block.Part as part
use Rattle.gc_script.specs.declared.block.Kind.{Kind}
use Rattle.gc_script.specs.declared.block.Kind.TheVariants.{All as AllOf, Making, Printing}
use Rattle.std.proofs.lemmas.Bool.Decides.{nat_tests}
use Rattle.std.proofs.lemmas.List.Concat.{flat_map-append}
use Rattle.std.proofs.lemmas.List.Folds.{flat_map-map}
use Rattle.std.specs.Prelude.{◌==◌}
use Rattle.gc_script.specs.Script.{repeated}
use Rattle.gc_script.specs.Shown.{execution_of}
use Rattle.gc_script.specs.Content.{Content, settle}
use Rattle.gc_script.specs.declared.command.Command.{Command}

-- What is repeated, and how much of it is counted.
pub repeated_nothing : (n : ℕ) → repeated n [] ≡ []
repeated_nothing zero = refl
repeated_nothing (suc n) = repeated_nothing n

pub count_by-append : {X : Type 0} (test : X → Bool) (xs ys : List X) → count_by test (xs ++ ys) ≡ count_by test xs + count_by test ys
count_by-append test xs ys = sum_by-append (λ x. cond (test x) 1 0) xs ys

pub count_repeated : (test : Execution → Bool) (n : ℕ) (body : List Execution) → count_by test (repeated n body) ≡ n * count_by test body
count_repeated test zero body = omega arith
count_repeated test (suc n) body =
    let front = count_by-append test body (repeated n body) in
    let rest = count_repeated test n body in
    omega arith

-- one piece more is counted
pub count_more : {X : Type 0} (test : Execution → Bool) (f : X → List Execution) (xs : List X) (i : ℕ) (d : X) → i < length xs
    → count_by test (flat_map f (take (i + 1) xs)) ≡ count_by test (flat_map f (take i xs)) + count_by test (f (get_or xs i d))
count_more test f xs i d h =
    ap (λ ys. count_by test (flat_map f ys)) (take_more xs i d h)
    ∙ ap (count_by test) (flat_map-append f (take i xs) (get_or xs i d ∷ []))
    ∙ count_by-append test (flat_map f (take i xs)) (flat_map f (get_or xs i d ∷ []))
    ∙ ap (λ ys. count_by test (flat_map f (take i xs)) + count_by test ys) (append-nil (f (get_or xs i d)))

pub joined_map : {X : Type 0} (f : X → List Execution) (xs : List X) → joined (map f xs) ≡ flat_map f xs
joined_map f xs = flat_map-map (λ part. part) f xs

-- nothing is pending, and it is repeated
pub settle_nothing : (n : ℕ) (c : Content) (old new : List Command) → c.pending ≡ map execution_of old → (length old == 0) ≡ true → new ≡ []
    → record c { pending = map execution_of new } ≡ settle n c
settle_nothing n c [] new e t none =
    ap (λ (p : List Execution). record c { pending = p }) (ap (map execution_of) none)
    ∙ ap (λ (s : List Execution). record c { settled = s; pending = [] }) (sym (append-nil c.settled) ∙ ap (λ (r : List Execution). c.settled ++ r) (sym (repeated_nothing n) ∙ ap (repeated n) (sym e)))
settle_nothing n c (x ∷ old) new e t none = absurd (grind (arith, nat_tests))

pub counted_all : (es : List Execution) → count_by (counts AllOf) es ≡ length es
counted_all [] = refl
counted_all (e ∷ es) =
    let more = count_by-append (counts AllOf) (e ∷ []) es in
    let rest = counted_all es in
    omega arith

-- a count that was cut off at the greatest number is whole
exact : (kind : Kind) (slice items : List part.Part) (r : ℕ) → slice ≡ items → r ≡ min (count_by (counts kind) (joined (map part_shown slice))) 18446744073709551615 → length (joined (map part_shown items)) ≤ 2000000
    → r ≡ count_by (counts kind) (joined (map part_shown items))
exact kind slice items r e f few =
    let here = ap (λ (ps : List part.Part). count_by (counts kind) (joined (map part_shown ps))) e in
    let most = count_by-le-length (counts kind) (joined (map part_shown items)) in
    omega arith

pub counted : (fields : ℕ) (a b c items : List part.Part) (m n p : ℕ) → IsSmall fields (map part_shown items) → a ≡ items → b ≡ items → c ≡ items
    → m ≡ min (count_by (counts AllOf) (joined (map part_shown a))) 18446744073709551615
    → n ≡ min (count_by (counts Making) (joined (map part_shown b))) 18446744073709551615
    → p ≡ min (count_by (counts Printing) (joined (map part_shown c))) 18446744073709551615
    → IsCounted fields (map part_shown items) m n p
counted fields a b c items m n p h e f g i j k = record {
  small = h;
  executed_is = exact AllOf a items m e i h.few ∙ counted_all (joined (map part_shown items));
  made_is = exact Making b items n f j h.few;
  printed_is = exact Printing c items p g k h.few;
}

front : {X : Type 0} (xs ys : List X) → take (length xs) (xs ++ ys) ≡ xs
front [] ys = refl
front (x ∷ xs) ys = ap (λ l. x ∷ l) (front xs ys)

back : {X : Type 0} (xs ys : List X) → drop (length xs) (xs ++ ys) ≡ ys
back [] ys = refl
back (x ∷ xs) ys = back xs ys

-- what holds of all commands of a section holds of those of a part
pub piece_all : (P : Execution → Type 0) (parts : List (List Execution)) (k : ℕ) → All P (joined parts) → All P (get_or parts k [])
piece_all P [] k h = All-nil P
piece_all P (p ∷ ps) zero h = All-same P p _ (sym (front p (joined ps))) (All-take P (length p) (p ++ joined ps) h)
piece_all P (p ∷ ps) (suc k) h = piece_all P ps k (All-same P (joined ps) _ (sym (back p (joined ps))) (All-drop P (length p) (p ++ joined ps) h))

pub piece_few : (parts : List (List Execution)) (k : ℕ) → length (get_or parts k []) ≤ length (joined parts)
piece_few [] k = omega arith
piece_few (p ∷ ps) zero = omega (arith, length-append p (joined ps))
piece_few (p ∷ ps) (suc k) = let rest = piece_few ps k in omega (arith, length-append p (joined ps))
