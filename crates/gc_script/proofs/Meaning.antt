-- A conversion means what its source does.
use Rattle.std.proofs.Common.{◌≡◌, ℕ, ◌+◌, ◌-◌, ◌≤◌, ◌<◌, zero, suc, List, [], ◌∷◌, ◌++◌, length, get_or, take, drop, map, refl, ap, sym, ◌∙◌, subst, cond, inl, inr, Bool, true, false, arith, codes, lit≤}
use Rattle.std.proofs.lemmas.Bool.Decides.{nat_tests}
use Rattle.std.proofs.lemmas.List.{drop_all}
use Rattle.std.proofs.lemmas.List.Elements.{All-from_get_or}
use Rattle.std.proofs.lemmas.List.Sums.{fails_before_first}
use Rattle.std.proofs.lemmas.List.Splits.{slice_split_first, slice_split_none}
use Rattle.std.specs.Prelude.{not, nat_lt, Option, Some, None, Result, Ok, Err, ◌==◌, ◌⊎◌}
use Rattle.std.specs.List.{All, position_or_len, slice_split, onto_first, before_first, after_first}
use Rattle.gc_script.specs.ScriptText.{is_allowed, first_foreign, lines, words, without_empty_last}
use Rattle.gc_script.specs.Statement.{Fields, statement, header}
use Rattle.gc_script.specs.Faults.{Fault, TooLong}
use Rattle.gc_script.specs.Script.{Script, script, of_text, of_lines, of_version, body, ScriptsMean}
use Rattle.gc_script.specs.Convert.{Conversion, added_lines, converted_text, if_short, converted, without_lines, KeepsMeaning}
use Rattle.gc_script.proofs.SameMeaning.{body_same, body_ok, IsScript}
use Rattle.gc_script.specs.Meaning.{Means}
use Rattle.gc_script.proofs.Bytes.{none_is}

header_two : header (words (codes "gcscript 2")) ≡ Some 2
header_two = refl

fields_four : statement (words (codes "fields 4")) ≡ Fields 4
fields_four = refl

-- the last piece, if it is empty, is left out
abbrev without_last : ℕ → List (List ℕ) → List (List ℕ)
without_last n pieces = cond (length (get_or pieces n []) == 0) (take n pieces) pieces

cond_cons : (b : Bool) (a : List ℕ) (x y : List (List ℕ)) → cond b (a ∷ x) (a ∷ y) ≡ a ∷ cond b x y
cond_cons true a x y = refl
cond_cons false a x y = refl

without_last_cons : (n : ℕ) (a : List ℕ) (pieces : List (List ℕ)) → without_last (suc n) (a ∷ pieces) ≡ a ∷ without_last n pieces
without_last_cons n a pieces = cond_cons (length (get_or pieces n []) == 0) a (take n pieces) pieces

less_one : (n : ℕ) → suc n - 1 ≡ n
less_one n = omega arith

more_pieces : (a p : List ℕ) (ps : List (List ℕ)) → without_empty_last (a ∷ p ∷ ps) ≡ a ∷ without_empty_last (p ∷ ps)
more_pieces a p ps =
    ap (λ (n : ℕ). without_last n (a ∷ p ∷ ps)) (less_one (suc (length ps)))
    ∙ without_last_cons (length ps) a (p ∷ ps)
    ∙ ap (λ (n : ℕ). a ∷ without_last n (p ∷ ps)) (sym (less_one (length ps)))

-- a split has a piece at least
more_split : (a : List ℕ) (pieces : List (List ℕ)) (p : ℕ → Bool) (xs : List ℕ) → pieces ≡ slice_split p xs → without_empty_last (a ∷ pieces) ≡ a ∷ without_empty_last pieces
more_split a [] p xs e = absurd (no_piece xs e)
  where
    no_front : (x : ℕ) (l : List (List ℕ)) → [] ≡ onto_first x l → ⊥
    no_front x [] h = cc
    no_front x (q ∷ qs) h = cc

    no_cond : (b : Bool) (x : ℕ) (l : List (List ℕ)) → [] ≡ cond b ([] ∷ l) (onto_first x l) → ⊥
    no_cond true x l h = cc
    no_cond false x l h = no_front x l h

    no_piece : (ys : List ℕ) → [] ≡ slice_split p ys → ⊥
    no_piece [] h = cc
    no_piece (y ∷ ys) h = no_cond (p y) y (slice_split p ys) h
more_split a (q ∷ qs) p xs e = more_pieces a q qs

abbrev split : List ℕ → List (List ℕ)
split bytes = slice_split (λ (b : ℕ). b == 10) bytes

abbrev rest_of : List ℕ → List ℕ
rest_of bytes = after_first (λ (b : ℕ). b == 10) bytes

added_text : (rest : List ℕ) → lines (added_lines ++ rest) ≡ codes "gcscript 2" ∷ codes "fields 4" ∷ lines rest
added_text rest =
    more_pieces (codes "gcscript 2") (codes "fields 4") (split rest)
    ∙ ap (λ (l : List (List ℕ)). codes "gcscript 2" ∷ l) (more_split (codes "fields 4") (split rest) (λ (b : ℕ). b == 10) rest refl)

-- the lines of a source: its first one, and those of the rest
with_feed : (bytes : List ℕ) → position_or_len (λ (b : ℕ). b == 10) bytes < length bytes → lines bytes ≡ before_first (λ (b : ℕ). b == 10) bytes ∷ lines (rest_of bytes)
with_feed bytes h =
    ap without_empty_last (slice_split_first (λ (b : ℕ). b == 10) bytes 0 h)
    ∙ more_split (before_first (λ (b : ℕ). b == 10) bytes) (split (rest_of bytes)) (λ (b : ℕ). b == 10) (rest_of bytes) refl

-- without a line feed the source is its first line, if it is not empty
without_feed : (bytes : List ℕ) → length bytes ≤ position_or_len (λ (b : ℕ). b == 10) bytes → (lines bytes ≡ []) ⊎ (lines bytes ≡ bytes ∷ lines (rest_of bytes))
without_feed bytes h =
    let none : All (λ (b : ℕ). (b == 10) ≡ false) bytes = All-from_get_or (λ (b : ℕ). (b == 10) ≡ false) bytes 0 (λ i l. fails_before_first (λ (b : ℕ). b == 10) bytes i 0 (omega arith)) in
    let alone : lines bytes ≡ without_empty_last (bytes ∷ []) = ap without_empty_last (slice_split_none (λ (b : ℕ). b == 10) bytes none) in
    let over : rest_of bytes ≡ [] = drop_all (position_or_len (λ (b : ℕ). b == 10) bytes + 1) bytes (omega arith) in
    by_test (length bytes == 0) alone (ap lines over)
  where
    by_test : (b : Bool) → lines bytes ≡ cond b [] (bytes ∷ []) → lines (rest_of bytes) ≡ [] → (lines bytes ≡ []) ⊎ (lines bytes ≡ bytes ∷ lines (rest_of bytes))
    by_test true e f = inl e
    by_test false e f = inr (e ∙ ap (λ (l : List (List ℕ)). bytes ∷ l) (sym f))

-- a source has no line, or its first one and those of the rest
parted : (bytes : List ℕ) → (lines bytes ≡ []) ⊎ ((first : List ℕ) × (lines bytes ≡ first ∷ lines (rest_of bytes)))
parted bytes = by_end (nat_lt (position_or_len (λ (b : ℕ). b == 10) bytes) (length bytes)) refl
  where
    by_either : (lines bytes ≡ []) ⊎ (lines bytes ≡ bytes ∷ lines (rest_of bytes)) → (lines bytes ≡ []) ⊎ ((first : List ℕ) × (lines bytes ≡ first ∷ lines (rest_of bytes)))
    by_either (inl e) = inl e
    by_either (inr e) = inr (bytes, e)

    by_end : (b : Bool) → nat_lt (position_or_len (λ (b : ℕ). b == 10) bytes) (length bytes) ≡ b → (lines bytes ≡ []) ⊎ ((first : List ℕ) × (lines bytes ≡ first ∷ lines (rest_of bytes)))
    by_end true e = inr (before_first (λ (b : ℕ). b == 10) bytes, with_feed bytes (grind (arith, nat_tests)))
    by_end false e = by_either (without_feed bytes (grind (arith, nat_tests)))

none_from : (k n : ℕ) → n ≤ k → cond (nat_lt k n) (Some k) None ≡ None
none_from k n h = grind (arith, nat_tests)

-- what holds of no element holds of none of a rest
tail_fails : (b : Bool) (n k : ℕ) → suc n ≤ cond (not b) (1 + k) 0 → n ≤ k
tail_fails true n k h = absurd (omega arith)
tail_fails false n k h = omega arith

dropped_fails : (p : ℕ → Bool) (xs : List ℕ) (n : ℕ) → length xs ≤ position_or_len p xs → length (drop n xs) ≤ position_or_len p (drop n xs)
dropped_fails p [] zero h = h
dropped_fails p [] (suc n) h = h
dropped_fails p (x ∷ xs) zero h = h
dropped_fails p (x ∷ xs) (suc n) h = dropped_fails p xs n (tail_fails (p x) (length xs) (position_or_len p xs) h)

more_fails : (b : Bool) (l m n k : ℕ) → suc l ≤ cond (not b) (1 + m) 0 → (l ≤ m → n ≤ k) → suc n ≤ cond (not b) (1 + k) 0
more_fails true l m n k h f = absurd (omega arith)
more_fails false l m n k h f = let g = f (omega arith) in omega arith

joined_fails : (p : ℕ → Bool) (xs ys : List ℕ) → length xs ≤ position_or_len p xs → length ys ≤ position_or_len p ys → length (xs ++ ys) ≤ position_or_len p (xs ++ ys)
joined_fails p [] ys h k = k
joined_fails p (x ∷ xs) ys h k = more_fails (p x) (length xs) (position_or_len p xs) (length (xs ++ ys)) (position_or_len p (xs ++ ys)) h (λ g. joined_fails p xs ys g k)

-- the text of a conversion has no foreign byte
text_allowed : (bytes : List ℕ) (n : ℕ) → first_foreign bytes ≡ None → first_foreign (added_lines ++ drop n bytes) ≡ None
text_allowed bytes n h =
    let added : length added_lines ≤ position_or_len (λ b. not (is_allowed b)) added_lines = lit≤ tt in
    none_from _ _ (joined_fails (λ b. not (is_allowed b)) added_lines (drop n bytes) added (dropped_fails (λ b. not (is_allowed b)) bytes n (none_is _ _ h)))

pub text_ok : (bytes : List ℕ) (s : Script) (b : Bool) (o : Option ℕ) → cond b (Err TooLong) (of_text o bytes) ≡ Ok s → (o ≡ None) × (of_lines (map words (lines bytes)) ≡ Ok s)
text_ok bytes s true o h = cc
text_ok bytes s false None h = (refl, h)
text_ok bytes s false (Some offset) h = cc

pub version_ok : (v : Option ℕ) (others : List (List (List ℕ))) (s : Script) → of_version v others ≡ Ok s → (n : ℕ) × (v ≡ Some n) × (body n (map statement others) ≡ Ok s)
version_ok None others s h = cc
version_ok (Some n) others s h = (n, refl, h)

short_ok : (x c : Conversion) (b : Bool) → cond b (Err Rattle.gc_script.specs.Faults.ConvertedTooLong) (Ok x) ≡ Ok c → (x ≡ c) × (b ≡ false)
short_ok x c true h = cc
short_ok x c false h = (cc, refl)

is_one : (n : ℕ) → (n == 1) ≡ true → n ≡ 1
is_one n e = grind (arith, nat_tests)

abbrev Kept : Script → List ℕ → Type 0
Kept s text = (t : Script) × (script text ≡ Ok t) × (without_lines t.sections ≡ without_lines s.sections)

-- a script of version 1 has a script of version 2 with the same commands: a header and the number of fields stand before its lines
body_kept : (others : List (List (List ℕ))) (n : ℕ) (s : Script) → body n (map statement others) ≡ Ok s → (s.version == 1) ≡ true → (t : Script) × (body 2 (Fields 4 ∷ map statement others) ≡ Ok t) × (without_lines t.sections ≡ without_lines s.sections)
body_kept others n s h e =
    let k : IsScript n (map statement others) s = body_ok n (map statement others) s h in
    let one : n ≡ 1 = is_one n (ap (λ (z : Script). z.version == 1) (sym k.same) ∙ e) in
    body_same (map statement others) s (ap (λ (m : ℕ). body m (map statement others)) (sym one) ∙ h)

lines_kept : (first : List ℕ) (rest : List (List ℕ)) (s : Script) → of_lines (map words (first ∷ rest)) ≡ Ok s → (s.version == 1) ≡ true
    → (t : Script) × (of_lines (map words (codes "gcscript 2" ∷ codes "fields 4" ∷ rest)) ≡ Ok t) × (without_lines t.sections ≡ without_lines s.sections)
lines_kept first rest s h e =
    let v = version_ok (header (words first)) (map words rest) s h in
    let k = body_kept (map words rest) v.0 s v.2 e in
    (k.0, k.1, k.2)

first_kept : (bytes : List ℕ) (s : Script) → of_lines (map words (lines bytes)) ≡ Ok s → (s.version == 1) ≡ true → (lines bytes ≡ []) ⊎ ((first : List ℕ) × (lines bytes ≡ first ∷ lines (rest_of bytes)))
    → (t : Script) × (of_lines (map words (codes "gcscript 2" ∷ codes "fields 4" ∷ lines (rest_of bytes))) ≡ Ok t) × (without_lines t.sections ≡ without_lines s.sections)
first_kept bytes s h e (inl none) = absurd (let g = ap (λ (l : List (List ℕ)). of_lines (map words l)) (sym none) ∙ h in cc)
first_kept bytes s h e (inr some) = lines_kept some.0 (lines (rest_of bytes)) s (ap (λ (l : List (List ℕ)). of_lines (map words l)) (sym some.1) ∙ h) e

text_kept : (bytes : List ℕ) (s : Script) → script bytes ≡ Ok s → (s.version == 1) ≡ true → nat_lt 1048576 (length (added_lines ++ rest_of bytes)) ≡ false → Kept s (added_lines ++ rest_of bytes)
text_kept bytes s h e short =
    let ok = text_ok bytes s (nat_lt 1048576 (length bytes)) (first_foreign bytes) h in
    let k = first_kept bytes s ok.1 e (parted bytes) in
    let text : List ℕ = added_lines ++ rest_of bytes in (
      k.0,
      ap (λ (b : Bool). cond b (Err TooLong) (of_text (first_foreign text) text)) short
          ∙ ap (λ (o : Option ℕ). of_text o text) (text_allowed bytes (position_or_len (λ (b : ℕ). b == 10) bytes + 1) ok.0)
          ∙ ap (λ (l : List (List ℕ)). of_lines (map words l)) (added_text (rest_of bytes))
          ∙ k.1,
      k.2,
    )

by_version : (bytes : List ℕ) (c : Conversion) (s : Script) (b : Bool) → (s.version == 1) ≡ b → script bytes ≡ Ok s
    → if_short (cond b (record { added = true; rest = rest_of bytes }) (record { added = false; rest = bytes })) ≡ Ok c → Kept s (converted_text c)
by_version bytes c s true e h k =
    let ok = short_ok (record { added = true; rest = rest_of bytes }) c _ k in
    subst (λ (x : Conversion). Kept s (converted_text x)) ok.0 (text_kept bytes s h e ok.1)
by_version bytes c s false e h k =
    let ok = short_ok (record { added = false; rest = bytes }) c _ k in
    subst (λ (x : Conversion). Kept s (converted_text x)) ok.0 (s, h, refl)

pub keeps_meaning : KeepsMeaning
keeps_meaning bytes c s k h =
    let made : converted (Ok s) bytes ≡ Ok c = ap (λ (r : Result Script Fault). converted r bytes) (sym h) ∙ k in
    by_version bytes c s (s.version == 1) refl h made

-- A script without a fault means its sections.
lines_mean : (bytes : List ℕ) (all : List (List (List ℕ))) (s : Script) → map words (lines bytes) ≡ all → of_lines all ≡ Ok s → Means bytes s.sections
lines_mean bytes [] s is h = cc
lines_mean bytes (first ∷ others) s is h =
    let v = version_ok (header first) others s h in
    let whole : IsScript v.0 (map statement others) s = body_ok v.0 (map statement others) s v.2 in
    record {
      version = v.0;
      first = first;
      others = others;
      lines = is;
      headed = v.1;
      sections = ap (λ (z : Script). z.sections) whole.same;
    }

pub scripts-mean : ScriptsMean
scripts-mean bytes s h =
    let text = text_ok bytes s (nat_lt 1048576 (length bytes)) (first_foreign bytes) h in
    lines_mean bytes (map words (lines bytes)) s refl text.1

pub ruleset meaning_rules = (scripts-mean)
