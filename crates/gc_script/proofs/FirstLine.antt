-- The words of a text's first line, which are cut off at each space and at the line feed.
use Rattle.std.proofs.Common.{◌≡◌, ℕ, ◌+◌, ◌<◌, ◌≤◌, suc, List, [], ◌∷◌, length, take, drop, get_or, refl, ap, sym, ◌∙◌, subst, cond, Bool, true, false, arith, length-take}
use Rattle.std.proofs.lemmas.List.{take_all, drop_all, take-take, drop-take, drop-drop}
use Rattle.std.proofs.lemmas.Bool.Decides.{nat_tests}
use Rattle.std.proofs.lemmas.List.Sums.{passes_at_first}
use Rattle.std.specs.Prelude.{not, ◌||◌, ◌==◌}
use Rattle.gc_script.specs.ScriptText.{words, is_word}
use Rattle.gc_script.specs.FirstLine.{ends_piece, first_line, after_line, IsCut}
use Rattle.gc_script.proofs.Cuts.{is_space, words_step}
use Rattle.std.specs.List.{position_or_len, before_first, after_first}

abbrev both : (ℕ → Bool) → (ℕ → Bool) → ℕ → Bool
both p q b = p b || q b

one_more : (n : ℕ) → 1 + n ≡ suc n
one_more n = omega arith

-- the first place of either is not after that of one
pub ends_first : (p q : ℕ → Bool) (t : List ℕ) → position_or_len (both p q) t ≤ position_or_len q t
ends_first p q [] = omega arith
ends_first p q (x ∷ xs) = by_head (p x) (q x) _ _ (ends_first p q xs)
  where
    by_head : (s l : Bool) (e f : ℕ) → e ≤ f → cond (not (s || l)) (1 + e) 0 ≤ cond (not l) (1 + f) 0
    by_head true true e f h = omega arith
    by_head true false e f h = omega arith
    by_head false true e f h = omega arith
    by_head false false e f h = omega arith

-- if the first of either is not of one kind, it is the first of the other
pub ends_at : (p q : ℕ → Bool) (t : List ℕ) → position_or_len (both p q) t < length t → p (get_or t (position_or_len (both p q) t) 0) ≡ false
    → position_or_len q t ≡ position_or_len (both p q) t
ends_at p q [] h k = absurd (omega arith)
ends_at p q (x ∷ xs) h k = by_head (p x) (q x) refl (position_or_len (both p q) xs) (position_or_len q xs) (ends_at p q xs) h k
  where
    by_head : (s l : Bool) → p x ≡ s → (e f : ℕ) → (e < length xs → p (get_or xs e 0) ≡ false → f ≡ e) → cond (not (s || l)) (1 + e) 0 < suc (length xs)
        → p (get_or (x ∷ xs) (cond (not (s || l)) (1 + e) 0) 0) ≡ false → cond (not l) (1 + f) 0 ≡ cond (not (s || l)) (1 + e) 0
    by_head true l u e f ih h k = let no : true ≡ false = sym u ∙ k in cc
    by_head false true u e f ih h k = refl
    by_head false false u e f ih h k = ap (λ (n : ℕ). 1 + n) (ih (omega arith) (subst (λ (n : ℕ). p (get_or (x ∷ xs) n 0) ≡ false) (one_more e) k))

-- if the first of either is of one kind, the first of the other is looked for behind it
pub goes_on : (p q : ℕ → Bool) (t : List ℕ) → ((b : ℕ) → p b ≡ true → q b ≡ false) → position_or_len (both p q) t < length t → p (get_or t (position_or_len (both p q) t) 0) ≡ true
    → position_or_len q t ≡ position_or_len (both p q) t + 1 + position_or_len q (drop (position_or_len (both p q) t + 1) t)
goes_on p q [] apart h k = absurd (omega arith)
goes_on p q (x ∷ xs) apart h k = by_head (p x) (q x) refl refl (goes_on p q xs apart) h k
  where
    e : ℕ
    e = position_or_len (both p q) xs

    f : ℕ
    f = position_or_len q xs

    by_head : (s l : Bool) → p x ≡ s → q x ≡ l → (e < length xs → p (get_or xs e 0) ≡ true → f ≡ e + 1 + position_or_len q (drop (e + 1) xs)) → cond (not (s || l)) (1 + e) 0 < suc (length xs)
        → p (get_or (x ∷ xs) (cond (not (s || l)) (1 + e) 0) 0) ≡ true
        → cond (not l) (1 + f) 0 ≡ cond (not (s || l)) (1 + e) 0 + 1 + position_or_len q (drop (cond (not (s || l)) (1 + e) 0 + 1) (x ∷ xs))
    by_head true true u v ih h k = let no : true ≡ false = sym v ∙ apart x u in cc
    by_head true false u v ih h k = omega arith
    by_head false true u v ih h k = let no : false ≡ true = sym u ∙ k in cc
    by_head false false u v ih h k =
        let more = ih (omega arith) (subst (λ (n : ℕ). p (get_or (x ∷ xs) n 0) ≡ true) (one_more e) k) in
        let moved : 1 + e + 1 ≡ suc (e + 1) = omega arith in
        let rest : position_or_len q (drop (1 + e + 1) (x ∷ xs)) ≡ position_or_len q (drop (e + 1) xs) = ap (λ (n : ℕ). position_or_len q (drop n (x ∷ xs))) moved in
        omega arith

-- before the first of one kind, the first of the other is the first of either
pub first_before : (p q : ℕ → Bool) (t : List ℕ) → position_or_len p (take (position_or_len q t) t) ≡ position_or_len (both p q) t
first_before p q [] = refl
first_before p q (x ∷ xs) = by_head (p x) (q x) refl (first_before p q xs)
  where
    kept : List ℕ
    kept = take (position_or_len q xs) xs

    by_head : (s l : Bool) → p x ≡ s → position_or_len p kept ≡ position_or_len (both p q) xs → position_or_len p (take (cond (not l) (1 + position_or_len q xs) 0) (x ∷ xs)) ≡ cond (not (s || l)) (1 + position_or_len (both p q) xs) 0
    by_head true true u ih = refl
    by_head false true u ih = refl
    by_head true false u ih =
        ap (λ (n : ℕ). position_or_len p (take n (x ∷ xs))) (one_more (position_or_len q xs)) ∙ ap (λ (b : Bool). cond (not b) (1 + position_or_len p kept) 0) u
    by_head false false u ih =
        ap (λ (n : ℕ). position_or_len p (take n (x ∷ xs))) (one_more (position_or_len q xs)) ∙ ap (λ (b : Bool). cond (not b) (1 + position_or_len p kept) 0) u
        ∙ ap (λ (n : ℕ). 1 + n) ih

-- the first piece of the first line
pub first_piece : (p q : ℕ → Bool) (t : List ℕ) → before_first p (before_first q t) ≡ take (position_or_len (both p q) t) t
first_piece p q t =
    ap (λ (n : ℕ). take n (before_first q t)) (first_before p q t) ∙ take-take (position_or_len (both p q) t) (position_or_len q t) t (ends_first p q t)

-- the first line goes on behind its first piece
pub line_goes_on : (p q : ℕ → Bool) (t : List ℕ) → ((b : ℕ) → p b ≡ true → q b ≡ false) → position_or_len (both p q) t < length t → p (get_or t (position_or_len (both p q) t) 0) ≡ true
    → (after_first p (before_first q t) ≡ before_first q (drop (position_or_len (both p q) t + 1) t)) × (after_first q t ≡ after_first q (drop (position_or_len (both p q) t + 1) t))
line_goes_on p q t apart h k =
    let e : ℕ = position_or_len (both p q) t in
    let m : ℕ = position_or_len q (drop (e + 1) t) in
    let far : position_or_len q t ≡ e + 1 + m = goes_on p q t apart h k in
    let further : position_or_len q t + 1 ≡ e + 1 + (m + 1) = omega (arith, far) in (
      ap (λ (n : ℕ). drop (n + 1) (before_first q t)) (first_before p q t) ∙ ap (λ (n : ℕ). drop (e + 1) (take n t)) far ∙ drop-take (e + 1) m t,
      ap (λ (n : ℕ). drop n t) further ∙ sym (drop-drop (m + 1) (e + 1) t),
    )

nothing_behind : (e : ℕ) (t : List ℕ) → drop (e + 1) (take e t) ≡ []
nothing_behind e t = drop_all (e + 1) (take e t) (omega (arith, length-take e t))

-- the first line ends with its first piece
pub line_ends : (p q : ℕ → Bool) (t : List ℕ) → position_or_len (both p q) t < length t → p (get_or t (position_or_len (both p q) t) 0) ≡ false
    → (after_first p (before_first q t) ≡ []) × (after_first q t ≡ drop (position_or_len (both p q) t + 1) t)
line_ends p q t h k =
    let e : ℕ = position_or_len (both p q) t in
    let here : position_or_len q t ≡ e = ends_at p q t h k in (
      ap (λ (n : ℕ). drop (n + 1) (before_first q t)) (first_before p q t) ∙ ap (λ (n : ℕ). drop (e + 1) (take n t)) here ∙ nothing_behind e t,
      ap (λ (n : ℕ). drop (n + 1) t) here,
    )

-- a text without either is one piece
pub text_ends : (p q : ℕ → Bool) (t : List ℕ) → length t ≤ position_or_len (both p q) t → (after_first p (before_first q t) ≡ []) × (after_first q t ≡ [])
text_ends p q t h =
    let e : ℕ = position_or_len (both p q) t in
    let far : e ≤ position_or_len q t = ends_first p q t in
    let all : before_first q t ≡ t = take_all (position_or_len q t) t (omega arith) in (
      ap (λ (n : ℕ). drop (n + 1) (before_first q t)) (first_before p q t) ∙ ap (λ (l : List ℕ). drop (e + 1) l) all ∙ drop_all (e + 1) t (omega arith),
      drop_all (position_or_len q t + 1) t (omega arith),
    )

abbrev is_line_feed : ℕ → Bool
is_line_feed b = b == 10

ascii_end : (b : ℕ) → ends_piece b ≡ true → b < 128
ascii_end b e = grind (arith, nat_tests)

-- an ASCII byte stands where the first piece ends
pub ends_ascii : (text : List ℕ) (end : ℕ) → end ≡ position_or_len ends_piece text → end < length text → get_or text end 0 < 128
ends_ascii text end e h =
    subst (λ (n : ℕ). get_or text n 0 < 128) (sym e) (ascii_end (get_or text (position_or_len ends_piece text) 0) (passes_at_first ends_piece text 0 (omega (arith, e, h))))

apart : (b : ℕ) → is_space b ≡ true → is_line_feed b ≡ false
apart b e = grind (arith, nat_tests)

turned_test : (b : Bool) (x y : List (List ℕ)) → cond (not b) x y ≡ cond b y x
turned_test true x y = refl
turned_test false x y = refl

-- the words of the first line, by its first piece and what follows that
line_words : (text piece after : List ℕ) → before_first is_space (first_line text) ≡ piece → after_first is_space (first_line text) ≡ after
    → words (first_line text) ≡ cond (length piece == 0) (words after) (piece ∷ words after)
line_words text piece after e f =
    words_step (first_line text)
    ∙ ap (λ (b : List ℕ). cond (is_word b) (b ∷ words (after_first is_space (first_line text))) (words (after_first is_space (first_line text)))) e
    ∙ ap (λ (r : List ℕ). cond (is_word piece) (piece ∷ words r) (words r)) f
    ∙ turned_test (length piece == 0) (piece ∷ words after) (words after)

-- a text is cut at the first byte that ends a piece
pub is_cut_at : (text piece rest : List ℕ) (end : ℕ) (goes_on : Bool) → end ≡ position_or_len ends_piece text → end < length text → piece ≡ take end text → rest ≡ drop (end + 1) text
    → goes_on ≡ (get_or text end 0 == 32) → IsCut piece goes_on rest text
is_cut_at text piece rest end goes_on at within p r g = by_test goes_on (sym (g ∙ ap (λ (n : ℕ). get_or text n 0 == 32) at))
  where
    e : ℕ
    e = position_or_len ends_piece text

    first : before_first is_space (first_line text) ≡ piece
    first = first_piece is_space is_line_feed text ∙ ap (λ (n : ℕ). take n text) (sym at) ∙ sym p

    left : drop (e + 1) text ≡ rest
    left = ap (λ (n : ℕ). drop (n + 1) text) (sym at) ∙ sym r

    inside : e < length text
    inside = subst (λ (n : ℕ). n < length text) at within

    by_test : (b : Bool) → (get_or text e 0 == 32) ≡ b → IsCut piece b rest text
    by_test true k =
        let on = line_goes_on is_space is_line_feed text apart inside k in
        record {
          line = line_words text piece (first_line rest) first (on.0 ∙ ap first_line left);
          after = sym (on.1 ∙ ap after_line left);
        }
    by_test false k =
        let off = line_ends is_space is_line_feed text inside k in
        record { line = line_words text piece [] first off.0; after = sym (off.1 ∙ left) }

-- a text that has no such byte is one piece
pub is_cut_whole : (text : List ℕ) (end : ℕ) → end ≡ position_or_len ends_piece text → length text ≤ end → IsCut text false [] text
is_cut_whole text end at far =
    let past : length text ≤ position_or_len ends_piece text = subst (λ (n : ℕ). length text ≤ n) at far in
    let off = text_ends is_space is_line_feed text past in
    record {
      line = line_words text text [] (first_piece is_space is_line_feed text ∙ take_all (position_or_len ends_piece text) text past) off.0;
      after = sym off.1;
    }
