-- What events changed, and what they tell of the variables.
use Rattle.std.proofs.Common.{ℕ, ◌≡◌, ◌+◌, ◌==◌, ◌&&◌, ◌∙◌, List, [], ◌∷◌, ◌++◌, append_assoc, ap, arith, not, refl, sym, Bool, true, false, Option}
use Rattle.std.specs.Prelude.{if◌then◌else◌}
use Rattle.std.proofs.lemmas.Bool.{and_from, and_parts, false≢true}
use Rattle.mark_core.specs.declared.kinds.Step.{Step}
use Rattle.mark_core.specs.declared.kinds.Step.TheVariants.{ExchangeField, ExchangeValue, StoreField, StoreRoot, StoreValue, HoldRoot}
use Rattle.gc_table.specs.Log.{all_steps, steps_of}
use Rattle.gc_table.specs.declared.view.Entry.{Entry}
use Rattle.seat_turns.specs.Sharing.{spares_heap}
use Rattle.example_structures.specs.Changes.{Change, changed_by, changed_in, count_of, words_after, words_by}

-- one thing after the other
pub changed-join : (words : ℕ → ℕ) (xs ys : List Entry) → changed_in words (xs ++ ys) ≡ changed_in words xs ++ changed_in (words_by words xs) ys
changed-join words [] ys = refl
changed-join words (x ∷ xs) ys =
    ap (λ (l : List Change). changed_by words x.step x.found ++ l) (changed-join (words_after words x.step) xs ys)
    ∙ sym (append_assoc (changed_by words x.step x.found) (changed_in (words_after words x.step) xs) (changed_in (words_by (words_after words x.step) xs) ys))

pub words-join : (words : ℕ → ℕ) (xs ys : List Entry) → words_by words (xs ++ ys) ≡ words_by (words_by words xs) ys
words-join words [] ys = refl
words-join words (x ∷ xs) ys = words-join (words_after words x.step) xs ys

pub count-join : (P : Step → Bool → Bool) (xs ys : List Change) → count_of P (xs ++ ys) ≡ count_of P xs + count_of P ys
count-join P [] ys = omega arith
count-join P (x ∷ xs) ys = let rest = count-join P xs ys in omega (arith, rest)

-- the step changes no object
abbrev pub spares_objects : Step → Bool
spares_objects (StoreField v i w) = false
spares_objects (StoreValue v n) = false
spares_objects (ExchangeField v i x y) = false
spares_objects (ExchangeValue v m n) = false
spares_objects step = true

-- it stores nothing in variable u
abbrev pub spares_variable : ℕ → Step → Bool
spares_variable u (StoreRoot v r) = not (u == v)
spares_variable u (HoldRoot v r) = not (u == v)
spares_variable u step = true

changed_none : (words : ℕ → ℕ) (step : Step) (n : ℕ) → spares_objects step ≡ true → changed_by words step n ≡ []
changed_none words (StoreField v i w) n e = absurd (false≢true e)
changed_none words (StoreValue v m) n e = absurd (false≢true e)
changed_none words (ExchangeField v i x y) n e = absurd (false≢true e)
changed_none words (ExchangeValue v m k) n e = absurd (false≢true e)
changed_none words step n e = refl

pub changed-spared : (words : ℕ → ℕ) (es : List Entry) → all_steps spares_objects es ≡ true → changed_in words es ≡ []
changed-spared words [] a = refl
changed-spared words (x ∷ xs) a =
    let p = and_parts (spares_objects x.step) (all_steps spares_objects xs) a in
    ap (λ (l : List Change). l ++ changed_in (words_after words x.step) xs) (changed_none words x.step x.found p.0) ∙ changed-spared (words_after words x.step) xs p.1

pub by-other : (b : Bool) (r n : ℕ) → not b ≡ true → (if b then r else n) ≡ n
by-other true r n e = absurd (false≢true e)
by-other false r n e = refl

word_spared : (words : ℕ → ℕ) (u : ℕ) (step : Step) → spares_variable u step ≡ true → words_after words step u ≡ words u
word_spared words u (StoreRoot v r) e = by-other (u == v) r (words u) e
word_spared words u (HoldRoot v r) e = by-other (u == v) r (words u) e
word_spared words u step e = refl

pub words-spared : (words : ℕ → ℕ) (u : ℕ) (es : List Entry) → all_steps (spares_variable u) es ≡ true → words_by words es u ≡ words u
words-spared words u [] a = refl
words-spared words u (x ∷ xs) a =
    let p = and_parts (spares_variable u x.step) (all_steps (spares_variable u) xs) a in words-spared (words_after words x.step) u xs p.1 ∙ word_spared words u x.step p.0

pub heap-objects : (step : Step) → spares_heap step ≡ true → spares_objects step ≡ true
heap-objects (StoreField v i w) e = absurd (false≢true e)
heap-objects (StoreValue v m) e = absurd (false≢true e)
heap-objects (ExchangeField v i x y) e = absurd (false≢true e)
heap-objects (ExchangeValue v m k) e = absurd (false≢true e)
heap-objects step e = refl

pub heap-variable : (u : ℕ) (step : Step) → spares_heap step ≡ true → spares_variable u step ≡ true
heap-variable u (StoreRoot v r) e = absurd (false≢true e)
heap-variable u (HoldRoot v r) e = absurd (false≢true e)
heap-variable u step e = refl

-- steps of a sort, one part after the other, and those of a wider sort
pub all-join : (P : Step → Bool) (xs ys : List Entry) → all_steps P xs ≡ true → all_steps P ys ≡ true → all_steps P (xs ++ ys) ≡ true
all-join P [] ys a b = b
all-join P (x ∷ xs) ys a b = let p = and_parts (P x.step) (all_steps P xs) a in and_from (P x.step) (all_steps P (xs ++ ys)) p.0 (all-join P xs ys p.1 b)

pub all-more : (P Q : Step → Bool) → ((step : Step) → P step ≡ true → Q step ≡ true) → (xs : List Entry) → all_steps P xs ≡ true → all_steps Q xs ≡ true
all-more P Q h [] a = refl
all-more P Q h (x ∷ xs) a = let p = and_parts (P x.step) (all_steps P xs) a in and_from (Q x.step) (all_steps Q xs) (h x.step p.0) (all-more P Q h xs p.1)

-- steps of which each is so
abbrev pub all_of : (Step → Bool) → List Step → Bool
all_of P [] = true
all_of P (s ∷ ss) = P s && all_of P ss

pub steps-all : (P : Step → Bool) (es : List Entry) → all_steps P es ≡ all_of P (steps_of es)
steps-all P [] = refl
steps-all P (e ∷ es) = ap (λ (b : Bool). P e.step && b) (steps-all P es)

pub all-of-join : (P : Step → Bool) (xs ys : List Step) → all_of P xs ≡ true → all_of P ys ≡ true → all_of P (xs ++ ys) ≡ true
all-of-join P [] ys a b = b
all-of-join P (x ∷ xs) ys a b = let p = and_parts (P x) (all_of P xs) a in and_from (P x) (all_of P (xs ++ ys)) p.0 (all-of-join P xs ys p.1 b)

-- a store of a field, behind which no step changes an object
pub changed-stored : (words : ℕ → ℕ) (es : List Entry) (v i : ℕ) (w : Option ℕ) (ss : List Step) → steps_of es ≡ StoreField v i w ∷ ss → all_of spares_objects ss ≡ true → changed_in words es ≡ record { step = StoreField v i w; won = true } ∷ []
changed-stored words [] v i w ss e a = absurd (cc)
changed-stored words (x ∷ xs) v i w ss e a =
    let head : x.step ≡ StoreField v i w = cc in
    let rest : steps_of xs ≡ ss = cc in
    ap (λ (s : Step). changed_by words s x.found ++ changed_in (words_after words x.step) xs) head
    ∙ ap (λ (l : List Change). record { step = StoreField v i w; won = true } ∷ l) (changed-spared (words_after words x.step) xs (steps-all spares_objects xs ∙ (ap (all_of spares_objects) rest ∙ a)))
