-- Marks, set one reference at a time.
use Rattle.std.proofs.Common.{◌≡◌, ◌⊎◌, inl, inr, ℕ, zero, suc, ◌+◌, ◌<◌, ◌≤◌, ap, sym, ◌∙◌, subst, arith, List, [], ◌∷◌, ◌++◌, length, Bool, true, false, not, cond, take}
use Rattle.std.specs.Prelude.{slice_index_or, slice_set, Contains, count_by}
use Rattle.std.proofs.lemmas.List.{length-append, length-set, get_or-set_same, get_or-set_other, take_more}
use Rattle.std.proofs.lemmas.List.Elements.{Contains-push, Contains-push_cases, Contains-append_left}
use Rattle.std.proofs.lemmas.List.Sums.{sum_by-set}
use Rattle.plain_heap.specs.declared.object.Ref.{Ref}
use Rattle.plain_heap.specs.declared.object.Ref.TheVariants as refs
use Rattle.plain_heap.specs.Marking.{IsMarked, left, Marks}
use Rattle.std.proofs.lemmas.List.{take_all}

-- a mark stands within the list
pub marked_within : (marks : List Bool) (n : ℕ) → IsMarked marks n → n < length marks
marked_within [] n h = absurd (no h)
  where
    no : false ≡ true → ⊥
    no e = cc
marked_within (b ∷ marks) zero h = omega arith
marked_within (b ∷ marks) (suc n) h = omega (arith, marked_within marks n h)

-- what is marked stays the same if another condition holds of the same numbers
pub marks_same : (P Q : ℕ → Type 0) (old new : List Bool) (waited waiting : List ℕ) → ((n : ℕ) → Q n → P n) → ((n : ℕ) → P n → Q n) → Marks P old new waited waiting → Marks Q old new waited waiting
marks_same P Q old new waited waiting to from m = record {
  sized = m.sized;
  kept = m.kept;
  each = λ n q. m.each n (to n q);
  only = λ n h. elim (m.only n h) as (λ x. IsMarked old n ⊎ Q n) [ inl a ↦ inl a | inr b ↦ inr (from n b) ];
  still = m.still;
  wait = m.wait;
  marked = m.marked;
  left = m.left;
}

-- one after the other
pub marks_then : (P Q : ℕ → Type 0) (a b c : List Bool) (x y z : List ℕ) → Marks P a b x y → Marks Q b c y z → Marks (λ n. P n ⊎ Q n) a c x z
marks_then P Q a b c x y z p q = record {
  sized = q.sized ∙ p.sized;
  kept = λ n h. q.kept n (p.kept n h);
  each = λ n h below. elim h as (λ h. IsMarked c n) [ inl u ↦ q.kept n (p.each n u below) | inr v ↦ q.each n v (subst (λ (k : ℕ). n < k) (sym p.sized) below) ];
  only = λ n h. elim (q.only n h) as (λ h. IsMarked a n ⊎ (P n ⊎ Q n)) [ inl u ↦ elim (p.only n u) as (λ h. IsMarked a n ⊎ (P n ⊎ Q n)) [ inl s ↦ inl s | inr t ↦ inr (inl t) ] | inr v ↦ inr (inr v) ];
  still = λ n h. q.still n (p.still n h);
  wait = λ n h. elim (q.wait n h) as (λ h. IsMarked a n ⊎ Contains z n) [ inl u ↦ elim (p.wait n u) as (λ h. IsMarked a n ⊎ Contains z n) [ inl s ↦ inl s | inr t ↦ inr (q.still n t) ] | inr v ↦ inr v ];
  marked = λ n h. elim (q.marked n h) as (λ h. Contains x n ⊎ IsMarked c n) [ inl u ↦ elim (p.marked n u) as (λ h. Contains x n ⊎ IsMarked c n) [ inl s ↦ inl s | inr t ↦ inr (q.kept n t) ] | inr v ↦ inr v ];
  left = q.left ∙ p.left;
}

-- one more number is marked and waits
pub marks_one : (n : ℕ) (marks : List Bool) (waiting : List ℕ) → n < length marks → slice_index_or marks n false ≡ false
    → Marks (λ m. refs.Own n ≡ refs.Own m) marks (slice_set marks n true) waiting (waiting ++ n ∷ [])
marks_one n marks waiting below off = record {
  sized = length-set marks n true;
  kept = kept;
  each = λ m e b. subst (λ (k : ℕ). IsMarked (slice_set marks n true) k) (own_same n m e) here;
  only = λ m h. elim (same_or n m) as (λ s. IsMarked marks m ⊎ (refs.Own n ≡ refs.Own m)) [ inl e ↦ inr (ap (λ (k : ℕ). refs.Own k) e) | inr d ↦ inl (sym (other m d) ∙ h) ];
  still = λ m h. Contains-append_left waiting (n ∷ []) m h;
  wait = λ m h. elim (same_or n m) as (λ s. IsMarked marks m ⊎ Contains (waiting ++ n ∷ []) m) [ inl e ↦ inr (subst (λ (k : ℕ). Contains (waiting ++ n ∷ []) k) e (Contains-push waiting n)) | inr d ↦ inl (sym (other m d) ∙ h) ];
  marked = λ m h. elim (Contains-push_cases waiting n m h) as (λ s. Contains waiting m ⊎ IsMarked (slice_set marks n true) m) [ inl c ↦ inl c | inr e ↦ inr (subst (λ (k : ℕ). IsMarked (slice_set marks n true) k) e here) ];
  left = counts;
}
  where
    here : slice_index_or (slice_set marks n true) n false ≡ true
    here = get_or-set_same marks n true false below

    other : (m : ℕ) → (n ≡ m → ⊥) → slice_index_or (slice_set marks n true) m false ≡ slice_index_or marks m false
    other m d = get_or-set_other marks n m true false (λ e. d (sym e))

    same_or : (a b : ℕ) → (a ≡ b) ⊎ (a ≡ b → ⊥)
    same_or a b = grind arith

    own_same : (a b : ℕ) → refs.Own a ≡ refs.Own b → a ≡ b
    own_same a b e = cc

    kept : (m : ℕ) → IsMarked marks m → IsMarked (slice_set marks n true) m
    kept m h = elim (same_or n m) as (λ s. IsMarked (slice_set marks n true) m) [ inl e ↦ subst (λ (k : ℕ). IsMarked (slice_set marks n true) k) e here | inr d ↦ other m d ∙ h ]

    fewer : count_by not (slice_set marks n true) + 1 ≡ count_by not marks + 0
    fewer = subst (λ (b : Bool). count_by not (slice_set marks n true) + cond (not b) 1 0 ≡ count_by not marks + 0) off (sum_by-set (λ b. cond (not b) 1 0) marks n true false below)

    counts : left (slice_set marks n true) (waiting ++ n ∷ []) ≡ left marks waiting
    counts = grind (arith, fewer, length-append waiting (n ∷ []))

-- an own reference to an object that isn't marked yet
pub mark_new : (ref : Ref) (n : ℕ) (marks : List Bool) (waiting pushed : List ℕ) → ref ≡ refs.Own n → n < length marks → slice_index_or marks n false ≡ false → pushed ≡ waiting ++ n ∷ []
    → Marks (λ m. ref ≡ refs.Own m) marks (slice_set marks n true) waiting pushed
mark_new ref n marks waiting pushed e below off push =
    subst (λ (w : List ℕ). Marks (λ m. ref ≡ refs.Own m) marks (slice_set marks n true) waiting w) (sym push)
    (subst (λ (r : Ref). Marks (λ m. r ≡ refs.Own m) marks (slice_set marks n true) waiting (waiting ++ n ∷ [])) (sym e) (marks_one n marks waiting below off))

-- one reference more
pub mark_more : (all : List Ref) (i : ℕ) (ref : Ref) (a b c : List Bool) (x y z : List ℕ) → i < length all → slice_index_or all i refs.Nil ≡ ref
    → Marks (λ n. Contains (take i all) (refs.Own n)) a b x y → Marks (λ n. ref ≡ refs.Own n) b c y z → Marks (λ n. Contains (take (i + 1) all) (refs.Own n)) a c x z
mark_more all i ref a b c x y z below there p q =
    marks_same (λ n. Contains (take i all) (refs.Own n) ⊎ (ref ≡ refs.Own n)) (λ n. Contains (take (i + 1) all) (refs.Own n)) a c x z to from (marks_then _ _ a b c x y z p q)
  where
    more : take (i + 1) all ≡ take i all ++ ref ∷ []
    more = take_more all i refs.Nil below ∙ ap (λ (r : Ref). take i all ++ r ∷ []) there

    to : (n : ℕ) → Contains (take (i + 1) all) (refs.Own n) → Contains (take i all) (refs.Own n) ⊎ (ref ≡ refs.Own n)
    to n h = Contains-push_cases (take i all) ref (refs.Own n) (subst (λ (l : List Ref). Contains l (refs.Own n)) more h)

    last : (n : ℕ) → Contains (take i all) (refs.Own n) ⊎ (ref ≡ refs.Own n) → Contains (take i all ++ ref ∷ []) (refs.Own n)
    last n (inl h) = Contains-append_left (take i all) (ref ∷ []) (refs.Own n) h
    last n (inr e) = subst (λ (r : Ref). Contains (take i all ++ ref ∷ []) r) e (Contains-push (take i all) ref)

    from : (n : ℕ) → Contains (take i all) (refs.Own n) ⊎ (ref ≡ refs.Own n) → Contains (take (i + 1) all) (refs.Own n)
    from n h = subst (λ (l : List Ref). Contains l (refs.Own n)) (sym more) (last n h)

-- all references
pub mark_end : (all : List Ref) (i : ℕ) (a b : List Bool) (x y : List ℕ) → length all ≤ i
    → Marks (λ n. Contains (take i all) (refs.Own n)) a b x y → Marks (λ n. Contains all (refs.Own n)) a b x y
mark_end all i a b x y past m = subst (λ (l : List Ref). Marks (λ n. Contains l (refs.Own n)) a b x y) (take_all i all past) m
