-- How often each value occurs, value by value.
use Rattle.std.proofs.Common.{◌≡◌, ℕ, zero, suc, ◌+◌, ◌-◌, ◌<◌, ◌≤◌, List, [], ◌∷◌, ◌++◌, length, get_or, set, take, Bool, true, false, cond, ◌&&◌, refl, sym, ap, subst, ◌∙◌, inl, inr, arith}
use Rattle.std.specs.Prelude.{nat_lt, nat_eq}
use Rattle.std.proofs.lemmas.Bool.{cases_eq, cases_lt, cases_Bool, eq-eqb, ne_eqb, eqb-true, ltb-true, lt-ltb, and_parts, and_from}
use Rattle.std.proofs.lemmas.List.{length-set, get_or-set_same, get_or-set_other, length_push, get_or_push, get_or_append_left, length-take, get_or-take, take_more}
use Rattle.std.proofs.lemmas.List.Sums.{sum_by_push, sum_by-cons, count_by-le-length}
use Rattle.std.proofs.lemmas.List.Sorted.{sum_by-IsPermutation}
use Rattle.std.specs.List.Sorted.{IsPermutation}
use Rattle.dump_census.specs.declared.counts.ValueCount.{ValueCount}
use Rattle.dump_census.specs.Values.{value_count_at, occurrences, AreValueCounts, IsRising, count_value}

-- ---- how often a value occurs

abbrev one_if : ℕ → ℕ → ℕ
one_if v x = cond (nat_eq x v) 1 0

occurs_more : (xs : List ℕ) (x v : ℕ) → occurrences (xs ++ x ∷ []) v ≡ occurrences xs v + one_if v x
occurs_more xs x v = sum_by_push (one_if v) xs x

same_occurs : (xs : List ℕ) (v : ℕ) → occurrences (xs ++ v ∷ []) v ≡ occurrences xs v + 1
same_occurs xs v =
    let here : one_if v v ≡ 1 = ap (λ b. cond {A = ℕ} b 1 0) (eq-eqb v v refl) in
    omega (arith, occurs_more xs v v)

other_occurs : (xs : List ℕ) (x v : ℕ) → (x ≡ v → ⊥) → occurrences (xs ++ x ∷ []) v ≡ occurrences xs v
other_occurs xs x v ne =
    let here : one_if v x ≡ 0 = ap (λ b. cond {A = ℕ} b 1 0) (ne_eqb x v ne) in
    omega (arith, occurs_more xs x v)

-- a value that occurs stands somewhere
occurs_at : (xs : List ℕ) (v : ℕ) → 0 < occurrences xs v → (i : ℕ) × (i < length xs) × (get_or xs i 0 ≡ v)
occurs_at [] v lt = absurd (omega arith)
occurs_at (x ∷ xs) v lt =
    elim (cases_eq x v) [
      | inl same ↦ (zero, omega arith, same)
      | inr other ↦ (
          let here : one_if v x ≡ 0 = ap (λ b. cond {A = ℕ} b 1 0) (ne_eqb x v other) in
          let later = occurs_at xs v (omega (arith, sum_by-cons (one_if v) x xs)) in
          (suc later.0, omega (arith, later.1), later.2))
    ]

-- ---- the values rise

rises_far : (vs : List ValueCount) → ((i : ℕ) → suc i < length vs → (value_count_at vs i).value < (value_count_at vs (suc i)).value) → (i d : ℕ) → i + suc d < length vs
    → (value_count_at vs i).value < (value_count_at vs (i + suc d)).value
rises_far vs rising i zero lt =
    let e : suc i ≡ i + suc zero = omega arith in
    subst (λ j. (value_count_at vs i).value < (value_count_at vs j).value) e (rising i (omega arith))
rises_far vs rising i (suc d) lt =
    let e : suc (i + suc d) ≡ i + suc (suc d) = omega arith in
    let near = rises_far vs rising i d (omega arith) in
    let last = rising (i + suc d) (omega arith) in
    subst (λ j. (value_count_at vs i).value < (value_count_at vs j).value) e (omega (arith, near, last))

pub rises_to : (vs : List ValueCount) → ((i : ℕ) → suc i < length vs → (value_count_at vs i).value < (value_count_at vs (suc i)).value) → (i j : ℕ) → i < j → j < length vs
    → (value_count_at vs i).value < (value_count_at vs j).value
rises_to vs rising i j lt small =
    let e : i + suc (j - suc i) ≡ j = omega arith in
    subst (λ k. (value_count_at vs i).value < (value_count_at vs k).value) e (rises_far vs rising i (j - suc i) (omega arith))

-- ---- one more value

abbrev NoneAbove : List ℕ → ℕ → Type 0
NoneAbove xs v = (y : ℕ) → 0 < occurrences xs y → y ≤ v

value_below : (xs : List ℕ) (vs : List ValueCount) (v i : ℕ) → AreValueCounts xs vs → NoneAbove xs v → i < length vs → (value_count_at vs i).value ≤ v
value_below xs vs v i a top lt = top (value_count_at vs i).value (omega (arith, (a.counted i lt).0, (a.counted i lt).1))

-- it has been counted: the last count is one more
again : (xs : List ℕ) (vs : List ValueCount) (v : ℕ) → AreValueCounts xs vs → 0 < length vs → (value_count_at vs (length vs - 1)).value ≡ v
    → AreValueCounts (xs ++ v ∷ []) (set vs (length vs - 1) (record { value = v; count = (value_count_at vs (length vs - 1)).count + 1 }))
again xs vs v a some same =
    let last = length vs - 1 in
    let new : ValueCount = record { value = v; count = (value_count_at vs last).count + 1 } in
    let blank : ValueCount = record { value = 0; count = 0 } in
    let long = length-set vs last new in
    let here : value_count_at (set vs last new) last ≡ new = get_or-set_same vs last new blank (omega arith) in
    let there : (i : ℕ) → (i ≡ last → ⊥) → value_count_at (set vs last new) i ≡ value_count_at vs i = λ i ne. get_or-set_other vs last i new blank ne in
    let kept : (i : ℕ) → (value_count_at (set vs last new) i).value ≡ (value_count_at vs i).value =
    λ i. elim (cases_eq i last) [
      | inl e ↦ (ap (λ j. (value_count_at (set vs last new) j).value) e ∙ ap (λ (x : ValueCount). x.value) here ∙ sym (ap (λ j. (value_count_at vs j).value) e ∙ same))
      | inr ne ↦ ap (λ (x : ValueCount). x.value) (there i ne)
    ] in
    record {
      rising = λ i lt. omega (arith, kept i, kept (suc i), a.rising i (omega (arith, long)));
      counted = λ i lt. elim (cases_eq i last) [
        | inl e ↦ (
            let c : (value_count_at (set vs last new) i).count ≡ (value_count_at vs last).count + 1 = ap (λ j. (value_count_at (set vs last new) j).count) e ∙ ap (λ (x : ValueCount). x.count) here in
            let is : (value_count_at (set vs last new) i).value ≡ v = kept i ∙ ap (λ j. (value_count_at vs j).value) e ∙ same in
            let before : (value_count_at vs last).count ≡ occurrences xs v = (a.counted last (omega arith)).0 ∙ ap (occurrences xs) same in
            (omega (arith, c, before, same_occurs xs v, ap (occurrences (xs ++ v ∷ [])) is), omega (arith, c)))
        | inr ne ↦ (
            let old = a.counted i (omega (arith, long)) in
            let below = rises_to vs a.rising i last (omega (arith, long)) (omega arith) in
            let differs : v ≡ (value_count_at vs i).value → ⊥ = λ e. omega (arith, below, same) in
            let c = ap (λ (x : ValueCount). x.count) (there i ne) in
            (c ∙ old.0 ∙ sym (other_occurs xs v (value_count_at vs i).value differs) ∙ sym (ap (occurrences (xs ++ v ∷ [])) (kept i)), omega (arith, c, old.1)))
      ];
      each = λ y lt. elim (cases_eq v y) [
        | inl e ↦ (last, omega (arith, long), kept last ∙ same ∙ e)
        | inr ne ↦ (
            let old = a.each y (omega (arith, other_occurs xs v y ne)) in
            (old.0, omega (arith, long, old.1), kept old.0 ∙ old.2))
      ];
    }

-- it is new: greater than all before
anew : (xs : List ℕ) (vs : List ValueCount) (v : ℕ) → AreValueCounts xs vs → NoneAbove xs v → (0 < length vs → (value_count_at vs (length vs - 1)).value ≡ v → ⊥)
    → AreValueCounts (xs ++ v ∷ []) (vs ++ record { value = v; count = 1 } ∷ [])
anew xs vs v a top differs =
    let new : ValueCount = record { value = v; count = 1 } in
    let blank : ValueCount = record { value = 0; count = 0 } in
    let long = length_push vs new in
    let old : (i : ℕ) → i < length vs → value_count_at (vs ++ new ∷ []) i ≡ value_count_at vs i = λ i lt. get_or_append_left vs (new ∷ []) blank i lt in
    let here : value_count_at (vs ++ new ∷ []) (length vs) ≡ new = get_or_push vs new blank (length vs) refl in
    let less : (i : ℕ) → i < length vs → (value_count_at vs i).value < v = λ i lt.
    let last = length vs - 1 in
    let last_below : (value_count_at vs last).value ≤ v = value_below xs vs v last a top (omega arith) in
    let last_less : (value_count_at vs last).value ≡ v → ⊥ = differs (omega arith) in
    elim (cases_eq i last) [
      | inl e ↦ (let q = ap (λ j. (value_count_at vs j).value) e in omega arith)
      | inr ne ↦ (let q = rises_to vs a.rising i last (omega arith) (omega arith) in omega arith)
    ] in
    let never : occurrences xs v ≡ 0 = elim (cases_eq (occurrences xs v) 0) [
      | inl e ↦ e
      | inr ne ↦ (let found = a.each v (omega arith) in absurd (omega (arith, less found.0 found.1, found.2)))
    ] in
    record {
      rising = λ i lt. elim (cases_lt (suc i) (length vs)) [
        | inl inside ↦ (
            let p = ap (λ (x : ValueCount). x.value) (old i (omega arith)) in
            let q = ap (λ (x : ValueCount). x.value) (old (suc i) inside) in
            omega (arith, p, q, a.rising i inside))
        | inr end ↦ (
            let at_end : suc i ≡ length vs = omega (arith, long) in
            let p = ap (λ (x : ValueCount). x.value) (old i (omega arith)) in
            let q = ap (λ j. (value_count_at (vs ++ new ∷ []) j).value) at_end ∙ ap (λ (x : ValueCount). x.value) here in
            omega (arith, p, q, less i (omega arith)))
      ];
      counted = λ i lt. elim (cases_lt i (length vs)) [
        | inl inside ↦ (
            let c = ap (λ (x : ValueCount). x.count) (old i inside) in
            let w = ap (λ (x : ValueCount). x.value) (old i inside) in
            let p = a.counted i inside in
            let ne : v ≡ (value_count_at vs i).value → ⊥ = λ e. omega (arith, less i inside) in
            (c ∙ p.0 ∙ sym (other_occurs xs v (value_count_at vs i).value ne) ∙ sym (ap (occurrences (xs ++ v ∷ [])) w), omega (arith, c, p.1)))
        | inr end ↦ (
            let at_end : i ≡ length vs = omega (arith, long) in
            let c = ap (λ j. (value_count_at (vs ++ new ∷ []) j).count) at_end ∙ ap (λ (x : ValueCount). x.count) here in
            let w = ap (λ j. (value_count_at (vs ++ new ∷ []) j).value) at_end ∙ ap (λ (x : ValueCount). x.value) here in
            (omega (arith, c, same_occurs xs v, never, ap (occurrences (xs ++ v ∷ [])) w), omega (arith, c)))
      ];
      each = λ y lt. elim (cases_eq v y) [
        | inl e ↦ (length vs, omega (arith, long), ap (λ (x : ValueCount). x.value) here ∙ e)
        | inr ne ↦ (
            let found = a.each y (omega (arith, other_occurs xs v y ne)) in
            (found.0, omega (arith, long, found.1), ap (λ (x : ValueCount). x.value) (old found.0 found.1) ∙ found.2))
      ];
    }

pub count_more : (xs : List ℕ) (vs : List ValueCount) (v : ℕ) → AreValueCounts xs vs → NoneAbove xs v → AreValueCounts (xs ++ v ∷ []) (count_value vs v)
count_more xs vs v a top =
    let last = length vs - 1 in
    let test = nat_lt 0 (length vs) && nat_eq (value_count_at vs last).value v in
    let new = set vs last (record { value = v; count = (value_count_at vs last).count + 1 }) in
    let longer = vs ++ record { value = v; count = 1 } ∷ [] in
    elim (cases_Bool test) [
      | inl holds ↦ (
          let p = and_parts (nat_lt 0 (length vs)) (nat_eq (value_count_at vs last).value v) holds in
          subst (AreValueCounts (xs ++ v ∷ [])) (sym (ap (λ b. cond b new longer) holds)) (again xs vs v a (ltb-true _ _ p.0) (eqb-true _ _ p.1)))
      | inr fails ↦ (
          let differs : 0 < length vs → (value_count_at vs last).value ≡ v → ⊥ = λ some same. absurd_of test fails (and_from _ _ (lt-ltb _ _ some) (eq-eqb _ _ same)) in
          subst (AreValueCounts (xs ++ v ∷ [])) (sym (ap (λ b. cond b new longer) fails)) (anew xs vs v a top differs))
    ]
  where
    absurd_of : (b : Bool) → b ≡ false → b ≡ true → ⊥
    absurd_of true f t = absurd cc
    absurd_of false f t = absurd cc

-- ---- the values in order

-- one more of the values
pub tally_more : (xs : List ℕ) (i v : ℕ) (vs ws : List ValueCount) → IsRising xs → i < length xs → v ≡ get_or xs i 0 → AreValueCounts (take i xs) vs → ws ≡ count_value vs v
    → AreValueCounts (take (i + 1) xs) ws
tally_more xs i v vs ws rising lt is a made =
    let top : NoneAbove (take i xs) v = λ y some.
    let found = occurs_at (take i xs) y some in
    let small : found.0 < i = omega (arith, length-take i xs, found.1) in
    let same = get_or-take i xs found.0 0 small in
    omega (arith, found.2, same, rising found.0 i (omega arith) lt, is) in
    let whole = count_more (take i xs) vs v a top in
    let front : take (i + 1) xs ≡ take i xs ++ v ∷ [] = take_more xs i 0 lt ∙ ap (λ x. take i xs ++ x ∷ []) (sym is) in
    subst (λ ys. AreValueCounts ys ws) (sym front) (subst (AreValueCounts (take i xs ++ v ∷ [])) (sym made) whole)

-- a count is small
pub count_small : (xs : List ℕ) (vs : List ValueCount) (i : ℕ) → AreValueCounts xs vs → i < length vs → (value_count_at vs i).count ≤ length xs
count_small xs vs i a lt = omega (arith, (a.counted i lt).0, count_by-le-length (λ x. nat_eq x (value_count_at vs i).value) xs)

-- the order of the values doesn't matter
pub in_any_order : (xs ys : List ℕ) (vs : List ValueCount) → IsPermutation xs ys → AreValueCounts ys vs → AreValueCounts xs vs
in_any_order xs ys vs p a =
    let same : (v : ℕ) → occurrences ys v ≡ occurrences xs v = λ v. sum_by-IsPermutation (one_if v) xs ys p in
    record {
      rising = a.rising;
      counted = λ i lt. ((a.counted i lt).0 ∙ same (value_count_at vs i).value, (a.counted i lt).1);
      each = λ v some. a.each v (omega (arith, same v));
    }
