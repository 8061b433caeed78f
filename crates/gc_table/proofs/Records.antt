-- The records of all seats, as the core sees them.
use Rattle.std.proofs.Common.{ℕ, ◌≡◌, ◌+◌, ◌-◌, ◌<◌, ◌≤◌, zero, suc, ◌≢◌, List, [], ◌∷◌, ◌++◌, set, get_or, take, drop, length, arith, refl, sym, ap, ◌∙◌, subst, inl, inr, ◌⊎◌, ⊎_elim, Bool, Some, cond}
use Rattle.std.specs.Prelude.{slice_get, IsFalse}
use mathlib.Core.Option.{some, some-injective, some-ne-none}
use lib.ListN.{get_elem?}
use Rattle.mark_core.specs.Start.{spent_seat}
use Rattle.mark_core.specs.declared.kinds.Shape.{Shape}
use Rattle.mark_core.specs.declared.seat.SeatState.{SeatState}
use Rattle.gc_table.specs.declared.view.View.{View}
use Rattle.gc_table.specs.Rule.{record_of, records_from}

pub record-live : (sh : Shape) (k : ℕ) (v : View) → IsFalse v.state.spent → record_of sh k v ≡ v.state
record-live sh k v live = ap (λ (b : Bool). cond b (spent_seat sh k) v.state) live

further : (k i : ℕ) → k + 1 + i ≡ k + suc i
further k i = omega arith

pub records-get : (sh : Shape) (k : ℕ) (vs : List View) (i : ℕ) (v : View) → get_elem? vs i ≡ some v → slice_get (records_from sh k vs) i ≡ Some (record_of sh (k + i) v)
records-get sh k [] i v e = absurd (some-ne-none v (sym e))
records-get sh k (u ∷ us) zero v e = let here : k ≡ k + 0 = omega arith in ap (λ (x : View). Some (record_of sh k x)) (some-injective u v e) ∙ ap (λ (n : ℕ). Some (record_of sh n v)) here
records-get sh k (u ∷ us) (suc i) v e = records-get sh (k + 1) us i v e ∙ ap (λ (n : ℕ). Some (record_of sh n v)) (further k i)

pub records-set : (sh : Shape) (k : ℕ) (vs : List View) (i : ℕ) (w : View) → records_from sh k (set vs i w) ≡ set (records_from sh k vs) i (record_of sh (k + i) w)
records-set sh k [] i w = refl
records-set sh k (u ∷ us) zero w = let here : k ≡ k + 0 = omega arith in ap (λ (n : ℕ). record_of sh n w ∷ records_from sh (k + 1) us) here
records-set sh k (u ∷ us) (suc i) w = ap (λ (xs : List SeatState). record_of sh k u ∷ xs) (records-set sh (k + 1) us i w ∙ ap (λ (n : ℕ). set (records_from sh (k + 1) us) i (record_of sh n w)) (further k i))

pub records-snoc : (sh : Shape) (k : ℕ) (vs : List View) (w : View) → records_from sh k (vs ++ w ∷ []) ≡ records_from sh k vs ++ record_of sh (k + length vs) w ∷ []
records-snoc sh k [] w = let here : k ≡ k + 0 = omega arith in ap (λ (n : ℕ). record_of sh n w ∷ []) here
records-snoc sh k (u ∷ us) w = ap (λ (xs : List SeatState). record_of sh k u ∷ xs) (records-snoc sh (k + 1) us w ∙ ap (λ (n : ℕ). records_from sh (k + 1) us ++ record_of sh n w ∷ []) (further k (length us)))

pub records-length : (sh : Shape) (k : ℕ) (vs : List View) → length (records_from sh k vs) ≡ length vs
records-length sh k [] = refl
records-length sh k (v ∷ vs) = ap suc (records-length sh (k + 1) vs)

module _ {X : Type 0} where
  pub found-here : (xs : List X) (i : ℕ) (x y : X) → slice_get xs i ≡ Some x → slice_get (set xs i y) i ≡ Some y
  found-here [] i x y e = absurd (cc)
  found-here (z ∷ zs) zero x y e = refl
  found-here (z ∷ zs) (suc i) x y e = found-here zs i x y e

  pub found-else : (xs : List X) (i j : ℕ) (y : X) → j ≢ i → slice_get (set xs i y) j ≡ slice_get xs j
  found-else [] i j y n = refl
  found-else (z ∷ zs) zero zero y n = absurd (n refl)
  found-else (z ∷ zs) zero (suc j) y n = refl
  found-else (z ∷ zs) (suc i) zero y n = refl
  found-else (z ∷ zs) (suc i) (suc j) y n = found-else zs i j y (λ e. n (ap suc e))

module _ {A : Type 0} where
  pub got-snoc : (xs : List A) (a b : A) (j : ℕ) → slice_get (xs ++ a ∷ []) j ≡ Some b → (slice_get xs j ≡ Some b) ⊎ ((j ≡ length xs) × (a ≡ b))
  got-snoc [] a b zero e = inr (refl, cc)
  got-snoc [] a b (suc j) e = absurd (cc)
  got-snoc (x ∷ xs) a b zero e = inl e
  got-snoc (x ∷ xs) a b (suc j) e = ⊎_elim (λ t. inl t) (λ t. inr (ap suc t.0, t.1)) (got-snoc xs a b j e)

  -- what holds of the first and of each further one holds of all
  pub got-first : (P : ℕ → A → Type 0) (xs : List A) (x : A) → P 0 x → ((i : ℕ) (s : A) → slice_get xs i ≡ Some s → P (i + 1) s) → (i : ℕ) (s : A) → slice_get (x ∷ xs) i ≡ Some s → P i s
  got-first P xs x h k zero s e = let same : x ≡ s = cc in subst (P 0) same h
  got-first P xs x h k (suc i) s e = let next : i + 1 ≡ suc i = omega arith in subst (λ (n : ℕ). P n s) next (k i s e)

  pub first-of : (xs : List A) (x : A) → 0 < length xs → x ≡ get_or xs 0 x → slice_get xs 0 ≡ Some x
  first-of [] x l e = absurd (omega arith)
  first-of (y ∷ ys) x l e = ap Some (sym e)

  pub rest-at : (xs : List A) (i : ℕ) (s : A) → slice_get (take 0 xs ++ drop 1 xs) i ≡ Some s → slice_get xs (i + 1) ≡ Some s
  rest-at [] i s e = absurd (cc)
  rest-at (x ∷ xs) i s e = let next : suc i ≡ i + 1 = omega arith in subst (λ (n : ℕ). slice_get (x ∷ xs) n ≡ Some s) next e

  pub rest-long : (xs : List A) → 0 < length xs → length (take 0 xs ++ drop 1 xs) + 1 ≡ length xs
  rest-long [] l = absurd (omega arith)
  rest-long (x ∷ xs) l = omega arith

  pub got-last : (xs : List A) (x : A) → slice_get (xs ++ x ∷ []) (length xs) ≡ Some x
  got-last [] x = refl
  got-last (y ∷ ys) x = got-last ys x

  pub got-longer : (xs : List A) (x s : A) (i : ℕ) → slice_get xs i ≡ Some s → slice_get (xs ++ x ∷ []) i ≡ Some s
  got-longer [] x s i e = absurd (cc)
  got-longer (y ∷ ys) x s zero e = e
  got-longer (y ∷ ys) x s (suc i) e = got-longer ys x s i e

  pub take-next : (xs : List A) (i : ℕ) (x : A) → get_elem? xs i ≡ some x → take (i + 1) xs ≡ take i xs ++ x ∷ []
  take-next xs i x e = ap (λ (n : ℕ). take n xs) (next i) ∙ go xs i x e
    where
      next : (i : ℕ) → i + 1 ≡ suc i
      next i = omega arith

      go : (xs : List A) (i : ℕ) (x : A) → get_elem? xs i ≡ some x → take (suc i) xs ≡ take i xs ++ x ∷ []
      go [] i x e = absurd (some-ne-none x (sym e))
      go (y ∷ ys) zero x e = ap (λ (z : A). z ∷ []) (some-injective y x e)
      go (y ∷ ys) (suc i) x e = ap (λ l. y ∷ l) (go ys i x e)

  -- what stands so far behind a place
  pub got-behind : (xs : List A) (a i : ℕ) (x : A) → get_elem? xs (a + i) ≡ some x → get_elem? (drop a xs) i ≡ some x
  got-behind xs zero i x e = let same : 0 + i ≡ i = omega arith in subst (λ (n : ℕ). get_elem? xs n ≡ some x) same e
  got-behind [] (suc a) i x e = absurd (some-ne-none x (sym e))
  got-behind (y ∷ ys) (suc a) i x e = let next : suc a + i ≡ suc (a + i) = omega arith in got-behind ys a i x (subst (λ (n : ℕ). get_elem? (y ∷ ys) n ≡ some x) next e)

  pub got-is : (xs : List A) (i : ℕ) (x d : A) → get_elem? xs i ≡ some x → x ≡ get_or xs i d
  got-is [] i x d e = absurd (some-ne-none x (sym e))
  got-is (y ∷ ys) zero x d e = sym (some-injective y x e)
  got-is (y ∷ ys) (suc i) x d e = got-is ys i x d e

-- one more word of a part of all
pub region-next : (all : List ℕ) (from i x : ℕ) → from ≤ i → get_elem? all i ≡ some x → take (i + 1 - from) (drop from all) ≡ take (i - from) (drop from all) ++ x ∷ []
region-next all from i x h e =
    let here : i ≡ from + (i - from) = omega arith in
    let next : i + 1 - from ≡ i - from + 1 = omega arith in
    let at : get_elem? (drop from all) (i - from) ≡ some x = got-behind all from (i - from) x (subst (λ (n : ℕ). get_elem? all n ≡ some x) here e) in
    ap (λ (n : ℕ). take n (drop from all)) next ∙ take-next (drop from all) (i - from) x at

pub ruleset word_reads = (region-next, got-is)
