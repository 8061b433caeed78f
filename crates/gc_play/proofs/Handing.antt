-- Who knows that the heap is full, while warehouses hand back their seats.
use Rattle.std.proofs.Common.{ℕ, zero, suc, ◌≡◌, ◌+◌, ◌<◌, ◌≤◌, ◌⊎◌, ⊎_elim, inl, inr, List, [], ◌∷◌, ◌++◌, length, length-append, All, get_or, sym, ap, ◌∙◌, subst, arith}
use Rattle.std.proofs.Math.Seq.{get_or-append_seam}
use Rattle.std.proofs.lemmas.Bool.{cases_lt}
use Rattle.std.proofs.lemmas.List.{get_or_append_left, get_or_default, length-map}
use Rattle.warehouse.specs.declared.mutator.Mutator.{Mutator}
use Rattle.gc_play.specs.declared.workers.Worker.{Worker}
use Rattle.gc_table.proofs.Joining.{some-at}
use Rattle.gc_play.specs.Crews.{SomeKnows}
use Rattle.gc_play.specs.Dealing.{EachOne, IsDealt, SomeAt, TakesLast, seat_number, sections_of_worker}
use Rattle.gc_play.proofs.Dealt.{all-front}

-- some element but the last, or the last
some-front : {X : Type 0} (P : X → Type 0) (xs : List X) (x : X) → SomeAt P (xs ++ x ∷ []) → SomeAt P xs ⊎ P x
some-front P xs x e =
    ⊎_elim (λ (low : e.0 < length xs). inl (e.0, low, λ d. subst P (get_or_append_left xs (x ∷ []) d e.0 low) (e.2 d)))
    (λ (high : length xs ≤ e.0).
    let last : e.0 ≡ length xs = omega (arith, high, e.1, length-append xs (x ∷ [])) in
    inr (subst P (ap (λ i. get_or (xs ++ x ∷ []) i x) last ∙ get_or-append_seam xs x [] x) (e.2 x)))
    (cases_lt e.0 (length xs))

pub some-ahead : {X : Type 0} (P : X → Type 0) (x : X) (xs : List X) → SomeAt P xs → SomeAt P (x ∷ xs)
some-ahead P x xs e = (e.0 + 1, omega (arith, e.1), λ d. subst (λ i. P (get_or (x ∷ xs) i d)) (let q : suc e.0 ≡ e.0 + 1 = omega arith in q) (e.2 d))

pub some-first : {X : Type 0} (P : X → Type 0) (x : X) (xs : List X) → P x → SomeAt P (x ∷ xs)
some-first P x xs p = (0, omega arith, λ d. p)

apart-or-same : (i j : ℕ) → (i ≡ j → ⊥) ⊎ (i ≡ j)
apart-or-same zero zero = inr (omega arith)
apart-or-same zero (suc j) = inl (λ q. omega (arith, q))
apart-or-same (suc i) zero = inl (λ q. omega (arith, q))
apart-or-same (suc i) (suc j) = ⊎_elim (λ (f : i ≡ j → ⊥). inl (λ (q : suc i ≡ suc j). f (omega (arith, q)))) (λ (q : i ≡ j). inr (ap suc q)) (apart-or-same i j)

-- a worker loses its last mutator: what holds of each one holds of that one and of those that stay, and one of which something holds is that one or stays
module _ (P : Mutator → Type 0) (t : ℕ) (m : Mutator) (old new : List Worker) (taken : TakesLast t m old new) where
  left-and-last : (d : Worker) → EachOne P old → All P (get_or new t d).mutators.items × P m
  left-and-last d all = all-front P (get_or new t d).mutators.items m (subst (All P) (taken.last d) (all t d taken.turn))

  pub each-left : EachOne P old → EachOne P new
  each-left all = λ k d low.
      ⊎_elim
      (λ (apart : k ≡ t → ⊥). subst (λ (w : Worker). All P w.mutators.items) (sym (taken.others k d apart)) (all k d (omega (arith, low, taken.count))))
      (λ (same : k ≡ t). subst (λ i. All P (get_or new i d).mutators.items) (sym same) (left-and-last d all).0)
      (apart-or-same k t)

  pub last-too : EachOne P old → P m
  last-too all = (left-and-last (some-at old t taken.turn).0 all).1

  pub some-taken : SomeAt (λ (w : Worker). SomeAt P w.mutators.items) old → SomeAt (λ (w : Worker). SomeAt P w.mutators.items) new ⊎ P m
  some-taken e =
      let d : Worker = (some-at old t taken.turn).0 in
      let Q : Worker → Type 0 = λ w. SomeAt P w.mutators.items in
      ⊎_elim
      (λ (apart : e.0 ≡ t → ⊥). inl (e.0, omega (arith, e.1, taken.count), λ b. subst Q (sym (taken.others e.0 b apart)) (e.2 b)))
      (λ (same : e.0 ≡ t).
      ⊎_elim
      (λ (left : SomeAt P (get_or new t d).mutators.items).
      inl (t, omega (arith, taken.turn, taken.count), λ b. subst Q (get_or_default new t d b (omega (arith, taken.turn, taken.count))) left))
      (λ (one : P m). inr one)
      (some-front P (get_or new t d).mutators.items m (subst (SomeAt P) (ap (λ i. (get_or old i d).mutators.items) same ∙ taken.last d) (e.2 d))))
      (apart-or-same e.0 t)

-- a worker that has handed back all its warehouses has none that knows
pub none-left : (n : ℕ) (ws : List Worker) → IsDealt n 0 ws → SomeKnows ws → ⊥
none-left n ws dealt e =
    let d : Worker = (some-at ws e.0 e.1).0 in
    let x : Worker = get_or ws e.0 d in
    let none : sections_of_worker x ≡ [] = dealt.each e.0 d (omega (arith, e.1, dealt.count)) in
    let one = (e.2 d).1 in
    omega (arith, one, ap length none, length-map x.mutators.items seat_number)
