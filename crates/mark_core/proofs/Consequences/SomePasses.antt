-- Whether some element passes a test, when one element is replaced or added.
use Rattle.std.proofs.Common.{ℕ, ◌≡◌, ◌<◌, List, set, get_or, length, sym, ap, ◌∙◌, Bool, true, ◌⊎◌, inl, inr, ⊎_elim, [], ◌∷◌, map, refl, ◌||◌, suc, zero, arith, false, ◌++◌, ◌≤◌, subst, Some, None}
use Rattle.std.specs.List.{list_any}
use Rattle.std.proofs.lemmas.Bool.{or_right, or_cases, or_left, true≢false}
use Rattle.std.specs.Prelude.{slice_get}
use Rattle.std.proofs.lemmas.List.{set-get_or, set_past}
use Rattle.std.proofs.lemmas.List.Folds.{list_any-append}
use Rattle.std.proofs.lemmas.Option.{slice_get_cases}
use Rattle.mark_core.specs.Start.{spent_seat}
use Rattle.mark_core.specs.Steps.{others_after}
use Rattle.mark_core.specs.declared.kinds.Shape.{Shape}
use Rattle.mark_core.specs.declared.kinds.Step.{Step}
use Rattle.mark_core.specs.declared.kinds.Step.TheVariants.{Split, Join}
use Rattle.mark_core.specs.declared.seat.SeatState.{SeatState}

-- a test of what is read of each element
pub any-map : {X Y : Type 0} (f : Y → Bool) (g : X → Y) (xs : List X) → list_any f (map g xs) ≡ list_any (λ x. f (g x)) xs
any-map f g [] = refl
any-map f g (x ∷ xs) = ap (λ b. f (g x) || b) (any-map f g xs)

pub ruleset any_rules = (any-map)

pub any-new : {X : Type 0} (f : X → Bool) (xs : List X) (i : ℕ) (y : X) → i < length xs → f y ≡ true → list_any f (set xs i y) ≡ true
any-new f [] i y h e = absurd (omega (arith, h))
any-new f (x ∷ xs) zero y h e = rw e refl
any-new f (x ∷ xs) (suc i) y h e = or_right (f x) (list_any f (set xs i y)) (any-new f xs i y (omega (arith, h)) e)

-- what is so by another element stays so; else it was so by the element that is replaced
pub any-old : {X : Type 0} (f : X → Bool) (xs : List X) (i : ℕ) (y d : X) → list_any f xs ≡ true → (f (get_or xs i d) ≡ true) ⊎ (list_any f (set xs i y) ≡ true)
any-old f [] i y d e = absurd (true≢false (sym e))
any-old f (x ∷ xs) zero y d e = ⊎_elim (λ (a : f x ≡ true). inl a) (λ (b : list_any f xs ≡ true). inr (or_right (f y) (list_any f xs) b)) (or_cases (f x) (list_any f xs) e)
any-old f (x ∷ xs) (suc i) y d e =
    ⊎_elim
    (λ (a : f x ≡ true). inr (or_left (f x) (list_any f (set xs i y)) a))
    (λ (b : list_any f xs ≡ true).
    ⊎_elim (λ (k : f (get_or xs i d) ≡ true). inl k) (λ (k : list_any f (set xs i y) ≡ true). inr (or_right (f x) (list_any f (set xs i y)) k)) (any-old f xs i y d b))
    (or_cases (f x) (list_any f xs) e)

-- some element still passes when one is replaced that passes if the old one did
pub any-set : {X : Type 0} (f : X → Bool) (xs : List X) (i : ℕ) (y d : X) → i < length xs → list_any f xs ≡ true → (f (get_or xs i d) ≡ true → f y ≡ true) → list_any f (set xs i y) ≡ true
any-set f xs i y d h e g = ⊎_elim (λ (a : f (get_or xs i d) ≡ true). any-new f xs i y h (g a)) (λ (b : list_any f (set xs i y) ≡ true). b) (any-old f xs i y d e)

-- a test that the new element passes if the old one did
pub any-kept : {X : Type 0} (f : X → Bool) (xs : List X) (i : ℕ) (x y : X) → i < length xs → get_or xs i x ≡ x → (f x ≡ true → f y ≡ true) → list_any f xs ≡ true → list_any f (set xs i y) ≡ true
any-kept f xs i x y h is k e = any-set f xs i y x h e (λ a. k (ap f (sym is) ∙ a))

-- if some element passes after one was replaced, that one does, or some did before
pub any-unset : {X : Type 0} (f : X → Bool) (xs : List X) (i : ℕ) (y : X) → list_any f (set xs i y) ≡ true → (f y ≡ true) ⊎ (list_any f xs ≡ true)
any-unset f [] i y e = inr e
any-unset f (x ∷ xs) zero y e = ⊎_elim (λ (a : f y ≡ true). inl a) (λ (a : list_any f xs ≡ true). inr (or_right (f x) (list_any f xs) a)) (or_cases (f y) (list_any f xs) e)
any-unset f (x ∷ xs) (suc i) y e =
    ⊎_elim
    (λ (a : f x ≡ true). inr (or_left (f x) (list_any f xs) a))
    (λ (a : list_any f (set xs i y) ≡ true). ⊎_elim (λ (b : f y ≡ true). inl b) (λ (b : list_any f xs ≡ true). inr (or_right (f x) (list_any f xs) b)) (any-unset f xs i y a))
    (or_cases (f x) (list_any f (set xs i y)) e)

-- if some element passes after one was added, the added one does, or some did before
pub any-push : {X : Type 0} (f : X → Bool) (xs : List X) (y : X) → list_any f (xs ++ y ∷ []) ≡ true → (f y ≡ true) ⊎ (list_any f xs ≡ true)
any-push f [] y e = ⊎_elim (λ (a : f y ≡ true). inl a) (λ (a : false ≡ true). inr a) (or_cases (f y) false e)
any-push f (x ∷ xs) y e =
    ⊎_elim
    (λ (a : f x ≡ true). inr (or_left (f x) (list_any f xs) a))
    (λ (a : list_any f (xs ++ y ∷ []) ≡ true). ⊎_elim (λ (b : f y ≡ true). inl b) (λ (b : list_any f xs ≡ true). inr (or_right (f x) (list_any f xs) b)) (any-push f xs y a))
    (or_cases (f x) (list_any f (xs ++ y ∷ [])) e)

-- Some seat passes a test, when one seat is replaced, and when one is added or ends.
-- a seat whose record ends doesn't pass, and the seat that joins it stays as it was
abbrev pub EndsUntested : (SeatState → Bool) → List SeatState → SeatState → SeatState → Step → Type 0
EndsUntested f seats s t (Join other) = (t ≡ s) × ((o : SeatState) → slice_get seats other ≡ Some o → f o ≡ false)
EndsUntested f seats s t step = Unit {0}

ended_seat : (f : SeatState → Bool) (seats : List SeatState) (j : ℕ) (z : SeatState) → ((x : SeatState) → slice_get seats j ≡ Some x → f x ≡ false) → list_any f seats ≡ true → list_any f (set seats j z) ≡ true
ended_seat f seats j z k e =
    ⊎_elim
    (λ (p : (x : SeatState) × (j < length seats) × (slice_get seats j ≡ Some x) × (get_or seats j x ≡ x)).
    any-kept f seats j p.0 z p.1 p.3 (λ a. absurd (true≢false (sym a ∙ k p.0 p.2))) e)
    (λ (p : (length seats ≤ j) × (slice_get seats j ≡ None)). rw (set_past seats j z p.0) e)
    (slice_get_cases seats j).1

-- some seat passes the test after a step, if one did before, and the seat that takes the step still does
pub any-after : (f : SeatState → Bool) (sh : Shape) (step : Step) (seats : List SeatState) (i : ℕ) (s t : SeatState) → i < length seats → get_or seats i s ≡ s → (f s ≡ true → f t ≡ true) → EndsUntested f seats s t step
    → list_any f seats ≡ true → list_any f (others_after sh step (set seats i t)) ≡ true
any-after f sh Split seats i s t h is k u e = rw list_any-append (or_left (list_any f (set seats i t)) _ (any-kept f seats i s t h is k e))
any-after f sh (Join other) seats i s t h is k u e =
    let back : set seats i t ≡ seats = ap (λ (x : SeatState). set seats i x) u.0 ∙ subst (λ (x : SeatState). set seats i x ≡ seats) is (set-get_or seats i s) in
    rw back (ended_seat f seats other (spent_seat sh other) u.1 e)
any-after f sh step seats i s t h is k u e = any-kept f seats i s t h is k e
