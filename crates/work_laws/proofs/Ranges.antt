-- A sum over a range of numbers, of which one changes.
use Rattle.std.proofs.Common.{ℕ, ◌≡◌, ◌≢◌, ◌+◌, ◌<◌, ◌≤◌, arith, refl, ap, suc, zero, ⊎_elim}
use Rattle.std.specs.List.{sum_by, range_with_len}
use Rattle.std.proofs.lemmas.Bool.{cases_eq}
use Rattle.std.proofs.lemmas.List.Sums.{sum_by-cons}

pub sum-same : (f g : ℕ → ℕ) (a n : ℕ) → ((x : ℕ) → a ≤ x → x < a + n → g x ≡ f x) → sum_by g (range_with_len a n) ≡ sum_by f (range_with_len a n)
sum-same f g a zero s = refl
sum-same f g a (suc n) s =
    let rest : sum_by g (range_with_len (a + 1) n) ≡ sum_by f (range_with_len (a + 1) n) = sum-same f g (a + 1) n (λ x l h. s x (omega arith) (omega arith)) in
    omega (arith, sum_by-cons f a (range_with_len (a + 1) n), sum_by-cons g a (range_with_len (a + 1) n), s a (omega arith) (omega arith), rest)

pub sum-but-one : (f g : ℕ → ℕ) (p a n : ℕ) → a ≤ p → p < a + n → ((x : ℕ) → x < a + n → x ≢ p → g x ≡ f x) → sum_by g (range_with_len a n) + f p ≡ sum_by f (range_with_len a n) + g p
sum-but-one f g p a zero l h s = absurd (omega (arith, l, h))
sum-but-one f g p a (suc n) l h s =
    let x = sum_by-cons f a (range_with_len (a + 1) n) in
    let y = sum_by-cons g a (range_with_len (a + 1) n) in
    ⊎_elim
    (λ (e : a ≡ p).
    let rest : sum_by g (range_with_len (a + 1) n) ≡ sum_by f (range_with_len (a + 1) n) = sum-same f g (a + 1) n (λ z k m. s z (omega (arith, m)) (λ d. omega (arith, d, e, k))) in
    omega (arith, ap f e, ap g e, x, y, rest))
    (λ (d : a ≡ p → ⊥).
    let here : g a ≡ f a = s a (omega arith) d in
    let rest : sum_by g (range_with_len (a + 1) n) + f p ≡ sum_by f (range_with_len (a + 1) n) + g p = sum-but-one f g p (a + 1) n (omega (arith, l, d)) (omega (arith, h)) (λ z m. s z (omega (arith, m))) in
    omega (arith, x, y, here, rest))
    (cases_eq a p)
