-- What the steps of a call use up of what is left to drain.
use Rattle.std.proofs.Common.{ℕ, ◌≡◌, ◌≢◌, ◌+◌, ◌<◌, ◌≤◌, List, [], ◌∷◌, suc, zero, arith, sym, ap, subst, Bool, true, ⊎_elim}
use Rattle.std.specs.List.{sum_by, range_with_len}
use Rattle.std.proofs.lemmas.Bool.{and_parts, cases_eq}
use Rattle.std.proofs.lemmas.List.Sums.{sum_by-cons}
use Rattle.mark_core.specs.declared.kinds.Step.{Step}
use Rattle.mark_core.proofs.Count.CountMoves.{bit}
use Rattle.gc_table.specs.declared.view.Entry.{Entry}
use Rattle.gc_table.specs.declared.view.View.{View}
use Rattle.gc_table.specs.Log.{Only, all_steps, events}
use Rattle.gc_table.specs.Running.{AllSeen, IsSeen, Ran, after_all}
use Rattle.gc_table.specs.Taking.{after}
use Rattle.packet_pools.specs.Counts.{count_of}
use Rattle.gc_cycle.specs.Lower.{traces_or_cleans}

-- a sum of which no part grows
pub sum-most : (f g : ℕ → ℕ) (a n : ℕ) → ((x : ℕ) → a ≤ x → x < a + n → g x ≤ f x) → sum_by g (range_with_len a n) ≤ sum_by f (range_with_len a n)
sum-most f g a zero s = omega arith
sum-most f g a (suc n) s =
    let rest = sum-most f g (a + 1) n (λ x l h. s x (omega (arith, l)) (omega (arith, h))) in
    let here = s a (omega arith) (omega arith) in
    omega (arith, sum_by-cons f a (range_with_len (a + 1) n), sum_by-cons g a (range_with_len (a + 1) n), rest, here)

-- one part falls by i, or grows by j, and no other grows
pub sum-at : (f g : ℕ → ℕ) (p i j a n : ℕ) → a ≤ p → p < a + n → g p + i ≤ f p + j → ((x : ℕ) → x ≢ p → g x ≤ f x) → sum_by g (range_with_len a n) + i ≤ sum_by f (range_with_len a n) + j
sum-at f g p i j a zero l h e s = absurd (omega (arith, l, h))
sum-at f g p i j a (suc n) l h e s =
    let x = sum_by-cons f a (range_with_len (a + 1) n) in
    let y = sum_by-cons g a (range_with_len (a + 1) n) in
    ⊎_elim
    (λ (is : a ≡ p).
    let rest = sum-most f g (a + 1) n (λ z k m. s z (λ d. omega (arith, d, is, k))) in
    omega (arith, ap f is, ap g is, x, y, rest, e))
    (λ (d : a ≡ p → ⊥).
    let here = s a d in
    let rest = sum-at f g p i j (a + 1) n (omega (arith, l, d)) (omega (arith, h)) e s in
    omega (arith, x, y, here, rest))
    (cases_eq a p)

-- one part grows by one at most, wherever it is
pub sum-grows : (f g : ℕ → ℕ) (p a n : ℕ) → g p ≤ f p + 1 → ((x : ℕ) → x ≢ p → g x ≤ f x) → sum_by g (range_with_len a n) ≤ sum_by f (range_with_len a n) + 1
sum-grows f g p a zero e s = omega arith
sum-grows f g p a (suc n) e s =
    let x = sum_by-cons f a (range_with_len (a + 1) n) in
    let y = sum_by-cons g a (range_with_len (a + 1) n) in
    ⊎_elim
    (λ (is : a ≡ p).
    let rest = sum-most f g (a + 1) n (λ z k m. s z (λ d. omega (arith, d, is, k))) in
    omega (arith, ap f is, ap g is, x, y, rest, e))
    (λ (d : a ≡ p → ⊥).
    let here = s a d in
    let rest = sum-grows f g p (a + 1) n e s in
    omega (arith, x, y, here, rest))
    (cases_eq a p)

-- while I holds, a step uses up one of the fund if it is of the first sort, and may add one if it is of the second
abbrev pub Pays : (View → ℕ) → (Step → ℕ → Bool) → (Step → ℕ → Bool) → (View → Type 0) → Type 0
Pays fund cost gain I = (x : View) (step : Step) (n : ℕ) → traces_or_cleans step ≡ true → IsSeen step n x → I x → I (after step n x) × (bit (cost step n) + fund (after step n x) ≤ fund x + bit (gain step n))

all-pay : (fund : View → ℕ) (cost gain : Step → ℕ → Bool) (I : View → Type 0) → Pays fund cost gain I → (es : List Entry) (v : View) → all_steps traces_or_cleans es ≡ true → AllSeen es v → I v → I (after_all es v) × (count_of cost es + fund (after_all es v) ≤ fund v + count_of gain es)
all-pay fund cost gain I h [] v o s i = (i, omega arith)
all-pay fund cost gain I h (e ∷ es) v o s i =
    let p = and_parts (traces_or_cleans e.step) (all_steps traces_or_cleans es) o in
    let one = h v e.step e.found p.0 s.0 i in
    let rest = all-pay fund cost gain I h es (after e.step e.found v) p.1 s.1 one.0 in
    (rest.0, omega (arith, one.1, rest.1))

-- so a call does
pub run-pays : (fund : View → ℕ) (cost gain : Step → ℕ → Bool) (I : View → Type 0) → Pays fund cost gain I → (v w : View) → Ran v w → Only traces_or_cleans v w → I v → I w × (count_of cost (events v w) + fund w ≤ fund v + count_of gain (events v w))
run-pays fund cost gain I h v w r o i =
    let all = all-pay fund cost gain I h (events v w) v o r.seen i in
    (subst I (sym r.steps) all.0, subst (λ (z : View). count_of cost (events v w) + fund z ≤ fund v + count_of gain (events v w)) (sym r.steps) all.1)
