-- Items of two seats are a merge of each one's, and what was taken is what was put in first.
use Rattle.std.proofs.Common.{ℕ, suc, ◌≡◌, ◌≢◌, ◌+◌, ◌==◌, ◌∙◌, List, [], ◌∷◌, ◌++◌, ap, arith, eq-eqb, eqb-true, length, length-append, ne_eqb, refl, subst, sym, Bool, true, false, Some}
use Rattle.std.specs.Prelude.{if◌then◌else◌, slice_get}
use Rattle.std.proofs.lemmas.Bool.{eqb-false}
use Rattle.std.proofs.lemmas.Option.{same_Some}
use Rattle.gc_table.proofs.Reading.{none-some}
use Rattle.queue_laws.specs.NumberLogs.{all_told}
use Rattle.queue_laws.specs.Queues.{Item, by_seat}
use Rattle.queue_laws.specs.TakenNumbers.{AreNumbers}
use Rattle.example_queues.specs.Fifo.{IsFifo, IsMerge, at_marked, at_others, numbers_of, times_in}

-- which items are of this seat
abbrev of_seat : ℕ → List Item → List Bool
of_seat i [] = []
of_seat i (x ∷ xs) = (x.seat == i) ∷ of_seat i xs

-- only seats i and j have items
abbrev OnlyTwo : ℕ → ℕ → List Item → Type 0
OnlyTwo i j xs = (k : ℕ) → k ≢ i → k ≢ j → by_seat k xs ≡ []

rest_none : (b : Bool) (x : Item) (xs : List Item) → (if b then x ∷ xs else xs) ≡ [] → xs ≡ []
rest_none true x xs e = absurd (cc)
rest_none false x xs e = e

only_rest : (i j : ℕ) (x : Item) (xs : List Item) → OnlyTwo i j (x ∷ xs) → OnlyTwo i j xs
only_rest i j x xs only k a b = rest_none (x.seat == k) x (by_seat k xs) (only k a b)

two_seats : (i j : ℕ) (x : Item) (xs : List Item) → OnlyTwo i j (x ∷ xs) → (x.seat == i) ≡ false → x.seat ≡ j
two_seats i j x xs only other = by_test (x.seat == j) refl
  where
    by_test : (b : Bool) → (x.seat == j) ≡ b → x.seat ≡ j
    by_test true e = eqb-true x.seat j e
    by_test false e =
        let none : (if x.seat == x.seat then x ∷ by_seat x.seat xs else by_seat x.seat xs) ≡ [] = only x.seat (eqb-false x.seat i other) (eqb-false x.seat j e) in
        let some : x ∷ by_seat x.seat xs ≡ [] = sym (ap (λ (b : Bool). if b then x ∷ by_seat x.seat xs else by_seat x.seat xs) (eq-eqb x.seat x.seat refl)) ∙ none in
        absurd (cc)

long_as : (i : ℕ) (xs : List Item) → length (of_seat i xs) ≡ length (numbers_of xs)
long_as i [] = refl
long_as i (x ∷ xs) = ap (λ (n : ℕ). suc n) (long_as i xs)

first_of : (i : ℕ) (xs : List Item) → at_marked (of_seat i xs) (numbers_of xs) ≡ numbers_of (by_seat i xs)
first_of i [] = refl
first_of i (x ∷ xs) = by_test (x.seat == i) (first_of i xs)
  where
    by_test : (b : Bool) → at_marked (of_seat i xs) (numbers_of xs) ≡ numbers_of (by_seat i xs)
        → (if b then x.number ∷ at_marked (of_seat i xs) (numbers_of xs) else at_marked (of_seat i xs) (numbers_of xs)) ≡ numbers_of (if b then x ∷ by_seat i xs else by_seat i xs)
    by_test true rest = ap (λ (l : List ℕ). x.number ∷ l) rest
    by_test false rest = rest

second_of : (i j : ℕ) (xs : List Item) → i ≢ j → OnlyTwo i j xs → at_others (of_seat i xs) (numbers_of xs) ≡ numbers_of (by_seat j xs)
second_of i j [] d only = refl
second_of i j (x ∷ xs) d only = by_test (x.seat == i) refl (second_of i j xs d (only_rest i j x xs only))
  where
    by_test : (b : Bool) → (x.seat == i) ≡ b → at_others (of_seat i xs) (numbers_of xs) ≡ numbers_of (by_seat j xs)
        → (if b then at_others (of_seat i xs) (numbers_of xs) else x.number ∷ at_others (of_seat i xs) (numbers_of xs)) ≡ numbers_of (if x.seat == j then x ∷ by_seat j xs else by_seat j xs)
    by_test true e rest = rest ∙ ap (λ (b : Bool). numbers_of (if b then x ∷ by_seat j xs else by_seat j xs)) (sym (ne_eqb x.seat j (λ f. d (sym (eqb-true x.seat i e) ∙ f))))
    by_test false e rest = ap (λ (l : List ℕ). x.number ∷ l) rest ∙ ap (λ (b : Bool). numbers_of (if b then x ∷ by_seat j xs else by_seat j xs)) (sym (eq-eqb x.seat j (two_seats i j x xs only e)))

pub merge-items : (i j : ℕ) (xs : List Item) → i ≢ j → OnlyTwo i j xs → IsMerge (numbers_of (by_seat i xs)) (numbers_of (by_seat j xs)) (numbers_of xs)
merge-items i j xs d only = record { marks = of_seat i xs; one_each = long_as i xs; first = first_of i xs; second = second_of i j xs d only }

-- numbers that are told are those of the items
pub numbers-are : (ns : List ℕ) (xs : List Item) → AreNumbers (all_told ns) xs → numbers_of xs ≡ ns
numbers-are [] [] a = refl
numbers-are [] (x ∷ xs) a = absurd a
numbers-are (n ∷ ns) [] a = absurd a
numbers-are (n ∷ ns) (x ∷ xs) a = ap (λ (m : ℕ). m ∷ numbers_of xs) a.0 ∙ ap (λ (l : List ℕ). n ∷ l) (numbers-are ns xs a.1)

-- what was taken is what was put in first
abbrev IsFirst : List Item → List Item → Type 0
IsFirst ts ps = (m : ℕ) (x : Item) → slice_get ts m ≡ Some x → (y : Item) × (slice_get ps m ≡ Some y) × (y.node ≡ x.node) × (y.number ≡ x.number)

pub puts-begin : (ts ps : List Item) → IsFirst ts ps → (left : List ℕ) × (numbers_of ps ≡ numbers_of ts ++ left)
puts-begin [] ps first = (numbers_of ps, refl)
puts-begin (t ∷ ts) [] first = let r = first 0 t refl in absurd (none-some r.0 r.1)
puts-begin (t ∷ ts) (p ∷ ps) first =
    let r = first 0 t refl in
    let rest = puts-begin ts ps (λ m x at. first (suc m) x at) in
    let same : p.number ≡ t.number = ap (λ (x : Item). x.number) (same_Some p r.0 r.1) ∙ r.3 in
    (rest.0, ap (λ (n : ℕ). n ∷ numbers_of ps) same ∙ ap (λ (l : List ℕ). t.number ∷ l) rest.1)

-- how often a number is in lists
times_join : (n : ℕ) (xs ys : List ℕ) → times_in n (xs ++ ys) ≡ times_in n xs + times_in n ys
times_join n [] ys = omega arith
times_join n (x ∷ xs) ys = let rest = times_join n xs ys in omega (arith, rest)

times_marked : (n : ℕ) (marks : List Bool) (ns : List ℕ) → length marks ≡ length ns → times_in n (at_marked marks ns) + times_in n (at_others marks ns) ≡ times_in n ns
times_marked n [] [] e = refl
times_marked n [] (m ∷ ms) e = absurd (cc)
times_marked n (b ∷ bs) [] e = absurd (cc)
times_marked n (true ∷ bs) (m ∷ ms) e = let rest = times_marked n bs ms (omega (arith, e)) in omega (arith, rest)
times_marked n (false ∷ bs) (m ∷ ms) e = let rest = times_marked n bs ms (omega (arith, e)) in omega (arith, rest)

times_merge : (n : ℕ) (xs ys both : List ℕ) → IsMerge xs ys both → times_in n xs + times_in n ys ≡ times_in n both
times_merge n xs ys both m =
    sym (ap (λ (l : List ℕ). times_in n l + times_in n (at_others m.marks both)) m.first ∙ ap (λ (l : List ℕ). times_in n xs + times_in n l) m.second)
    ∙ times_marked n m.marks both m.one_each

-- how long two lists are of which another is made
long_marked : (marks : List Bool) (ns : List ℕ) → length marks ≡ length ns → length (at_marked marks ns) + length (at_others marks ns) ≡ length ns
long_marked [] [] e = refl
long_marked [] (m ∷ ms) e = absurd (cc)
long_marked (b ∷ bs) [] e = absurd (cc)
long_marked (true ∷ bs) (m ∷ ms) e = let rest = long_marked bs ms (omega (arith, e)) in omega (arith, rest)
long_marked (false ∷ bs) (m ∷ ms) e = let rest = long_marked bs ms (omega (arith, e)) in omega (arith, rest)

long_merge : (xs ys both : List ℕ) → IsMerge xs ys both → length xs + length ys ≡ length both
long_merge xs ys both m =
    sym (ap (λ (l : List ℕ). length l + length (at_others m.marks both)) m.first ∙ ap (λ (l : List ℕ). length xs + length l) m.second)
    ∙ long_marked m.marks both m.one_each

no_more : (xs : List ℕ) → length xs ≡ 0 → xs ≡ []
no_more [] e = refl
no_more (x ∷ xs) e = absurd (cc)

-- if as many were taken out as were put in, nothing is left
pub none-left : (a b x y : List ℕ) (f : IsFifo a b x y) → length x ≡ length a → length y ≡ length b → f.left ≡ []
none-left a b x y f one two =
    let put = long_merge a b f.puts f.put in
    let taken = long_merge x y f.takes f.taken in
    let all = ap (λ (l : List ℕ). length l) f.order ∙ length-append f.takes f.left in
    no_more f.left (omega (arith, put, taken, all, one, two))

-- two seats' numbers are first in, first out
pub fifo-by : (ps ts : List Item) (a b x y : List ℕ) → IsFirst ts ps → OnlyTwo 1 2 ps → OnlyTwo 1 2 ts → numbers_of (by_seat 1 ps) ≡ a → numbers_of (by_seat 2 ps) ≡ b → numbers_of (by_seat 1 ts) ≡ x → numbers_of (by_seat 2 ts) ≡ y → IsFifo a b x y
fifo-by ps ts a b x y first only_puts only_takes ea eb ex ey =
    let r = puts-begin ts ps first in
    let put : IsMerge a b (numbers_of ps) =
    subst (λ (l : List ℕ). IsMerge l b (numbers_of ps)) ea (subst (λ (l : List ℕ). IsMerge (numbers_of (by_seat 1 ps)) l (numbers_of ps)) eb (merge-items 1 2 ps (λ e. omega (arith, e)) only_puts)) in
    let taken : IsMerge x y (numbers_of ts) =
    subst (λ (l : List ℕ). IsMerge l y (numbers_of ts)) ex (subst (λ (l : List ℕ). IsMerge (numbers_of (by_seat 1 ts)) l (numbers_of ts)) ey (merge-items 1 2 ts (λ e. omega (arith, e)) only_takes)) in
    record {
      puts = numbers_of ps;
      takes = numbers_of ts;
      left = r.0;
      put = put;
      taken = taken;
      order = r.1;
      often =
          λ n.
          let one = times_merge n a b (numbers_of ps) put in
          let two = times_merge n x y (numbers_of ts) taken in
          let all = ap (times_in n) r.1 ∙ times_join n (numbers_of ts) r.0 in
          omega (arith, one, two, all);
    }
