-- The numbers of one section's objects among names in order, and how many names there are over all sections.
use Rattle.std.proofs.Common.{◌≡◌, inl, inr, ℕ, zero, suc, ◌+◌, ◌<◌, ◌≤◌, refl, ap, sym, ◌∙◌, subst, arith, List, [], ◌∷◌, length, map, get_or, cond, Bool, true}
use Rattle.std.specs.Prelude.{◌==◌, Contains, All, AllPairs, filter, sum_by, count_by}
use Rattle.std.proofs.lemmas.Bool.{cond-true, cond_both, eqb-true, eq-eqb}
use Rattle.std.proofs.lemmas.List.{length-map, get_or-map}
use Rattle.std.proofs.lemmas.List.Elements.{All-contains_itself, All-filter, All-head, All-tail, filter_passes}
use Rattle.std.proofs.lemmas.List.Kept.{AllPairs-filter}
use Rattle.std.proofs.lemmas.List.Sums.{sum_by-cons, length-filter, get_or-le-sum_by}
use Rattle.plain_heap.specs.Paths.{Name, ComesBefore, IsOrdered}
use Rattle.plain_heap.specs.Sections.{counted}
use Rattle.plain_heap.proofs.Turns.{length-counted, counted-at}

-- the name is of an object of this section
abbrev pub is_of : ℕ → Name → Bool
is_of w name = name.section == w

-- the numbers of a section's objects among these names
abbrev pub numbers_of : ℕ → List Name → List ℕ
numbers_of w names = map (λ name. name.number) (filter (is_of w) names)

contains-filter : {X : Type 0} (test : X → Bool) (xs : List X) (x : X) → test x ≡ true → Contains xs x → Contains (filter test xs) x
contains-filter test [] x passes (k, below, is) = absurd (omega (arith, below))
contains-filter {X} test (y ∷ xs) x passes (zero, below, is) =
    subst (λ (l : List X). Contains l x) (sym (cond-true (test y) (y ∷ filter test xs) (filter test xs) (ap test is ∙ passes))) (0, omega arith, is)
contains-filter {X} test (y ∷ xs) x passes (suc k, below, is) =
    let rest : Contains (filter test xs) x = contains-filter test xs x passes (k, omega (arith, below), is) in
    cond_both (test y) (y ∷ filter test xs) (filter test xs) (λ (l : List X). Contains l x) (λ _. (suc rest.0, omega (arith, rest.1), rest.2)) (λ _. rest)

contains-map : {X Y : Type 0} (f : X → Y) (xs : List X) (x : X) → Contains xs x → Contains (map f xs) (f x)
contains-map f xs x (k, below, is) = (k, omega (arith, below, length-map xs f), get_or-map f xs k x (f x) below ∙ ap f is)

pub numbers-contain : (w n : ℕ) (names : List Name) → Contains names (record { section = w; number = n }) → Contains (numbers_of w names) n
numbers-contain w n names c =
    contains-map (λ (name : Name). name.number) (filter (is_of w) names) (record { section = w; number = n })
    (contains-filter (is_of w) names (record { section = w; number = n }) (eq-eqb w w refl) c)

pub numbers-contained : (w n : ℕ) (names : List Name) → Contains (numbers_of w names) n → Contains names (record { section = w; number = n })
numbers-contained w n names (k, below, is) =
    let kept : List Name = filter (is_of w) names in
    let inside : k < length kept = omega (arith, below, length-map kept (λ (name : Name). name.number)) in
    let name : Name = get_or kept k (record { section = 0; number = 0 }) in
    let number : name.number ≡ n = sym (get_or-map (λ (m : Name). m.number) kept k (record { section = 0; number = 0 }) n inside) ∙ is in
    let section : name.section ≡ w = eqb-true name.section w (filter_passes (is_of w) names k (record { section = 0; number = 0 }) inside) in
    let same : name ≡ record { section = w; number = n } =
    ap (λ (m : ℕ). record { section = name.section; number = m }) number ∙ ap (λ (v : ℕ). record { section = v; number = n }) section in
    subst (Contains names) same (All-filter (is_of w) (Contains names) names (All-contains_itself names) k (record { section = 0; number = 0 }) inside)

pub numbers-ordered : (w : ℕ) (names : List Name) → IsOrdered names → AllPairs (λ m n. m < n) (numbers_of w names)
numbers-ordered w names ordered i j d before below =
    let kept : List Name = filter (is_of w) names in
    let none : Name = record { section = 0; number = 0 } in
    let inside : j < length kept = omega (arith, below, length-map kept (λ (name : Name). name.number)) in
    let first : get_or (numbers_of w names) i d ≡ (get_or kept i none).number = get_or-map (λ (name : Name). name.number) kept i none d (omega arith) in
    let second : get_or (numbers_of w names) j d ≡ (get_or kept j none).number = get_or-map (λ (name : Name). name.number) kept j none d inside in
    let section_i : (get_or kept i none).section ≡ w = eqb-true _ w (filter_passes (is_of w) names i none (omega arith)) in
    let section_j : (get_or kept j none).section ≡ w = eqb-true _ w (filter_passes (is_of w) names j none inside) in
    number_less first second (numbers_rise section_i section_j (AllPairs-filter ComesBefore (is_of w) names ordered i j none before inside))
  where
    numbers_rise : {a b : Name} → a.section ≡ w → b.section ≡ w → ComesBefore a b → a.number < b.number
    numbers_rise e f (inl less) = absurd (omega (arith, e, f, less))
    numbers_rise e f (inr same) = same.1

    number_less : {a b m n : ℕ} → m ≡ a → n ≡ b → a < b → m < n
    number_less e f less = omega arith

length-numbers : (w : ℕ) (names : List Name) → length (numbers_of w names) ≡ count_by (is_of w) names
length-numbers w names = length-map (filter (is_of w) names) (λ name. name.number) ∙ length-filter (is_of w) names

-- sums over counted numbers
pub sum-most : (f g : ℕ → ℕ) (n m : ℕ) → ((w : ℕ) → n ≤ w → w < n + m → f w ≤ g w) → sum_by f (counted n m) ≤ sum_by g (counted n m)
sum-most f g n zero each = omega arith
sum-most f g n (suc m) each =
    let rest = sum-most f g (n + 1) m (λ w from to. each w (omega arith) (omega arith)) in
    omega (arith, rest, each n (omega arith) (omega arith), sum_by-cons f n (counted (n + 1) m), sum_by-cons g n (counted (n + 1) m))

sum-plus : (f g : ℕ → ℕ) (xs : List ℕ) → sum_by (λ w. f w + g w) xs ≡ sum_by f xs + sum_by g xs
sum-plus f g [] = omega arith
sum-plus f g (x ∷ xs) = omega (arith, sum-plus f g xs, sum_by-cons (λ w. f w + g w) x xs, sum_by-cons f x xs, sum_by-cons g x xs)

-- each name is counted in its section
counted-once : (names : List Name) (m : ℕ) → All (λ name. name.section < m) names → length names ≤ sum_by (λ w. count_by (is_of w) names) (counted 0 m)
counted-once [] m below = omega arith
counted-once (name ∷ names) m below =
    let one : ℕ → ℕ = λ w. cond (is_of w name) 1 0 in
    let more : ℕ → ℕ = λ w. count_by (is_of w) names in
    let inside : name.section < m = All-head (λ (x : Name). x.section < m) name names below in
    let at : get_or (counted 0 m) name.section 0 ≡ name.section = counted-at 0 m name.section 0 inside ∙ (let e : 0 + name.section ≡ name.section = omega arith in e) in
    let here : one (get_or (counted 0 m) name.section 0) ≡ 1 = ap one at ∙ ap {B = ℕ} (λ (b : Bool). cond b 1 0) (eq-eqb name.section name.section refl) in
    let first = get_or-le-sum_by one (counted 0 m) name.section 0 (omega (arith, inside, length-counted 0 m)) in
    let rest = counted-once names m (All-tail (λ (x : Name). x.section < m) name names below) in
    let both = sum-plus one more (counted 0 m) in
    let split = sum-most (λ w. one w + more w) (λ w. count_by (is_of w) (name ∷ names)) 0 m (λ w from to. omega (arith, sum_by-cons (λ (x : Name). cond (is_of w x) 1 0) name names)) in
    omega (arith, here, first, rest, both, split)

-- so many names of each section are so many in all
pub names-few : (names : List Name) (bound : ℕ → ℕ) (m : ℕ) → All (λ name. name.section < m) names → ((w : ℕ) → w < m → length (numbers_of w names) ≤ bound w) → length names ≤ sum_by bound (counted 0 m)
names-few names bound m below each =
    let few = sum-most (λ w. count_by (is_of w) names) bound 0 m (λ w from to. omega (arith, length-numbers w names, each w (omega arith))) in
    omega (arith, counted-once names m below, few)

-- rising numbers below n are at most n
rises : (numbers : List ℕ) → AllPairs (λ m n. m < n) numbers → (i : ℕ) → i < length numbers → i ≤ get_or numbers i 0
rises numbers ordered zero below = omega arith
rises numbers ordered (suc i) below = omega (arith, rises numbers ordered i (omega arith), ordered i (suc i) 0 (omega arith) below)

pub rising-few : (numbers : List ℕ) (n : ℕ) → AllPairs (λ m n. m < n) numbers → All (λ m. m < n) numbers → length numbers ≤ n
rising-few [] n ordered below = omega arith
rising-few (first ∷ numbers) n ordered below = omega (arith, rises (first ∷ numbers) ordered (length numbers) (omega arith), below (length numbers) 0 (omega arith))
