-- What can be decided of names, objects and references.
use Rattle.std.proofs.Common.{◌≡◌, ◌⊎◌, inl, inr, ℕ, zero, suc, refl, ap, sym, ◌∙◌, subst, List, [], ◌∷◌, arith, map}
use Rattle.std.specs.Prelude.{Option, Some, None, slice_get, Contains}
use Rattle.std.proofs.lemmas.Bool.{cases_eq}
use Rattle.std.proofs.lemmas.Option.{same_Some}
use Rattle.plain_heap.specs.declared.object.Ref.{Ref}
use Rattle.plain_heap.specs.declared.object.Ref.TheVariants as refs
use Rattle.plain_heap.specs.declared.object.Object.{Object}
use Rattle.plain_heap.specs.PlainHeap.{Heap}
use Rattle.plain_heap.specs.Paths.{Name, Names, HasObject, IsObject, IsHeld, RefersTo, ComesBefore, IsOrdered}

-- Lists of names in order: one with the same names is the same.
-- What a list and its images contain.
pub contains-cases : {X : Type 0} (y : X) (ys : List X) (n : X) → Contains (y ∷ ys) n → (y ≡ n) ⊎ Contains ys n
contains-cases y ys n (zero, below, e) = inl e
contains-cases y ys n (suc k, below, e) = inr (k, omega (arith, below), e)

pub contains-tail : {X : Type 0} (y : X) (ys : List X) (n : X) → Contains ys n → Contains (y ∷ ys) n
contains-tail y ys n (k, below, e) = (suc k, omega (arith, below), e)

pub contains-head : {X : Type 0} (y : X) (ys : List X) (n : X) → y ≡ n → Contains (y ∷ ys) n
contains-head y ys n e = (0, omega arith, e)

pub nothing-in : {X : Type 0} (n : X) → Contains [] n → ⊥
nothing-in n (k, below, e) = omega (arith, below)

pub map-from : {X Y : Type 0} (f : X → Y) (xs : List X) (y : Y) → Contains (map f xs) y → (x : X) × Contains xs x × (f x ≡ y)
map-from {X = X} {Y = Y} f [] y c = absurd (nothing-in y c)
map-from {X = X} {Y = Y} f (x ∷ xs) y c = of (contains-cases (f x) (map f xs) y c) (map-from f xs y)
  where
    of : (f x ≡ y) ⊎ Contains (map f xs) y → (Contains (map f xs) y → (z : X) × Contains xs z × (f z ≡ y)) → (z : X) × Contains (x ∷ xs) z × (f z ≡ y)
    of (inl e) later = (x, contains-head x xs x refl, e)
    of (inr c) later = let found = later c in (found.0, contains-tail x xs found.0 found.1, found.2)

pub map-to : {X Y : Type 0} (f : X → Y) (xs : List X) (x : X) → Contains xs x → Contains (map f xs) (f x)
map-to {X = X} {Y = Y} f [] x c = absurd (nothing-in x c)
map-to {X = X} {Y = Y} f (z ∷ xs) x c = of (contains-cases z xs x c) (map-to f xs x)
  where
    of : (z ≡ x) ⊎ Contains xs x → (Contains xs x → Contains (map f xs) (f x)) → Contains (map f (z ∷ xs)) (f x)
    of (inl e) later = contains-head (f z) (map f xs) (f x) (ap f e)
    of (inr c) later = contains-tail (f z) (map f xs) (f x) (later c)

-- a name doesn't come before itself, nor before one that comes before it
pub never : (a : Name) → ComesBefore a a → ⊥
never a (inl less) = omega arith
never a (inr both) = omega (arith, both.1)

not-both : (a b : Name) → ComesBefore a b → ComesBefore b a → ⊥
not-both a b (inl x) (inl y) = omega arith
not-both a b (inl x) (inr y) = omega (arith, y.0)
not-both a b (inr x) (inl y) = omega (arith, x.0)
not-both a b (inr x) (inr y) = omega (arith, x.1, y.1)

-- a list in order: its first name comes before each other, and the rest is in order
pub head_first : (y : Name) (ys : List Name) → IsOrdered (y ∷ ys) → (n : Name) → Contains ys n → ComesBefore y n
head_first y ys ordered n (k, below, e) = subst (λ (m : Name). ComesBefore y m) e (ordered 0 (suc k) n (omega arith) (omega arith))

pub rest_ordered : (y : Name) (ys : List Name) → IsOrdered (y ∷ ys) → IsOrdered ys
rest_ordered y ys ordered i j d less short = ordered (suc i) (suc j) d (omega arith) (omega arith)

-- two lists in order with the same names are one
pub same-names : (xs ys : List Name) → IsOrdered xs → IsOrdered ys → ((n : Name) → Contains xs n → Contains ys n) → ((n : Name) → Contains ys n → Contains xs n) → xs ≡ ys
same-names [] [] o p to from = refl
same-names [] (y ∷ ys) o p to from = absurd (nothing-in y (from y (contains-head y ys y refl)))
same-names (x ∷ xs) [] o p to from = absurd (nothing-in x (to x (contains-head x xs x refl)))
same-names (x ∷ xs) (y ∷ ys) o p to from =
    ap (λ (n : Name). n ∷ xs) first ∙ ap (λ (l : List Name). y ∷ l) (same-names xs ys (rest_ordered x xs o) (rest_ordered y ys p) later earlier)
  where
    first : x ≡ y
    first = of (contains-cases y ys x (to x (contains-head x xs x refl))) (contains-cases x xs y (from y (contains-head y ys y refl)))
      where
        of : (y ≡ x) ⊎ Contains ys x → (x ≡ y) ⊎ Contains xs y → x ≡ y
        of (inl e) other = sym e
        of (inr c) (inl e) = e
        of (inr c) (inr d) = absurd (not-both x y (head_first x xs o y d) (head_first y ys p x c))

    later : (n : Name) → Contains xs n → Contains ys n
    later n c = of (contains-cases y ys n (to n (contains-tail x xs n c)))
      where
        of : (y ≡ n) ⊎ Contains ys n → Contains ys n
        of (inl e) = absurd (never x (subst (λ (m : Name). ComesBefore x m) (sym (first ∙ e)) (head_first x xs o n c)))
        of (inr d) = d

    earlier : (n : Name) → Contains ys n → Contains xs n
    earlier n c = of (contains-cases x xs n (from n (contains-tail y ys n c)))
      where
        of : (x ≡ n) ⊎ Contains xs n → Contains xs n
        of (inl e) = absurd (never y (subst (λ (m : Name). ComesBefore y m) (sym (sym first ∙ e)) (head_first y ys p n c)))
        of (inr d) = d

-- it holds, or it doesn't
abbrev pub Decided : Type 0 → Type 0
Decided P = P ⊎ (P → ⊥)

pub both : {P Q : Type 0} → Decided P → Decided Q → Decided (P × Q)
both (inl p) (inl q) = inl (p, q)
both (inl p) (inr n) = inr (λ x. n x.1)
both (inr n) q = inr (λ x. n x.0)

pub either : {P Q : Type 0} → Decided P → Decided Q → Decided (P ⊎ Q)
either (inl p) q = inl (inl p)
either (inr n) (inl q) = inl (inr q)
either {P} {Q} (inr n) (inr m) = inr no
  where
    no : P ⊎ Q → ⊥
    no (inl p) = n p
    no (inr q) = m q

pub neither : {P : Type 0} → Decided P → Decided (P → ⊥)
neither (inl p) = inr (λ n. n p)
neither (inr n) = inl n

-- an element for which it holds, or none has it
pub some-of : {X : Type 0} (P : X → Type 0) → ((x : X) → Decided (P x)) → (xs : List X) → Decided ((x : X) × Contains xs x × P x)
some-of P decide [] = inr (λ s. nothing-in s.0 s.1)
some-of {X} P decide (x ∷ xs) = of (decide x) (some-of P decide xs)
  where
    of : Decided (P x) → Decided ((y : X) × Contains xs y × P y) → Decided ((y : X) × Contains (x ∷ xs) y × P y)
    of (inl p) later = inl (x, contains-head x xs x refl, p)
    of (inr n) (inl s) = inl (s.0, contains-tail x xs s.0 s.1, s.2)
    of (inr n) (inr none) = inr no
      where
        no : (y : X) × Contains (x ∷ xs) y × P y → ⊥
        no s = at (contains-cases x xs s.0 s.1)
          where
            at : (x ≡ s.0) ⊎ Contains xs s.0 → ⊥
            at (inl e) = n (subst P (sym e) s.2)
            at (inr c) = none (s.0, c, s.2)

pub same-name : (a b : Name) → Decided (a ≡ b)
same-name a b = of (cases_eq a.section b.section) (cases_eq a.number b.number)
  where
    of : Decided (a.section ≡ b.section) → Decided (a.number ≡ b.number) → Decided (a ≡ b)
    of (inl s) (inl n) = inl (ap (λ (k : ℕ). record { section = k; number = a.number }) s ∙ ap (λ (k : ℕ). record { section = b.section; number = k }) n)
    of (inl s) (inr n) = inr (λ e. n (ap (λ (m : Name). m.number) e))
    of (inr s) n = inr (λ e. s (ap (λ (m : Name). m.section) e))

pub contained : (names : List Name) (name : Name) → Decided (Contains names name)
contained names name = of (some-of (λ (m : Name). m ≡ name) (λ m. same-name m name) names)
  where
    of : Decided ((m : Name) × Contains names m × (m ≡ name)) → Decided (Contains names name)
    of (inl s) = inl (subst (λ (m : Name). Contains names m) s.2 s.1)
    of (inr none) = inr (λ c. none (name, c, refl))

named : (section : ℕ) (ref : Ref) (name : Name) → Decided (Names section ref name)
named section refs.Nil name = inr (λ e. e)
named section (refs.Own n) name = both (cases_eq name.section section) (cases_eq name.number n)
named zero (refs.Cat n) name = inr (λ e. e)
named (suc section) (refs.Cat n) name = both (cases_eq name.section 0) (cases_eq name.number n)

pub held : (heaps : List Heap) (name : Name) → Decided (IsHeld heaps name)
held heaps name = of (some-of In (λ heap. some-of (λ ref. Names heap.section ref name) (λ ref. named heap.section ref name) heap.variables) heaps)
  where
    In : Heap → Type 0
    In heap = (ref : Ref) × Contains heap.variables ref × Names heap.section ref name

    of : Decided ((heap : Heap) × Contains heaps heap × In heap) → Decided (IsHeld heaps name)
    of (inl s) = inl (s.0, s.1, s.2.0, s.2.1, s.2.2)
    of (inr none) = inr (λ h. none (h.0, h.1, (h.2, h.3, h.4)))

-- an object of a name in one heap, of which this holds
abbrev In-heap : Name → (Object → Type 0) → Heap → Type 0
In-heap name P heap = (heap.section ≡ name.section) × ((object : Object) × (slice_get heap.objects name.number ≡ Some object) × P object)

in-heap : (name : Name) (P : Object → Type 0) → ((o : Object) → Decided (P o)) → (heap : Heap) → Decided (In-heap name P heap)
in-heap name P decide heap = both (cases_eq heap.section name.section) (at (slice_get heap.objects name.number) refl)
  where
    at : (o : Option Object) → slice_get heap.objects name.number ≡ o → Decided ((object : Object) × (slice_get heap.objects name.number ≡ Some object) × P object)
    at None got = inr (λ s. nothing (sym got ∙ s.1))
      where
        nothing : {o : Object} → None ≡ Some o → ⊥
        nothing e = cc
    at (Some object) got = of (decide object)
      where
        of : Decided (P object) → Decided ((o : Object) × (slice_get heap.objects name.number ≡ Some o) × P o)
        of (inl p) = inl (object, got, p)
        of (inr n) = inr (λ s. n (subst P (same_Some s.0 object (sym s.1 ∙ got)) s.2))

-- an object of this name, of which this holds
abbrev With-object : List Heap → Name → (Object → Type 0) → Type 0
With-object heaps name P = (object : Object) × HasObject heaps name object × P object

with-object : (heaps : List Heap) (name : Name) (P : Object → Type 0) → ((o : Object) → Decided (P o)) → Decided (With-object heaps name P)
with-object heaps name P decide = of (some-of (In-heap name P) (in-heap name P decide) heaps)
  where
    of : Decided ((heap : Heap) × Contains heaps heap × In-heap name P heap) → Decided (With-object heaps name P)
    of (inl s) = inl (s.2.1.0, (s.0, s.1, s.2.0, s.2.1.1), s.2.1.2)
    of (inr none) = inr (λ w. none (w.1.0, w.1.1, (w.1.2, (w.0, w.1.3, w.2))))

pub is-object : (heaps : List Heap) (name : Name) → Decided (IsObject heaps name)
is-object heaps name = of (with-object heaps name (λ o. Unit {0}) (λ o. inl tt))
  where
    of : Decided (With-object heaps name (λ o. Unit {0})) → Decided (IsObject heaps name)
    of (inl w) = inl (w.0, w.1)
    of (inr none) = inr (λ o. none (o.0, o.1, tt))

pub refers : (heaps : List Heap) (from to : Name) → Decided (RefersTo heaps from to)
refers heaps from to = of (with-object heaps from In (λ object. some-of (λ ref. Names from.section ref to) (λ ref. named from.section ref to) object.refs))
  where
    In : Object → Type 0
    In object = (ref : Ref) × Contains object.refs ref × Names from.section ref to

    of : Decided (With-object heaps from In) → Decided (RefersTo heaps from to)
    of (inl w) = inl (w.0, w.1, w.2.0, w.2.1, w.2.2)
    of (inr none) = inr (λ r. none (r.0, r.1, (r.2, r.3, r.4)))
