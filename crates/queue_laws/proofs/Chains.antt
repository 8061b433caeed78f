-- Lists of names, what comes behind each, and lists with one element more.
use Rattle.std.proofs.Common.{ℕ, ◌≡◌, ◌⊎◌, ◌≤◌, ◌==◌, zero, suc, List, [], ◌∷◌, ◌++◌, length, arith, refl, sym, ap, ◌∙◌, subst, Bool, true, false, None, Some, inl, inr, ⊎_elim}
use Rattle.std.specs.Prelude.{if◌then◌else◌, slice_get}
use Rattle.std.proofs.lemmas.Bool.{false≢true, false_from_ne_true, or_cases, or_left, or_parts, or_right, true≢false}
use Rattle.std.proofs.lemmas.Option.{same_Some}
use Rattle.plain_heap.specs.Paths.{Name}
use Rattle.gc_table.specs.RunWorlds.{is_same}
use Rattle.gc_table.proofs.Exchanges.{same-as}
use Rattle.gc_table.proofs.Forgetting.{same-is}
use Rattle.gc_table.proofs.Reading.{none-some}
use Rattle.queue_laws.specs.Queues.{AreDistinct, Item, behind, by_seat, is_in, nodes_of}

-- both are one name
abbrev is_name : Name → Name → Bool
is_name x y = is_same (Some x) (Some y)

pub same_name : (x y : Name) → is_name x y ≡ true → x ≡ y
same_name x y e = same_Some x y (same-is (Some x) (Some y) e)

pub is_itself : (x y : Name) → x ≡ y → is_name x y ≡ true
is_itself x y e = subst (λ (z : Name). is_name x z ≡ true) e (same-as (Some x))

-- elements
pub get_more : {X : Type 0} (xs ys : List X) (p : ℕ) (x : X) → slice_get xs p ≡ Some x → slice_get (xs ++ ys) p ≡ Some x
get_more [] ys zero x e = absurd (none-some x e)
get_more [] ys (suc p) x e = absurd (none-some x e)
get_more (z ∷ xs) ys zero x e = e
get_more (z ∷ xs) ys (suc p) x e = get_more xs ys p x e

pub snoc_cases : {X : Type 0} (xs : List X) (y z : X) (p : ℕ) → slice_get (xs ++ y ∷ []) p ≡ Some z → (slice_get xs p ≡ Some z) ⊎ ((p ≡ length xs) × (z ≡ y))
snoc_cases [] y z zero e = inr (refl, same_Some z y (sym e))
snoc_cases [] y z (suc p) e = absurd (none-some z e)
snoc_cases (x ∷ xs) y z zero e = inl e
snoc_cases (x ∷ xs) y z (suc p) e =
    ⊎_elim (λ (f : slice_get xs p ≡ Some z). inl f) (λ (f : (p ≡ length xs) × (z ≡ y)). inr (ap (λ (n : ℕ). suc n) f.0, f.1)) (snoc_cases xs y z p e)

pub none_past : {X : Type 0} (xs : List X) (p : ℕ) → slice_get xs p ≡ None → length xs ≤ p
none_past [] p e = omega arith
none_past (x ∷ xs) zero e = absurd (none-some x (sym e))
none_past (x ∷ xs) (suc p) e = let r = none_past xs p e in omega (arith, r)

pub length_snoc : {X : Type 0} (xs : List X) (y : X) → length (xs ++ y ∷ []) ≡ suc (length xs)
length_snoc [] y = refl
length_snoc (x ∷ xs) y = ap (λ (n : ℕ). suc n) (length_snoc xs y)

-- names in a list
pub get_in : (xs : List Name) (p : ℕ) (a : Name) → slice_get xs p ≡ Some a → is_in xs a ≡ true
get_in [] zero a e = absurd (none-some a e)
get_in [] (suc p) a e = absurd (none-some a e)
get_in (x ∷ xs) zero a e = or_left (is_name x a) (is_in xs a) (is_itself x a (same_Some x a e))
get_in (x ∷ xs) (suc p) a e = or_right (is_name x a) (is_in xs a) (get_in xs p a e)

pub in_more : (xs ys : List Name) (a : Name) → is_in xs a ≡ true → is_in (xs ++ ys) a ≡ true
in_more [] ys a e = absurd (false≢true e)
in_more (x ∷ xs) ys a e =
    ⊎_elim
    (λ (t : is_name x a ≡ true). or_left (is_name x a) (is_in (xs ++ ys) a) t)
    (λ (t : is_in xs a ≡ true). or_right (is_name x a) (is_in (xs ++ ys) a) (in_more xs ys a t))
    (or_cases (is_name x a) (is_in xs a) e)

pub in_snoc : (xs : List Name) (n a : Name) → is_in (xs ++ n ∷ []) a ≡ true → (is_in xs a ≡ true) ⊎ (n ≡ a)
in_snoc [] n a e = ⊎_elim (λ (t : is_name n a ≡ true). inr (same_name n a t)) (λ (f : false ≡ true). absurd (false≢true f)) (or_cases (is_name n a) false e)
in_snoc (x ∷ xs) n a e =
    ⊎_elim
    (λ (t : is_name x a ≡ true). inl (or_left (is_name x a) (is_in xs a) t))
    (λ (t : is_in (xs ++ n ∷ []) a ≡ true). ⊎_elim (λ (i : is_in xs a ≡ true). inl (or_right (is_name x a) (is_in xs a) i)) (λ (s : n ≡ a). inr s) (in_snoc xs n a t))
    (or_cases (is_name x a) (is_in (xs ++ n ∷ []) a) e)

pub distinct_snoc : (xs : List Name) (n : Name) → AreDistinct xs → is_in xs n ≡ false → AreDistinct (xs ++ n ∷ [])
distinct_snoc [] n d fresh = (refl, tt)
distinct_snoc (x ∷ xs) n d fresh =
    let p = or_parts (is_name x n) (is_in xs n) fresh in (
      false_from_ne_true (is_in (xs ++ n ∷ []) x)
          (λ t.
          ⊎_elim
          (λ (i : is_in xs x ≡ true). true≢false (sym i ∙ d.0))
          (λ (s : n ≡ x). true≢false (sym (is_itself x n (sym s)) ∙ p.0))
          (in_snoc xs n x t)),
      distinct_snoc xs n d.1 p.1,
    )

-- what comes behind a name
pub behind_none : (xs : List Name) (a : Name) → is_in xs a ≡ false → behind xs a ≡ None
behind_none [] a e = refl
behind_none (x ∷ xs) a e =
    let p = or_parts (is_name x a) (is_in xs a) e in
    ap (λ (b : Bool). if b then slice_get xs 0 else behind xs a) p.0 ∙ behind_none xs a p.1

pub behind_in : (xs : List Name) (a b : Name) → behind xs a ≡ Some b → is_in xs b ≡ true
behind_in [] a b e = absurd (none-some b e)
behind_in (x ∷ xs) a b e = or_right (is_name x b) (is_in xs b) (by_same (is_name x a) e (λ f. behind_in xs a b f))
  where
    by_same : (t : Bool) → (if t then slice_get xs 0 else behind xs a) ≡ Some b → (behind xs a ≡ Some b → is_in xs b ≡ true) → is_in xs b ≡ true
    by_same true f rest = get_in xs 0 b f
    by_same false f rest = rest f

pub behind_more : (xs ys : List Name) (a b : Name) → behind xs a ≡ Some b → behind (xs ++ ys) a ≡ Some b
behind_more [] ys a b e = absurd (none-some b e)
behind_more (x ∷ xs) ys a b e = by_same (is_name x a) e (λ f. behind_more xs ys a b f)
  where
    by_same : (t : Bool) → (if t then slice_get xs 0 else behind xs a) ≡ Some b → (behind xs a ≡ Some b → behind (xs ++ ys) a ≡ Some b) → (if t then slice_get (xs ++ ys) 0 else behind (xs ++ ys) a) ≡ Some b
    by_same true f rest = get_more xs ys 0 b f
    by_same false f rest = rest f

-- of distinct names the next one comes behind each
pub next_at : (xs : List Name) (p : ℕ) (a : Name) → AreDistinct xs → slice_get xs p ≡ Some a → behind xs a ≡ slice_get xs (suc p)
next_at [] zero a d e = absurd (none-some a e)
next_at [] (suc p) a d e = absurd (none-some a e)
next_at (x ∷ xs) zero a d e = ap (λ (b : Bool). if b then slice_get xs 0 else behind xs a) (is_itself x a (same_Some x a e))
next_at (x ∷ xs) (suc p) a d e = ap (λ (b : Bool). if b then slice_get xs 0 else behind xs a) differ ∙ next_at xs p a d.1 e
  where
    differ : is_name x a ≡ false
    differ =
        false_from_ne_true (is_name x a)
        (λ t. true≢false (sym (subst (λ (z : Name). is_in xs z ≡ true) (sym (same_name x a t)) (get_in xs p a e)) ∙ d.0))

-- each is in one place
pub distinct_at : (xs : List Name) (p r : ℕ) (a : Name) → AreDistinct xs → slice_get xs p ≡ Some a → slice_get xs r ≡ Some a → p ≡ r
distinct_at [] zero r a d e f = absurd (none-some a e)
distinct_at [] (suc p) r a d e f = absurd (none-some a e)
distinct_at (x ∷ xs) zero zero a d e f = refl
distinct_at (x ∷ xs) zero (suc r) a d e f = absurd (true≢false (sym (subst (λ (z : Name). is_in xs z ≡ true) (sym (same_Some x a e)) (get_in xs r a f)) ∙ d.0))
distinct_at (x ∷ xs) (suc p) zero a d e f = absurd (true≢false (sym (subst (λ (z : Name). is_in xs z ≡ true) (sym (same_Some x a f)) (get_in xs p a e)) ∙ d.0))
distinct_at (x ∷ xs) (suc p) (suc r) a d e f = ap (λ (n : ℕ). suc n) (distinct_at xs p r a d.1 e f)

if_swapped : {X : Type 0} (p q : Bool) (u v w z : X) → (p ≡ true → q ≡ false) → z ≡ (if q then u else w) → (if p then v else z) ≡ (if q then u else (if p then v else w))
if_swapped true true u v w z h e = absurd (true≢false (h refl))
if_swapped true false u v w z h e = refl
if_swapped false true u v w z h e = e
if_swapped false false u v w z h e = e

-- a name that is put behind one, behind which there was none
pub next_snoc : (xs : List Name) (m n a : Name) → is_in xs m ≡ true → behind xs m ≡ None → behind (xs ++ n ∷ []) a ≡ (if is_name m a then Some n else behind xs a)
next_snoc [] m n a i e = absurd (false≢true i)
next_snoc (x ∷ []) m n a i e =
    ⊎_elim
    (λ (t : is_name x m ≡ true). subst (λ (z : Name). behind (x ∷ n ∷ []) a ≡ (if is_name z a then Some n else behind (x ∷ []) a)) (same_name x m t) (by_same (is_name x a) (is_name n a)))
    (λ (f : false ≡ true). absurd (false≢true f))
    (or_cases (is_name x m) false i)
  where
    by_same : (p q : Bool) → (if p then Some n else (if q then None else None)) ≡ (if p then Some n else (if p then None else None))
    by_same true q = refl
    by_same false true = refl
    by_same false false = refl
next_snoc (x ∷ y ∷ ys) m n a i e =
    if_swapped (is_name x a) (is_name m a) (Some n) (Some y) (behind (y ∷ ys) a) (behind ((y ∷ ys) ++ n ∷ []) a)
    (λ t.
    false_from_ne_true (is_name m a)
    (λ u. true≢false (sym (is_itself x m (same_name x a t ∙ sym (same_name m a u))) ∙ other)))
    (next_snoc (y ∷ ys) m n a there (sym (ap (λ (b : Bool). if b then Some y else behind (y ∷ ys) m) other) ∙ e))
  where
    other : is_name x m ≡ false
    other = false_from_ne_true (is_name x m) (λ t. none-some y (sym e ∙ ap (λ (b : Bool). if b then Some y else behind (y ∷ ys) m) t))

    there : is_in (y ∷ ys) m ≡ true
    there = ⊎_elim (λ (t : is_name x m ≡ true). absurd (true≢false (sym t ∙ other))) (λ (t : is_in (y ∷ ys) m ≡ true). t) (or_cases (is_name x m) (is_in (y ∷ ys) m) i)

-- nodes of items
pub nodes_append : (xs ys : List Item) → nodes_of (xs ++ ys) ≡ nodes_of xs ++ nodes_of ys
nodes_append [] ys = refl
nodes_append (x ∷ xs) ys = ap (λ (l : List Name). x.node ∷ l) (nodes_append xs ys)

pub nodes_length : (xs : List Item) → length (nodes_of xs) ≡ length xs
nodes_length [] = refl
nodes_length (x ∷ xs) = ap (λ (n : ℕ). suc n) (nodes_length xs)

pub node_at : (xs : List Item) (p : ℕ) (n : Name) → slice_get (nodes_of xs) p ≡ Some n → (x : Item) × (slice_get xs p ≡ Some x) × (x.node ≡ n)
node_at [] zero n e = absurd (none-some n e)
node_at [] (suc p) n e = absurd (none-some n e)
node_at (x ∷ xs) zero n e = (x, refl, same_Some x.node n e)
node_at (x ∷ xs) (suc p) n e = node_at xs p n e

pub node_of : (xs : List Item) (p : ℕ) (x : Item) → slice_get xs p ≡ Some x → slice_get (nodes_of xs) p ≡ Some x.node
node_of [] zero x e = absurd (none-some x e)
node_of [] (suc p) x e = absurd (none-some x e)
node_of (z ∷ xs) zero x e = ap (λ (n : Name). Some n) (ap (λ (y : Item). y.node) (same_Some z x e))
node_of (z ∷ xs) (suc p) x e = node_of xs p x e

-- what a seat put in
pub by_append : (i : ℕ) (xs ys : List Item) → by_seat i (xs ++ ys) ≡ by_seat i xs ++ by_seat i ys
by_append i [] ys = refl
by_append i (x ∷ xs) ys = by_same (x.seat == i) (by_append i xs ys)
  where
    by_same : (b : Bool) → by_seat i (xs ++ ys) ≡ by_seat i xs ++ by_seat i ys → (if b then x ∷ by_seat i (xs ++ ys) else by_seat i (xs ++ ys)) ≡ (if b then x ∷ by_seat i xs else by_seat i xs) ++ by_seat i ys
    by_same true e = ap (λ (l : List Item). x ∷ l) e
    by_same false e = e
