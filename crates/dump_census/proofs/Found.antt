-- One more record that is given a level.
use Rattle.std.proofs.Common.{◌≡◌, ℕ, zero, suc, ◌+◌, ◌<◌, ◌⊎◌, List, [], ◌∷◌, length, get_or, set, Bool, true, false, cond, Option, Some, None, refl, sym, ap, ◌∙◌, inl, inr, arith, map, subst}
use Rattle.std.specs.Prelude.{count_by, replicate}
use Rattle.std.proofs.lemmas.Bool.{cases_eq, eq-eqb, ne_eqb}
use Rattle.std.proofs.lemmas.List.{get_or-set_same, get_or-set_other, get_or_past, ext_get_or, get_or-map, length-map}
use Rattle.std.proofs.lemmas.List.Sums.{sum_by-cons, sum_by-set}
use Rattle.dump_census.specs.Rounds.{is_at, is_unknown}
use Rattle.plain_heap.specs.PlainHeap.{Heap as Plain}
use Rattle.plain_heap.specs.Paths as plain
use Rattle.plain_heap.specs.Paths.{Name, Survivor}
use Rattle.heap_dump.specs.Final.{DumpedHeap, blank}
use Rattle.dump_census.specs.Levels.{HasPath, IsLevel, AreLevels}
use Rattle.dump_census.specs.Counted.{CensusCounts, IsCensus}
use Rattle.dump_census.specs.Surviving.{survivor_of_record, name_of_record, TellsSurvivors}

abbrev pub Found : Type 0
Found = List (Option ℕ)

abbrev pub at : Found → ℕ → Option ℕ
at found k = get_or found k None

pub cases_known : (o : Option ℕ) → (o ≡ None) ⊎ ((n : ℕ) × (o ≡ Some n))
cases_known None = inl refl
cases_known (Some n) = inr (n, refl)

pub same_level : (m n : ℕ) → Some m ≡ Some n → m ≡ n
same_level m n e = cc

pub known_not_new : (o : Option ℕ) (n : ℕ) → o ≡ None → o ≡ Some n → ⊥
known_not_new o n e f = absurd (none_some n (sym e ∙ f))
  where
    none_some : (n : ℕ) → None ≡ Some n → ⊥
    none_some n e = cc

-- a known level is a record's
pub known_within : (found : Found) (k n : ℕ) → at found k ≡ Some n → k < length found
known_within [] zero n e = absurd (known_not_new None n refl e)
known_within [] (suc k) n e = absurd (known_not_new None n refl e)
known_within (x ∷ found) zero n e = omega arith
known_within (x ∷ found) (suc k) n e = let lt = known_within found k n e in omega arith

-- what the change of one place shows
pub set_shows : (found : Found) (k v j n : ℕ) → k < length found → at (set found k (Some v)) j ≡ Some n → ((j ≡ k) × (n ≡ v)) ⊎ (at found j ≡ Some n)
set_shows found k v j n lt e =
    elim (cases_eq j k) [
      | inl same ↦ inl (same, same_level n v (sym e ∙ ap (λ i. at (set found k (Some v)) i) same ∙ get_or-set_same found k (Some v) None lt))
      | inr other ↦ inr (sym (get_or-set_other found k j (Some v) None other) ∙ e)
    ]

-- what was known stays
pub set_keeps : (found : Found) (k v j n : ℕ) → at found k ≡ None → at found j ≡ Some n → at (set found k (Some v)) j ≡ Some n
set_keeps found k v j n new e =
    let other : j ≡ k → ⊥ = λ same. known_not_new (at found j) n (ap (λ i. at found i) same ∙ new) e in
    get_or-set_other found k j (Some v) None other ∙ e

-- what an element adds to a count
abbrev pub one : (Option ℕ → Bool) → Option ℕ → ℕ
one p o = cond (p o) 1 0

-- how many pass a test after a new level
pub set_counts : (p : Option ℕ → Bool) (found : Found) (k v : ℕ) → k < length found → at found k ≡ None
    → count_by p (set found k (Some v)) + cond (p None) 1 0 ≡ count_by p found + cond (p (Some v)) 1 0
set_counts p found k v lt new =
    ap (λ (o : Option ℕ). count_by p (set found k (Some v)) + cond (p o) 1 0) (sym new) ∙ sum_by-set (λ o. cond (p o) 1 0) found k (Some v) None lt

pub at_level : (n : ℕ) → is_at n (Some n) ≡ true
at_level n = eq-eqb n n refl

pub at_other : (m n : ℕ) → (n ≡ m → ⊥) → is_at m (Some n) ≡ false
at_other m n ne = ne_eqb n m ne

pub one_more : (p : Option ℕ → Bool) (o : Option ℕ) (found : Found) → count_by p (o ∷ found) ≡ cond (p o) 1 0 + count_by p found
one_more p o found = sum_by-cons (λ x. cond (p x) 1 0) o found

-- no record at a level
pub none_at : (found : Found) (n : ℕ) → ((k : ℕ) → at found k ≡ Some n → ⊥) → count_by (is_at n) found ≡ 0
none_at [] n h = refl
none_at (None ∷ found) n h = omega (arith, one_more (is_at n) None found, none_at found n (λ k. h (suc k)))
none_at (Some m ∷ found) n h =
    let other : is_at n (Some m) ≡ false = at_other n m (λ e. h zero (ap Some e)) in
    let zero_here : one (is_at n) (Some m) ≡ 0 = ap (λ b. cond {A = ℕ} b 1 0) other in
    omega (arith, one_more (is_at n) (Some m) found, none_at found n (λ k. h (suc k)), zero_here)

-- some record at a level
pub some_at : (found : Found) (n : ℕ) → 0 < count_by (is_at n) found → (k : ℕ) × (at found k ≡ Some n)
some_at [] n lt = absurd (omega arith)
some_at (None ∷ found) n lt = let later = some_at found n (omega (arith, one_more (is_at n) None found)) in (suc later.0, later.1)
some_at (Some m ∷ found) n lt =
    elim (cases_eq m n) [
      | inl same ↦ (zero, ap Some same)
      | inr other ↦ (
          let zero_here : one (is_at n) (Some m) ≡ 0 = ap (λ b. cond {A = ℕ} b 1 0) (at_other n m other) in
          let later = some_at found n (omega (arith, one_more (is_at n) (Some m) found, zero_here)) in
          (suc later.0, later.1))
    ]

-- no record is known in the beginning
pub nothing_known : (n k : ℕ) → at (replicate n None) k ≡ None
nothing_known zero k = get_or_past {X = Option ℕ} [] k None (omega arith)
nothing_known (suc n) zero = refl
nothing_known (suc n) (suc k) = nothing_known n k

pub all_unknown : (n : ℕ) → count_by is_unknown (replicate n None) ≡ n
all_unknown zero = refl
all_unknown (suc n) = omega (arith, one_more is_unknown None (replicate n None), all_unknown n)

-- In a dump of survivors each record is reached; and a record has one level.
abbrev names : DumpedHeap → List Name
names h = map plain.name_of (map survivor_of_record h.records)

names_long : (h : DumpedHeap) → length (names h) ≡ length h.records
names_long h = length-map (map survivor_of_record h.records) plain.name_of ∙ length-map h.records survivor_of_record

name_is : (h : DumpedHeap) (k : ℕ) (d : Name) → k < length h.records → get_or (names h) k d ≡ name_of_record h k
name_is h k d lt =
    get_or-map plain.name_of (map survivor_of_record h.records) k (survivor_of_record blank) d (omega (arith, length-map h.records survivor_of_record))
    ∙ ap plain.name_of (get_or-map survivor_of_record h.records k blank (survivor_of_record blank) lt)

-- a record's object is reachable, and a reachable object has a record
record_reached : (heaps : List Plain) (h : DumpedHeap) → TellsSurvivors heaps h → (k : ℕ) → k < length h.records → plain.IsReachable heaps (name_of_record h k)
record_reached heaps h t k lt = (t.survivors.reachable.each (name_of_record h k)).0 (k, omega (arith, names_long h), name_is h k (name_of_record h k) lt)

reached_record : (heaps : List Plain) (h : DumpedHeap) → TellsSurvivors heaps h → (name : Name) → plain.IsReachable heaps name → (k : ℕ) × (k < length h.records) × (name_of_record h k ≡ name)
reached_record heaps h t name r =
    let c = (t.survivors.reachable.each name).1 r in
    let lt : c.0 < length h.records = omega (arith, c.1, names_long h) in
    (c.0, lt, sym (name_is h c.0 name lt) ∙ c.2)

-- a path of objects is one of records
path_told : (heaps : List Plain) (h : DumpedHeap) → TellsSurvivors heaps h → (path : List Name) (k : ℕ) → k < length h.records → plain.IsPath heaps (name_of_record h k) path → (n : ℕ) × HasPath h n k
path_told heaps h t [] k lt held = (zero, t.variables k lt held)
path_told heaps h t (before ∷ path) k lt (refers, p) =
    let j = reached_record heaps h t before ((refers.0, refers.1), path, p) in
    let back = sym j.2 in
    let earlier = path_told heaps h t path j.0 j.1 (subst (λ (name : Name). plain.IsPath heaps name path) back p) in
    (suc earlier.0, (j.0, earlier.1, t.fields j.0 k j.1 lt (subst (λ (name : Name). plain.RefersTo heaps name (name_of_record h k)) back refers)))

none_unknown : (found : Found) → ((k : ℕ) → k < length found → at found k ≡ None → ⊥) → count_by is_unknown found ≡ 0
none_unknown [] h = refl
none_unknown (None ∷ found) h = absurd (h zero (omega arith) refl)
none_unknown (Some n ∷ found) h = omega (arith, one_more is_unknown (Some n) found, none_unknown found (λ k lt. h (suc k) (omega arith)))

pub survivors_reached : (heaps : List Plain) (h : DumpedHeap) (c : CensusCounts) → TellsSurvivors heaps h → IsCensus h c → c.unreached ≡ 0
survivors_reached heaps h c t q =
    q.unreached ∙ none_unknown q.of (λ k lt none.
    let small : k < length h.records = omega (arith, q.leveled.0) in
    let reached = record_reached heaps h t k small in
    let told = path_told heaps h t reached.1 k small reached.2 in
    subst (IsLevel h k) none (q.leveled.1 k small) told.0 told.1)

-- ---- a record has one level

one_level : (h : DumpedHeap) (k : ℕ) (a b : Option ℕ) → IsLevel h k a → IsLevel h k b → a ≡ b
one_level h k None None p q = refl
one_level h k None (Some n) p q = absurd (p n q.0)
one_level h k (Some m) None p q = absurd (q m p.0)
one_level h k (Some m) (Some n) p q = let e : m ≡ n = omega (arith, p.1 n q.0, q.1 m p.0) in ap Some e

pub levels_fixed : (h : DumpedHeap) (a b : Found) → AreLevels h a → AreLevels h b → a ≡ b
levels_fixed h a b p q = ext_get_or None a b (p.0 ∙ sym q.0) (λ k lt.
    let small : k < length h.records = omega (arith, p.0) in
    one_level h k (at a k) (at b k) (p.1 k small) (q.1 k small))
