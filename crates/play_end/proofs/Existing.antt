-- A script has a list of survivors: what is reachable is found, name by name.
use Rattle.std.proofs.Common.{◌≡◌, ◌⊎◌, inl, inr, ℕ, zero, suc, ◌<◌, refl, ap, sym, subst, arith, List, [], ◌∷◌, ◌++◌, length, map}
use Rattle.std.specs.Prelude.{Contains}
use Rattle.std.specs.List.{All}
use Rattle.std.proofs.lemmas.List.Elements.{All-nil, All-cons, Contains-append_left, Contains-append_right}
use Rattle.std.proofs.lemmas.Option.{slice_get_within}
use Rattle.plain_heap.specs.PlainHeap.{Heap}
use Rattle.plain_heap.specs.Sections.{counted}
use Rattle.plain_heap.specs.PlainRun.{last_heaps}
use Rattle.plain_heap.specs.Paths.{Name, IsObject, IsHeld, RefersTo, IsReachable, Survivor, name_of, HasValue, AreSurvivors, IsOrdered, own}
use Rattle.plain_heap.proofs.Turns.{counted-contains}
use Rattle.plain_heap.proofs.Reaching.{of_reachable, reach_on}
use Rattle.play_end.specs.ReportLaws.{SurvivorsExist}
use Rattle.play_end.proofs.Deciding.{Decided, both, either, neither, some-of, contained, held, is-object, refers, contains-cases, contains-head, contains-tail, nothing-in, map-to}
use Rattle.play_end.proofs.Ordered.{AreDistinct, Ordered, order}

-- all objects of some heaps, by their names
abbrev objects-of : Heap → List Name
objects-of heap = map (own heap) (counted 0 (length heap.objects))

abbrev all-objects : List Heap → List Name
all-objects [] = []
all-objects (heap ∷ heaps) = objects-of heap ++ all-objects heaps

object-listed : (heaps : List Heap) (heap : Heap) (name : Name) → Contains heaps heap → heap.section ≡ name.section → name.number < length heap.objects → Contains (all-objects heaps) name
object-listed [] heap name c s below = absurd (nothing-in heap c)
object-listed (h ∷ heaps) heap name c s below = of (contains-cases h heaps heap c) (λ there. object-listed heaps heap name there s below)
  where
    is : own heap name.number ≡ name
    is = ap (λ (k : ℕ). record { section = k; number = name.number }) s

    here : Contains (objects-of heap) name
    here = subst (λ (n : Name). Contains (objects-of heap) n) is (map-to (own heap) (counted 0 (length heap.objects)) name.number (counted-contains 0 (length heap.objects) name.number (omega arith) (omega (arith, below))))

    of : (h ≡ heap) ⊎ Contains heaps heap → (Contains heaps heap → Contains (all-objects heaps) name) → Contains (objects-of h ++ all-objects heaps) name
    of (inl e) later = Contains-append_left (objects-of h) (all-objects heaps) name (subst (λ (x : Heap). Contains (objects-of x) name) (sym e) here)
    of (inr there) later = Contains-append_right (objects-of h) (all-objects heaps) name (later there)

-- a list without one of its names
record Without (x : Name) (xs : List Name) : Type 0 where
  left : List Name
  shorter : length xs ≡ suc (length left)
  other : (y : Name) → Contains xs y → (x ≡ y) ⊎ Contains left y

without : (xs : List Name) (x : Name) → Contains xs x → Without x xs
without [] x c = absurd (nothing-in x c)
without (z ∷ xs) x c = of (contains-cases z xs x c) (without xs x)
  where
    of : (z ≡ x) ⊎ Contains xs x → (Contains xs x → Without x xs) → Without x (z ∷ xs)
    of (inl e) later = record { left = xs; shorter = refl; other = other }
      where
        other : (y : Name) → Contains (z ∷ xs) y → (x ≡ y) ⊎ Contains xs y
        other y d = subst (λ (w : Name). (w ≡ y) ⊎ Contains xs y) e (contains-cases z xs y d)
    of (inr there) later = record { left = z ∷ (later there).left; shorter = ap (λ (n : ℕ). suc n) (later there).shorter; other = other }
      where
        other : (y : Name) → Contains (z ∷ xs) y → (x ≡ y) ⊎ Contains (z ∷ (later there).left) y
        other y d = at (contains-cases z xs y d)
          where
            further : (x ≡ y) ⊎ Contains (later there).left y → (x ≡ y) ⊎ Contains (z ∷ (later there).left) y
            further (inl e) = inl e
            further (inr f) = inr (contains-tail z (later there).left y f)

            at : (z ≡ y) ⊎ Contains xs y → (x ≡ y) ⊎ Contains (z ∷ (later there).left) y
            at (inl e) = inr (contains-head z (later there).left y e)
            at (inr f) = further ((later there).other y f)

module _ (heaps : List Heap) where
  -- the names that were found are reachable, and no two are the same
  record IsFound (found : List Name) : Type 0 where
    sound : (n : Name) → Contains found n → IsReachable heaps n
    distinct : AreDistinct found

  -- all of them are
  record IsWhole (found : List Name) : Type 0 where
    is : IsFound found
    all : (n : Name) → IsReachable heaps n → Contains found n

  -- an object that wasn't found yet, though it is held, or something that was found refers to it
  abbrev IsNext : List Name → Name → Type 0
  IsNext found x = (Contains found x → ⊥) × (IsObject heaps x × (IsHeld heaps x ⊎ ((from : Name) × Contains found from × RefersTo heaps from x)))

  is-next : (found : List Name) (x : Name) → Decided (IsNext found x)
  is-next found x =
      both (neither (contained found x)) (both (is-object heaps x) (either (held heaps x) (some-of (λ from. RefersTo heaps from x) (λ from. refers heaps from x) found)))

  reached : (found : List Name) → IsFound found → (x : Name) → IsNext found x → IsReachable heaps x
  reached found f x next = of next.1.1
    where
      of : IsHeld heaps x ⊎ ((from : Name) × Contains found from × RefersTo heaps from x) → IsReachable heaps x
      of (inl h) = (next.1.0, [], h)
      of (inr s) = reach_on heaps s.0 x (f.sound s.0 s.1) s.2 next.1.0

  -- if nothing comes next, all was found
  whole : (rest found : List Name) → IsFound found → ((n : Name) → IsObject heaps n → Contains rest n ⊎ Contains found n) → ((x : Name) × Contains rest x × IsNext found x → ⊥) → IsWhole found
  whole rest found f cover none = record { is = f; all = of_reachable heaps (λ n. Contains found n) first later }
    where
      at : (n : Name) → IsObject heaps n → (IsHeld heaps n ⊎ ((from : Name) × Contains found from × RefersTo heaps from n)) → Contains found n
      at n object why = of (contained found n) (cover n object)
        where
          of : Decided (Contains found n) → Contains rest n ⊎ Contains found n → Contains found n
          of (inl c) other = c
          of (inr new) (inl c) = absurd (none (n, c, (new, (object, why))))
          of (inr new) (inr c) = c

      first : (n : Name) → IsObject heaps n → IsHeld heaps n → Contains found n
      first n object h = at n object (inl h)

      later : (from to : Name) → Contains found from → RefersTo heaps from to → IsObject heaps to → Contains found to
      later from to c r object = at to object (inr (from, c, r))

  -- what was found of some heaps, with what is left, leads to all
  abbrev Finds : ℕ → Type 0
  Finds most = (rest found : List Name) → length rest ≡ most → IsFound found → ((n : Name) → IsObject heaps n → Contains rest n ⊎ Contains found n) → (all : List Name) × IsWhole all

  -- one name more is found as long as there is one
  find : (most : ℕ) → Finds most
  find zero rest found long f cover = (found, whole rest found f cover (λ s. none s.0 s.1))
    where
      none : (x : Name) → Contains rest x → ⊥
      none x c = omega (arith, long, c.1)
  find (suc most) rest found long f cover = of (some-of (IsNext found) (is-next found) rest) (find most)
    where
      of : Decided ((x : Name) × Contains rest x × IsNext found x) → Finds most → (all : List Name) × IsWhole all
      of (inr none) go-on = (found, whole rest found f cover none)
      of (inl s) go-on = go-on (without rest s.0 s.1).left (s.0 ∷ found) (omega (arith, long, (without rest s.0 s.1).shorter)) more covered
        where
          more : IsFound (s.0 ∷ found)
          more = record { sound = sound; distinct = (s.2.0, f.distinct) }
            where
              sound : (n : Name) → Contains (s.0 ∷ found) n → IsReachable heaps n
              sound n c = at (contains-cases s.0 found n c)
                where
                  at : (s.0 ≡ n) ⊎ Contains found n → IsReachable heaps n
                  at (inl e) = subst (λ (m : Name). IsReachable heaps m) e (reached found f s.0 s.2)
                  at (inr d) = f.sound n d

          covered : (n : Name) → IsObject heaps n → Contains (without rest s.0 s.1).left n ⊎ Contains (s.0 ∷ found) n
          covered n object = at (cover n object)
            where
              left : (s.0 ≡ n) ⊎ Contains (without rest s.0 s.1).left n → Contains (without rest s.0 s.1).left n ⊎ Contains (s.0 ∷ found) n
              left (inl e) = inr (contains-head s.0 found n e)
              left (inr c) = inl c

              at : Contains rest n ⊎ Contains found n → Contains (without rest s.0 s.1).left n ⊎ Contains (s.0 ∷ found) n
              at (inl c) = left ((without rest s.0 s.1).other n c)
              at (inr c) = inr (contains-tail s.0 found n c)

  reachable-names : (all : List Name) × IsWhole all
  reachable-names = find (length (all-objects heaps)) (all-objects heaps) [] refl (record { sound = λ n c. absurd (nothing-in n c); distinct = tt }) listed
    where
      listed : (n : Name) → IsObject heaps n → Contains (all-objects heaps) n ⊎ Contains [] n
      listed n (object, (heap, there, s, got)) = inl (object-listed heaps heap n there s (slice_get_within heap.objects n.number object got))

  -- names with the values of their objects
  valued : (names : List Name) → ((n : Name) → Contains names n → IsObject heaps n) → (l : List Survivor) × (map name_of l ≡ names) × All (HasValue heaps) l
  valued [] objects = ([], refl, All-nil (HasValue heaps))
  valued (n ∷ names) objects =
      let o = objects n (contains-head n names n refl) in
      let rest = valued names (λ m c. objects m (contains-tail n names m c)) in
      let s : Survivor = record { section = n.section; number = n.number; value = o.0.value } in
      (s ∷ rest.0, ap (λ (l : List Name). n ∷ l) rest.1, All-cons (HasValue heaps) s rest.0 (o.0, o.1, refl) rest.2)

  exist : (l : List Survivor) × AreSurvivors heaps l
  exist = (l.0, record { reachable = record { ordered = subst (λ (x : List Name). IsOrdered x) (sym l.1) ordered.1.ordered; each = each }; values = l.2 })
    where
      names : (all : List Name) × IsWhole all
      names = reachable-names

      ordered : (out : List Name) × Ordered names.0 out
      ordered = order names.0 names.1.is.distinct

      sound : (n : Name) → Contains ordered.0 n → IsReachable heaps n
      sound n c = names.1.is.sound n (ordered.1.from n c)

      l : (l : List Survivor) × (map name_of l ≡ ordered.0) × All (HasValue heaps) l
      l = valued ordered.0 (λ n c. ((sound n c).0.0, (sound n c).0.1))

      each : (n : Name) → (Contains (map name_of l.0) n → IsReachable heaps n) × (IsReachable heaps n → Contains (map name_of l.0) n)
      each n = (
        λ c. sound n (subst (λ (x : List Name). Contains x n) l.1 c),
        λ r. subst (λ (x : List Name). Contains x n) (sym l.1) (ordered.1.to n (names.1.all n r)),
      )

pub survivors_exist : SurvivorsExist
survivors_exist s = exist (last_heaps s)
