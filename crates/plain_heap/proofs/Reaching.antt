-- Marks and paths: what is marked when none waits is what paths reach.
use Rattle.std.proofs.Common.{◌≡◌, ◌⊎◌, inl, inr, ℕ, zero, suc, ◌<◌, refl, ap, sym, ◌∙◌, subst, arith, List, [], ◌∷◌, ◌++◌, length, Bool, true, false}
use Rattle.std.specs.Prelude.{Result, Ok, Err, OnOk, is_err, slice_index_or, slice_get, Option, Some, Contains, replicate}
use Rattle.std.proofs.lemmas.List.{length-replicate}
use Rattle.std.proofs.lemmas.List.Elements.{Contains-push, Contains-push_cases, Contains-append_left}
use Rattle.std.proofs.lemmas.Option.{slice_get_within, slice_get-get_or}
use Rattle.plain_heap.specs.declared.object.Ref.{Ref}
use Rattle.plain_heap.specs.declared.object.Ref.TheVariants as refs
use Rattle.plain_heap.specs.declared.object.Object.{Object}
use Rattle.plain_heap.specs.PlainHeap.{Heap}
use Rattle.plain_heap.specs.Paths.{Name, Names, IsObject, IsHeld, RefersTo, IsPath, IsReachable, AreOwnReachable, own, HasObject}
use Rattle.plain_heap.specs.Marking.{IsMarked, refs_in, refs_at, Marks, IsFollowed, Reaches, AreMarked}
use Rattle.plain_heap.proofs.Marking.{marked_within}

-- what holds of each held object, and goes on from each object to those that it refers to, holds of each reachable one
pub of_reachable : (heaps : List Heap) (P : Name → Type 0)
    → ((name : Name) → IsObject heaps name → IsHeld heaps name → P name)
    → ((from to : Name) → P from → RefersTo heaps from to → IsObject heaps to → P to)
    → (name : Name) → IsReachable heaps name → P name
of_reachable heaps P held next name (object, path, is_path) = along name path object is_path
  where
    along : (name : Name) (path : List Name) → IsObject heaps name → IsPath heaps name path → P name
    along name [] object p = held name object p
    along name (before ∷ path) object p = next before name (along before path (p.0.0, p.0.1) p.1) p.0 object

-- a path goes on
pub reach_on : (heaps : List Heap) (from to : Name) → IsReachable heaps from → RefersTo heaps from to → IsObject heaps to → IsReachable heaps to
reach_on heaps from to r refers object = (object, from ∷ r.1, (refers, r.2))

pub contains_one : {X : Type 0} (x y : X) → Contains (x ∷ []) y → x ≡ y
contains_one x y (zero, below, e) = e
contains_one x y (suc k, below, e) = absurd no
  where
    no : ⊥
    no = grind arith

pub one_contains : {X : Type 0} (x : X) → Contains (x ∷ []) x
one_contains x = (0, omega arith, refl)

contains_none : {x : ℕ} → Contains [] x → ⊥
contains_none c = no c.1
  where
    no : {k : ℕ} → k < 0 → ⊥
    no h = grind arith

is_object : (heap : Heap) (n : ℕ) → n < length heap.objects → IsObject (heap ∷ []) (own heap n)
is_object heap n below = (slice_index_or heap.objects n nothing, (heap, one_contains heap, refl, slice_get-get_or heap.objects n nothing below))
  where
    nothing : Object
    nothing = record { value = 0; refs = [] }

-- in one heap alone every object is its own
section_of : (heap : Heap) (name : Name) → IsObject (heap ∷ []) name → (heap.section ≡ name.section) × (name.number < length heap.objects)
section_of heap name (o, (h, c, e, g)) =
    (ap (λ (x : Heap). x.section) (contains_one heap h c) ∙ e, subst (λ (x : Heap). name.number < length x.objects) (sym (contains_one heap h c)) (slice_get_within h.objects name.number o g))

-- a reference to an object of the same section is an own one
names_own : (section : ℕ) (ref : Ref) (name : Name) → Names section ref name → section ≡ name.section → ref ≡ refs.Own name.number
names_own section refs.Nil name names e = absurd names
names_own section (refs.Own k) name names e = ap (λ (n : ℕ). refs.Own n) (sym names.1)
names_own zero (refs.Cat k) name names e = absurd names
names_own (suc section) (refs.Cat k) name names e = absurd (no (e ∙ names.0))
  where
    no : suc section ≡ 0 → ⊥
    no e = grind arith

-- an object that waits stands in the heap
waits_within : (heap : Heap) (marks : List Bool) (rest : List ℕ) (n : ℕ) → Reaches heap marks (rest ++ n ∷ []) → n < length heap.objects
waits_within heap marks rest n r = subst (λ (l : ℕ). n < l) r.sized (marked_within marks n (r.waits n (Contains-push rest n)))

unmarked : (k n : ℕ) → IsMarked (replicate k false) n → ⊥
unmarked zero n h = cc
unmarked (suc k) zero h = cc
unmarked (suc k) (suc n) h = unmarked k n h

-- what variables hold was marked, and nothing before
pub reaches_first : (heap : Heap) (none marks : List Bool) (nothing waiting : List ℕ) (count : ℕ) → none ≡ replicate count false → count ≡ length heap.objects → nothing ≡ []
    → Marks (λ m. Contains heap.variables (refs.Own m)) none marks nothing waiting → Reaches heap marks waiting
reaches_first heap none marks nothing waiting count e l empty m = record {
  sized = sized;
  sound = λ n h. sound n h (m.only n h);
  held = λ n c below. m.each n c (subst (λ (l : ℕ). n < l) (sym length_none) below);
  followed = λ n h. followed n (m.wait n h);
  waits = λ n c. waits n (m.marked n c);
}
  where
    off : (n : ℕ) → IsMarked none n → ⊥
    off n h = unmarked count n (subst (λ (l : List Bool). IsMarked l n) e h)

    length_none : length none ≡ length heap.objects
    length_none = ap (λ (l : List Bool). length l) e ∙ length-replicate count false ∙ l

    sized : length marks ≡ length heap.objects
    sized = m.sized ∙ length_none

    sound : (n : ℕ) → IsMarked marks n → IsMarked none n ⊎ Contains heap.variables (refs.Own n) → IsReachable (heap ∷ []) (own heap n)
    sound n h (inl a) = absurd (off n a)
    sound n h (inr c) = (is_object heap n (subst (λ (l : ℕ). n < l) sized (marked_within marks n h)), [], (heap, one_contains heap, refs.Own n, c, (refl, refl)))

    followed : (n : ℕ) → IsMarked none n ⊎ Contains waiting n → Contains waiting n ⊎ IsFollowed heap marks n
    followed n (inl a) = absurd (off n a)
    followed n (inr c) = inl c

    waits : (n : ℕ) → Contains nothing n ⊎ IsMarked marks n → IsMarked marks n
    waits n (inl c) = absurd (contains_none (subst (λ (l : List ℕ). Contains l n) empty c))
    waits n (inr h) = h

-- after an object was taken from those that wait, and all that it refers to was marked
reaches_more : (heap : Heap) (n : ℕ) (old new : List Bool) (rest waiting : List ℕ) → Reaches heap old (rest ++ n ∷ [])
    → Marks (λ m. Contains (refs_at heap n) (refs.Own m)) old new rest waiting → Reaches heap new waiting
reaches_more heap n old new rest waiting r m = record {
  sized = m.sized ∙ r.sized;
  sound = λ k h. elim (m.only k h) as (λ x. IsReachable (heap ∷ []) (own heap k)) [ inl a ↦ r.sound k a | inr b ↦ further k h b ];
  held = λ k c below. m.kept k (r.held k c below);
  followed = λ k h. followed k (m.wait k h);
  waits = λ k c. elim (m.marked k c) as (λ x. IsMarked new k) [ inl a ↦ m.kept k (r.waits k (Contains-append_left rest (n ∷ []) k a)) | inr b ↦ b ];
}
  where
    nothing : Object
    nothing = record { value = 0; refs = [] }

    object : Object
    object = slice_index_or heap.objects n nothing

    there : slice_get heap.objects n ≡ Some object
    there = slice_get-get_or heap.objects n nothing (waits_within heap old rest n r)

    within : (k : ℕ) → IsMarked new k → k < length heap.objects
    within k h = subst (λ (l : ℕ). k < l) (m.sized ∙ r.sized) (marked_within new k h)

    further : (k : ℕ) → IsMarked new k → Contains (refs_at heap n) (refs.Own k) → IsReachable (heap ∷ []) (own heap k)
    further k h c = reach_on (heap ∷ []) (own heap n) (own heap k) (r.sound n (r.waits n (Contains-push rest n)))
        (object, (heap, one_contains heap, refl, there), refs.Own k, subst (λ (o : Option Object). Contains (refs_in o) (refs.Own k)) there c, (refl, refl)) (is_object heap k (within k h))

    this_followed : IsFollowed heap new n
    this_followed k c below = m.each k c (subst (λ (l : ℕ). k < l) (sym r.sized) below)

    go_on : (k : ℕ) → IsFollowed heap old k → IsFollowed heap new k
    go_on k f j c below = m.kept j (f j c below)

    old_waiting : (k : ℕ) → Contains rest k ⊎ (n ≡ k) → Contains waiting k ⊎ IsFollowed heap new k
    old_waiting k (inl c) = inl (m.still k c)
    old_waiting k (inr e) = inr (subst (IsFollowed heap new) e this_followed)

    old_cases : (k : ℕ) → Contains (rest ++ n ∷ []) k ⊎ IsFollowed heap old k → Contains waiting k ⊎ IsFollowed heap new k
    old_cases k (inl c) = old_waiting k (Contains-push_cases rest n k c)
    old_cases k (inr f) = inr (go_on k f)

    followed : (k : ℕ) → IsMarked old k ⊎ Contains waiting k → Contains waiting k ⊎ IsFollowed heap new k
    followed k (inl h) = old_cases k (r.followed k h)
    followed k (inr c) = inl c

pub reaches_on : (heap : Heap) (n : ℕ) (old new : List Bool) (all rest waiting : List ℕ) → Reaches heap old all → all ≡ rest ++ n ∷ []
    → Marks (λ m. Contains (refs_at heap n) (refs.Own m)) old new rest waiting → Reaches heap new waiting
reaches_on heap n old new all rest waiting r e m = reaches_more heap n old new rest waiting (subst (λ (l : List ℕ). Reaches heap old l) e r) m

-- if none waits, exactly the reachable objects are marked
pub reaches_all : (heap : Heap) (marks : List Bool) → Reaches heap marks [] → (n : ℕ) → IsReachable (heap ∷ []) (own heap n) → IsMarked marks n
reaches_all heap marks r n reachable = (of_reachable (heap ∷ []) P first next (own heap n) reachable).1
  where
    P : Name → Type 0
    P name = (name.section ≡ heap.section) × IsMarked marks name.number

    first : (name : Name) → IsObject (heap ∷ []) name → IsHeld (heap ∷ []) name → P name
    first name object (h, c, ref, there, names) =
        (sym (section_of heap name object).0, r.held name.number (subst (λ (x : Ref). Contains heap.variables x) is_own (subst (λ (x : Heap). Contains x.variables ref) (sym same) there)) (section_of heap name object).1)
      where
        same : heap ≡ h
        same = contains_one heap h c

        is_own : ref ≡ refs.Own name.number
        is_own = names_own h.section ref name names (ap (λ (x : Heap). x.section) (sym same) ∙ (section_of heap name object).0)

    next : (from to : Name) → P from → RefersTo (heap ∷ []) from to → IsObject (heap ∷ []) to → P to
    next from to p (o, (h, c, e, g), ref, there, names) object = (sym (section_of heap to object).0, onward (r.followed from.number p.1))
      where
        same : heap ≡ h
        same = contains_one heap h c

        is_own : ref ≡ refs.Own to.number
        is_own = names_own from.section ref to names (p.0 ∙ (section_of heap to object).0)

        found : slice_get heap.objects from.number ≡ Some o
        found = subst (λ (x : Heap). slice_get x.objects from.number ≡ Some o) (sym same) g

        onward : Contains [] from.number ⊎ IsFollowed heap marks from.number → IsMarked marks to.number
        onward (inl none) = absurd (contains_none none)
        onward (inr f) = f to.number (subst (λ (x : Option Object). Contains (refs_in x) (refs.Own to.number)) (sym found) (subst (λ (x : Ref). Contains o.refs x) is_own there)) (section_of heap to object).1

-- the marked numbers are those of the objects that are reached
pub reached_numbers : (heap : Heap) (marks : List Bool) (numbers : List ℕ) → Reaches heap marks [] → AreMarked marks (length marks) numbers → AreOwnReachable heap numbers
reached_numbers heap marks numbers r a = record {
  ordered = a.ordered;
  each = λ n. (λ c. r.sound n (a.marked n c), λ h. a.all n (reaches_all heap marks r n h) (marked_within marks n (reaches_all heap marks r n h)));
}

pub on_ok : {T E : Type 0} (P : Type 0) (r : Result T E) → false ≡ is_err r → OnOk r P → P
on_ok P (Ok x) e h = h
on_ok P (Err x) e h = absurd (no e)
  where
    no : false ≡ true → ⊥
    no e = cc

-- What is reachable of a warehouse if other sections stand beside it: what its own references reach.
object-among : (few all : List Heap) → ((h : Heap) → Contains few h → Contains all h) → (name : Name) (object : Object) → HasObject few name object → HasObject all name object
object-among few all within name object (h, c, e, g) = (h, within h c, e, g)

-- what is reachable in some heaps is reachable if others stand beside them
pub reached-among : (few all : List Heap) → ((h : Heap) → Contains few h → Contains all h) → (name : Name) → IsReachable few name → IsReachable all name
reached-among few all within = of_reachable few (IsReachable all) held next
  where
    held : (name : Name) → IsObject few name → IsHeld few name → IsReachable all name
    held name (object, o) (h, c, ref, v, names) = ((object, object-among few all within name object o), [], (h, within h c, ref, v, names))

    next : (from to : Name) → IsReachable all from → RefersTo few from to → IsObject few to → IsReachable all to
    next from to r (object, o, ref, f, names) (other, p) =
        reach_on all from to r (object, object-among few all within from object o, ref, f, names) (other, object-among few all within to other p)

pub reached-beside : (heaps : List Heap) (heap : Heap) → Contains heaps heap → (name : Name) → IsReachable (heap ∷ []) name → IsReachable heaps name
reached-beside heaps heap there = reached-among (heap ∷ []) heaps (λ h c. subst (Contains heaps) (contains_one heap h c) there)

-- no other of these heaps has its section number
abbrev pub IsOnly : List Heap → Heap → Type 0
IsOnly heaps heap = (h : Heap) → Contains heaps h → h.section ≡ heap.section → h ≡ heap

object-alone : (heaps : List Heap) (heap : Heap) (name : Name) (object : Object) → IsOnly heaps heap → name.section ≡ heap.section → HasObject heaps name object → HasObject (heap ∷ []) name object
object-alone heaps heap name object only same (h, c, e, g) =
    (heap, one_contains heap, sym same, subst (λ (x : Heap). slice_get x.objects name.number ≡ Some object) (only h c (e ∙ same)) g)

-- a reference to an object of a warehouse is one of the same warehouse
names-same : (section : ℕ) (ref : Ref) (name : Name) → 0 < name.section → Names section ref name → section ≡ name.section
names-same section refs.Nil name warehouse names = absurd names
names-same section (refs.Own n) name warehouse names = sym names.0
names-same zero (refs.Cat n) name warehouse names = absurd names
names-same (suc section) (refs.Cat n) name warehouse names = absurd (omega (arith, names.0))

-- what is reachable of a warehouse is reachable in its heap alone
pub reached-alone : (heaps : List Heap) (heap : Heap) → IsOnly heaps heap → 0 < heap.section → (name : Name) → IsReachable heaps name → name.section ≡ heap.section → IsReachable (heap ∷ []) name
reached-alone heaps heap only warehouse = of_reachable heaps (λ name. name.section ≡ heap.section → IsReachable (heap ∷ []) name) held next
  where
    held : (name : Name) → IsObject heaps name → IsHeld heaps name → name.section ≡ heap.section → IsReachable (heap ∷ []) name
    held name (object, o) (h, c, ref, v, names) same =
        let mine : h ≡ heap = only h c (names-same h.section ref name (omega (arith, same)) names ∙ same) in (
          (object, object-alone heaps heap name object only same o),
          [],
          (heap, one_contains heap, ref, subst (λ (x : Heap). Contains x.variables ref) mine v, subst (λ (x : Heap). Names x.section ref name) mine names),
        )

    next : (from to : Name) → (from.section ≡ heap.section → IsReachable (heap ∷ []) from) → RefersTo heaps from to → IsObject heaps to → to.section ≡ heap.section → IsReachable (heap ∷ []) to
    next from to p (object, o, ref, f, names) (other, q) same =
        let mine : from.section ≡ heap.section = names-same from.section ref to (omega (arith, same)) names ∙ same in
        reach_on (heap ∷ []) from to (p mine) (object, object-alone heaps heap from object only mine o, ref, f, names) (other, object-alone heaps heap to other only same q)
