-- A test that some objects are exactly the reachable ones: a path to each, and nothing that leads out of them.
use Rattle.std.proofs.Common.{◌≡◌, ◌⊎◌, inl, inr, ℕ, zero, suc, ◌<◌, refl, ap, sym, ◌∙◌, subst, arith, List, [], ◌∷◌, length, map, Bool, true, false, not, nat_lt}
use Rattle.std.specs.Prelude.{◌==◌, ◌&&◌, ◌||◌, slice_get, slice_index_or, Option, Some, None, Contains, All, Any}
use Rattle.std.specs.List.{list_all, list_any}
use Rattle.std.proofs.lemmas.List.Sums.{AllPass-from_list_all}
use Rattle.std.proofs.lemmas.List.Folds.{Any-from_list_any}
use Rattle.std.proofs.lemmas.List.Elements.{All-contains, All-map}
use Rattle.std.proofs.lemmas.List.Kept.{AllPairs-cons}
use Rattle.plain_heap.specs.declared.object.Ref.{Ref}
use Rattle.plain_heap.specs.declared.object.Ref.TheVariants as refs
use Rattle.plain_heap.specs.declared.object.Object.{Object}
use Rattle.plain_heap.specs.PlainHeap.{Heap}
use Rattle.plain_heap.specs.Paths.{Name, Names, IsObject, IsHeld, RefersTo, IsPath, IsReachable, ComesBefore, IsOrdered, Survivor, name_of, HasValue, AreSurvivors}
use Rattle.plain_heap.specs.Marking.{refs_in}
use Rattle.plain_heap.proofs.Reaching.{of_reachable}

abbrev pub same : Name → Name → Bool
same a b = (a.section == b.section) && (a.number == b.number)

abbrev pub has : List Name → Name → Bool
has all name = list_any (λ other. same other name) all

-- a reference in a section is to this object
abbrev pub names : ℕ → Name → Ref → Bool
names section name refs.Nil = false
names section name (refs.Own n) = (name.section == section) && (name.number == n)
names zero name (refs.Cat n) = false
names (suc section) name (refs.Cat n) = (name.section == 0) && (name.number == n)

-- a reference in a section is to one of these, if to any
abbrev pub stays : List Name → ℕ → Ref → Bool
stays all section refs.Nil = true
stays all section (refs.Own n) = has all (record { section = section; number = n })
stays all zero (refs.Cat n) = true
stays all (suc section) (refs.Cat n) = has all (record { section = 0; number = n })

abbrev pub is_path : List Heap → Name → List Name → Bool
is_path heaps name [] = list_any (λ heap. list_any (names heap.section name) heap.variables) heaps
is_path heaps name (before ∷ path) =
    list_any (λ heap. (heap.section == before.section) && list_any (names before.section name) (refs_in (slice_get heap.objects before.number))) heaps
    && is_path heaps before path

abbrev pub is_value : ℕ → Option Object → Bool
is_value value None = false
is_value value (Some object) = object.value == value

abbrev pub has_value : List Heap → Survivor → Bool
has_value heaps s = list_any (λ heap. (heap.section == s.section) && is_value s.value (slice_get heap.objects s.number)) heaps

abbrev pub is_before : Name → Name → Bool
is_before a b = nat_lt a.section b.section || ((a.section == b.section) && nat_lt a.number b.number)

abbrev pub is_ordered : List Name → Bool
is_ordered [] = true
is_ordered (name ∷ names) = list_all (is_before name) names && is_ordered names

-- what variables hold, and what these refer to, is among these
abbrev pub is_closed : List Heap → List Name → Bool
is_closed heaps all =
    list_all (λ heap. list_all (stays all heap.section) heap.variables) heaps
    && list_all (λ name. list_all (λ heap. not (heap.section == name.section) || list_all (stays all name.section) (refs_in (slice_get heap.objects name.number))) heaps) all

-- a survivor, and the objects before it on a path, the last one first
pub record Witness : Type 0 where
  pub survivor : Survivor
  pub path : List Name

abbrev pub is_witness : List Heap → Witness → Bool
is_witness heaps w = has_value heaps w.survivor && is_path heaps (name_of w.survivor) w.path

abbrev pub survivors_of : List Witness → List Survivor
survivors_of ws = map (λ w. w.survivor) ws

abbrev pub are_found : List Heap → List Witness → Bool
are_found heaps ws = list_all (is_witness heaps) ws && (is_ordered (map name_of (survivors_of ws)) && is_closed heaps (map name_of (survivors_of ws)))

pub both : (a b : Bool) → (a && b) ≡ true → (a ≡ true) × (b ≡ true)
both true b e = (refl, e)
both false b e = absurd (no e)
  where
    no : false ≡ true → ⊥
    no e = cc

one_of : (a b : Bool) → (a || b) ≡ true → (a ≡ true) ⊎ (b ≡ true)
one_of true b e = inl refl
one_of false b e = inr e

never : false ≡ true → ⊥
never e = cc

equal : (a b : ℕ) → (a == b) ≡ true → a ≡ b
equal a b e = grind (arith, e)

below : (a b : ℕ) → nat_lt a b ≡ true → a < b
below a b e = grind (arith, e)

unequal : (a b : ℕ) → not (a == b) ≡ true → a ≡ b → ⊥
unequal a b e f = grind (arith, e, f)

same_name : (a b : Name) → same a b ≡ true → a ≡ b
same_name a b e = parts (equal a.section b.section (both _ _ e).0) (equal a.number b.number (both _ _ e).1)
  where
    parts : a.section ≡ b.section → a.number ≡ b.number → a ≡ b
    parts s n = ap (λ (k : ℕ). record { section = k; number = a.number }) s ∙ ap (λ (k : ℕ). record { section = b.section; number = k }) n

named : (section : ℕ) (name : Name) (ref : Ref) → names section name ref ≡ true → Names section ref name
named section name refs.Nil e = absurd (never e)
named section name (refs.Own n) e = (equal _ _ (both _ _ e).0, equal _ _ (both _ _ e).1)
named zero name (refs.Cat n) e = absurd (never e)
named (suc section) name (refs.Cat n) e = (equal _ _ (both _ _ e).0, equal _ _ (both _ _ e).1)

-- a reference that stays leads to one of these
staying : (all : List Name) (section : ℕ) (name : Name) (ref : Ref) → stays all section ref ≡ true → Names section ref name → has all name ≡ true
staying all section name refs.Nil e n = absurd n
staying all section name (refs.Own k) e n = subst (λ (m : Name). has all m ≡ true) (named_so section k n.0 n.1) e
  where
    named_so : (s k : ℕ) → name.section ≡ s → name.number ≡ k → record { section = s; number = k } ≡ name
    named_so s k e f = ap (λ (x : ℕ). record { section = x; number = k }) (sym e) ∙ ap (λ (x : ℕ). record { section = name.section; number = x }) (sym f)
staying all zero name (refs.Cat k) e n = absurd n
staying all (suc section) name (refs.Cat k) e n = subst (λ (m : Name). has all m ≡ true) (named_so 0 k n.0 n.1) e
  where
    named_so : (s k : ℕ) → name.section ≡ s → name.number ≡ k → record { section = s; number = k } ≡ name
    named_so s k e f = ap (λ (x : ℕ). record { section = x; number = k }) (sym e) ∙ ap (λ (x : ℕ). record { section = name.section; number = x }) (sym f)

contained : (all : List Name) (name : Name) → has all name ≡ true → Contains all name
contained all name e = of (Any-from_list_any (λ other. same other name) all e)
  where
    of : Any (λ other. same other name ≡ true) all → Contains all name
    of (k, other, b, at, s) = subst (λ (m : Name). Contains all m) (same_name other name s) (k, b, at)

refs_of : (f : Ref → Bool) (o : Option Object) → list_any f (refs_in o) ≡ true → (object : Object) × (o ≡ Some object) × Any (λ ref. f ref ≡ true) object.refs
refs_of f None e = absurd (never e)
refs_of f (Some object) e = (object, refl, Any-from_list_any f object.refs e)

pathed : (heaps : List Heap) (name : Name) (path : List Name) → is_path heaps name path ≡ true → IsPath heaps name path
pathed heaps name [] e = of (Any-from_list_any (λ heap. list_any (names heap.section name) heap.variables) heaps e)
  where
    of : Any (λ heap. list_any (names heap.section name) heap.variables ≡ true) heaps → IsHeld heaps name
    of (k, heap, b, at, s) = on (Any-from_list_any (names heap.section name) heap.variables s)
      where
        on : Any (λ ref. names heap.section name ref ≡ true) heap.variables → IsHeld heaps name
        on (j, ref, c, there, n) = (heap, (k, b, at), ref, (j, c, there), named heap.section name ref n)
pathed heaps name (before ∷ path) e = (of (Any-from_list_any _ heaps (both _ _ e).0), pathed heaps before path (both _ _ e).1)
  where
    of : Any (λ heap. ((heap.section == before.section) && list_any (names before.section name) (refs_in (slice_get heap.objects before.number))) ≡ true) heaps → RefersTo heaps before name
    of (k, heap, b, at, s) = on (refs_of (names before.section name) (slice_get heap.objects before.number) (both _ _ s).1)
      where
        on : (object : Object) × (slice_get heap.objects before.number ≡ Some object) × Any (λ ref. names before.section name ref ≡ true) object.refs → RefersTo heaps before name
        on (object, got, (j, ref, c, there, n)) = (object, (heap, (k, b, at), equal _ _ (both _ _ s).0, got), ref, (j, c, there), named before.section name ref n)

valued : (heaps : List Heap) (s : Survivor) → has_value heaps s ≡ true → HasValue heaps s
valued heaps s e = of (Any-from_list_any _ heaps e)
  where
    of : Any (λ heap. ((heap.section == s.section) && is_value s.value (slice_get heap.objects s.number)) ≡ true) heaps → HasValue heaps s
    of (k, heap, b, at, t) = on (slice_get heap.objects s.number) refl (both _ _ t).1
      where
        on : (o : Option Object) → slice_get heap.objects s.number ≡ o → is_value s.value o ≡ true → HasValue heaps s
        on None got v = absurd (never v)
        on (Some object) got v = (object, (heap, (k, b, at), equal _ _ (both _ _ t).0, got), equal _ _ v)

ordered : (all : List Name) → is_ordered all ≡ true → IsOrdered all
ordered [] e = λ i j d less short. absurd (no j short)
  where
    no : (j : ℕ) → j < 0 → ⊥
    no j h = grind arith
ordered (name ∷ all) e = AllPairs-cons ComesBefore name all (λ k d short. before (slice_index_or all k d) (AllPass-from_list_all (is_before name) all (both _ _ e).0 k d short)) (ordered all (both _ _ e).1)
  where
    before : (other : Name) → is_before name other ≡ true → ComesBefore name other
    before other b = of (one_of _ _ b)
      where
        of : (nat_lt name.section other.section ≡ true) ⊎ (((name.section == other.section) && nat_lt name.number other.number) ≡ true) → ComesBefore name other
        of (inl l) = inl (below _ _ l)
        of (inr r) = inr (equal _ _ (both _ _ r).0, below _ _ (both _ _ r).1)

closed : (heaps : List Heap) (all : List Name) → is_closed heaps all ≡ true → (name : Name) → IsReachable heaps name → Contains all name
closed heaps all e name r = of_reachable heaps (Contains all) first next name r
  where
    first : (name : Name) → IsObject heaps name → IsHeld heaps name → Contains all name
    first name object (heap, c, ref, there, n) = contained all name (staying all heap.section name ref stay n)
      where
        in_heap : list_all (stays all heap.section) heap.variables ≡ true
        in_heap = All-contains (λ h. list_all (stays all h.section) h.variables ≡ true) heaps heap (AllPass-from_list_all (λ h. list_all (stays all h.section) h.variables) heaps (both (list_all (λ h. list_all (stays all h.section) h.variables) heaps) (list_all (λ m. list_all (λ h. not (h.section == m.section) || list_all (stays all m.section) (refs_in (slice_get h.objects m.number))) heaps) all) e).0) c

        stay : stays all heap.section ref ≡ true
        stay = All-contains (λ r. stays all heap.section r ≡ true) heap.variables ref (AllPass-from_list_all (stays all heap.section) heap.variables in_heap) there

    next : (from to : Name) → Contains all from → RefersTo heaps from to → IsObject heaps to → Contains all to
    next from to p (object, (heap, c, s, got), ref, there, n) object_to = contained all to (staying all from.section to ref (of (one_of _ _ in_heap)) n)
      where
        in_name : list_all (λ h. not (h.section == from.section) || list_all (stays all from.section) (refs_in (slice_get h.objects from.number))) heaps ≡ true
        in_name = All-contains (λ m. list_all (λ h. not (h.section == m.section) || list_all (stays all m.section) (refs_in (slice_get h.objects m.number))) heaps ≡ true) all from (AllPass-from_list_all (λ m. list_all (λ h. not (h.section == m.section) || list_all (stays all m.section) (refs_in (slice_get h.objects m.number))) heaps) all (both (list_all (λ h. list_all (stays all h.section) h.variables) heaps) (list_all (λ m. list_all (λ h. not (h.section == m.section) || list_all (stays all m.section) (refs_in (slice_get h.objects m.number))) heaps) all) e).1) p

        in_heap : (not (heap.section == from.section) || list_all (stays all from.section) (refs_in (slice_get heap.objects from.number))) ≡ true
        in_heap = All-contains (λ h. (not (h.section == from.section) || list_all (stays all from.section) (refs_in (slice_get h.objects from.number))) ≡ true) heaps heap (AllPass-from_list_all (λ h. not (h.section == from.section) || list_all (stays all from.section) (refs_in (slice_get h.objects from.number))) heaps in_name) c

        of : (not (heap.section == from.section) ≡ true) ⊎ (list_all (stays all from.section) (refs_in (slice_get heap.objects from.number)) ≡ true) → stays all from.section ref ≡ true
        of (inl other) = absurd (unequal _ _ other s)
        of (inr l) = All-contains (λ r. stays all from.section r ≡ true) object.refs ref (AllPass-from_list_all (stays all from.section) object.refs (subst (λ (o : Option Object). list_all (stays all from.section) (refs_in o) ≡ true) got l)) there

-- survivors that pass the test are the survivors
pub found : (heaps : List Heap) (ws : List Witness) → are_found heaps ws ≡ true → AreSurvivors heaps (survivors_of ws)
found heaps ws e = record {
  reachable = record {
    ordered = ordered (map name_of (survivors_of ws)) (both _ _ (both _ _ e).1).0;
    each = λ name. (λ c. All-contains (IsReachable heaps) (map name_of (survivors_of ws)) name reachable c, closed heaps (map name_of (survivors_of ws)) (both _ _ (both _ _ e).1).1 name);
  };
  values = values;
}
  where
    witness : (k : ℕ) (d : Witness) → k < length ws → is_witness heaps (slice_index_or ws k d) ≡ true
    witness = AllPass-from_list_all (is_witness heaps) ws (both _ _ e).0

    values : All (HasValue heaps) (survivors_of ws)
    values = All-map (HasValue heaps) (λ w. w.survivor) ws (λ k d short. valued heaps (slice_index_or ws k d).survivor (both _ _ (witness k d short)).0)

    reached : (w : Witness) → is_witness heaps w ≡ true → IsReachable heaps (name_of w.survivor)
    reached w t = (object (valued heaps w.survivor (both (has_value heaps w.survivor) (is_path heaps (name_of w.survivor) w.path) t).0), w.path, pathed heaps (name_of w.survivor) w.path (both (has_value heaps w.survivor) (is_path heaps (name_of w.survivor) w.path) t).1)
      where
        object : HasValue heaps w.survivor → IsObject heaps (name_of w.survivor)
        object (o, h, v) = (o, h)

    reachable : All (IsReachable heaps) (map name_of (survivors_of ws))
    reachable = All-map (IsReachable heaps) name_of (survivors_of ws) (All-map (λ s. IsReachable heaps (name_of s)) (λ w. w.survivor) ws (λ k d short. reached (slice_index_or ws k d) (witness k d short)))
