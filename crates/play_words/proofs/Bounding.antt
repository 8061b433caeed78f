-- If few objects of each section are reachable, the cells are never all taken.
use Rattle.std.proofs.Common.{◌≡◌, ℕ, zero, suc, ◌+◌, ◌<◌, ◌≤◌, refl, ap, sym, ◌∙◌, subst, arith, List, length, map, get_or}
use Rattle.std.specs.Prelude.{Contains, All, sum_by}
use Rattle.std.proofs.lemmas.List.{length-map, get_or-map}
use Rattle.std.proofs.lemmas.List.Elements.{Contains-get_or}
use Rattle.std.proofs.lemmas.List.Sums.{sum_by-cons}
use Rattle.std.proofs.lemmas.Option.{slice_get_within}
use Rattle.plain_heap.specs.PlainHeap.{Heap}
use Rattle.plain_heap.specs.Sections.{Sections, section_numbers, warehouse_numbers, executed_of, made_by, counted}
use Rattle.plain_heap.specs.PlainRun.{plain}
use Rattle.plain_heap.specs.Paths.{Name, IsObject, IsReachable, AreReachable, AreOwnReachable, own}
use Rattle.plain_heap.specs.Placement.{position, IsFilled}
use Rattle.play_words.specs.Bounded.{KeepsFew}
use Rattle.plain_heap.proofs.Turns.{section-count, section-at}
use Rattle.plain_heap.proofs.Steps.{plain-section, objects-most}
use Rattle.plain_heap.proofs.Reaching.{IsOnly, reached-beside, reached-alone}
use Rattle.plain_heap.proofs.SectionNames.{numbers_of, numbers-contain, numbers-contained, numbers-ordered, sum-most, names-few, rising-few}

-- the heap of a section at these positions, and those of all sections
abbrev heap_at : Sections → List ℕ → ℕ → Heap
heap_at s done w = plain s w (position done w)

abbrev all_heaps : Sections → List ℕ → List Heap
all_heaps s done = map (heap_at s done) (section_numbers s)

-- each section has its heap among them, and no other
heap-there : (s : Sections) (done : List ℕ) (w : ℕ) → w < length (section_numbers s) → Contains (all_heaps s done) (heap_at s done w)
heap-there s done w below =
    (w, omega (arith, below, length-map (section_numbers s) (heap_at s done)), get_or-map (heap_at s done) (section_numbers s) w 0 (heap_at s done w) below ∙ ap (heap_at s done) (section-at s w 0 below))

heap-of : (s : Sections) (done : List ℕ) (h : Heap) → Contains (all_heaps s done) h → (h.section < length (section_numbers s)) × (h ≡ heap_at s done h.section)
heap-of s done h (k, below, is) =
    let inside : k < length (section_numbers s) = omega (arith, below, length-map (section_numbers s) (heap_at s done)) in
    let here : heap_at s done k ≡ h = ap (heap_at s done) (sym (section-at s k 0 inside)) ∙ sym (get_or-map (heap_at s done) (section_numbers s) k 0 h inside) ∙ is in
    let number : k ≡ h.section = sym (plain-section s k (position done k)) ∙ ap (λ (x : Heap). x.section) here in
    (omega arith, sym here ∙ ap (heap_at s done) number)

heap-only : (s : Sections) (done : List ℕ) (w : ℕ) → IsOnly (all_heaps s done) (heap_at s done w)
heap-only s done w h there same = (heap-of s done h there).1 ∙ ap (heap_at s done) (same ∙ plain-section s w (position done w))

-- an object among them is of one of the sections, and has a number below that of its objects
object-of : (s : Sections) (done : List ℕ) (name : Name) → IsObject (all_heaps s done) name → (name.section < length (section_numbers s)) × (name.number < length (heap_at s done name.section).objects)
object-of s done name (object, (h, there, is, got)) =
    let mine = heap-of s done h there in
    let same : h ≡ heap_at s done name.section = mine.1 ∙ ap (heap_at s done) is in
    (omega (arith, mine.0, is), omega (arith, slice_get_within h.objects name.number object got, ap (λ (x : Heap). length x.objects) same))

-- of a warehouse are reachable those that its own references reach
own-numbers : (s : Sections) (done : List ℕ) (names : List Name) (w : ℕ) → 0 < w → w < length (section_numbers s) → AreReachable (all_heaps s done) names → AreOwnReachable (heap_at s done w) (numbers_of w names)
own-numbers s done names w warehouse below r = record {
  ordered = numbers-ordered w names r.ordered;
  each = λ n. (
    λ c. reached-alone (all_heaps s done) heap (heap-only s done w) (omega (arith, warehouse, number)) (own heap n) (subst (λ (v : ℕ). IsReachable (all_heaps s done) (named v n)) (sym number) ((r.each (named w n)).0 (numbers-contained w n names c))) refl,
    λ reached. numbers-contain w n names ((r.each (named w n)).1 (subst (λ (v : ℕ). IsReachable (all_heaps s done) (named v n)) number (reached-beside (all_heaps s done) heap (heap-there s done w below) (own heap n) reached))),
  );
}
  where
    heap : Heap
    heap = heap_at s done w

    number : heap.section ≡ w
    number = plain-section s w (position done w)

    named : ℕ → ℕ → Name
    named v n = record { section = v; number = n }

-- of the catalogue are reachable at most those that it makes
catalogue-numbers : (s : Sections) (done : List ℕ) (names : List Name) → AreReachable (all_heaps s done) names → All (λ n. n < made_by (executed_of s 0)) (numbers_of 0 names)
catalogue-numbers s done names r k d inside =
    let n : ℕ = get_or (numbers_of 0 names) k d in
    let there = numbers-contained 0 n names (Contains-get_or (numbers_of 0 names) k d inside) in
    let object = object-of s done (record { section = 0; number = n }) ((r.each (record { section = 0; number = n })).0 there).0 in
    omega (arith, object.1, objects-most s 0 (position done 0))

-- what is reachable of section w at most
abbrev bound : ℕ → (ℕ → ℕ) → ℕ → ℕ
bound made most zero = made
bound made most (suc w) = most (suc w)

-- at any positions at most this many objects are reachable
pub few-reachable : (s : Sections) (done : List ℕ) (names : List Name) (most : ℕ → ℕ) → ((w : ℕ) → 0 < w → w < length (section_numbers s) → KeepsFew s w (most w))
    → AreReachable (map (λ w. plain s w (position done w)) (section_numbers s)) names → length names ≤ made_by (executed_of s 0) + sum_by most (warehouse_numbers s)
few-reachable s done names most keeps r = omega (arith, all, sum_by-cons (bound made most) 0 (warehouse_numbers s), warehouses)
  where
    made : ℕ
    made = made_by (executed_of s 0)

    each : (w : ℕ) → w < length (section_numbers s) → length (numbers_of w names) ≤ bound made most w
    each zero below = rising-few (numbers_of 0 names) made (numbers-ordered 0 names r.ordered) (catalogue-numbers s done names r)
    each (suc w) below = keeps (suc w) (omega arith) below (position done (suc w)) (numbers_of (suc w) names) (own-numbers s done names (suc w) (omega arith) below r)

    within : All (λ name. name.section < length (section_numbers s)) names
    within k d inside = (object-of s done (get_or names k d) ((r.each (get_or names k d)).0 (Contains-get_or names k d inside)).0).0

    all : length names ≤ sum_by (bound made most) (section_numbers s)
    all = subst (λ (n : ℕ). length names ≤ sum_by (bound made most) (counted 0 n)) (section-count s ∙ (let e : 1 + length s.warehouses ≡ suc (length s.warehouses) = omega arith in e)) (names-few names (bound made most) (length (section_numbers s)) within each)

    warehouses : sum_by (bound made most) (warehouse_numbers s) ≤ sum_by most (warehouse_numbers s)
    warehouses = sum-most (bound made most) most 1 (length s.warehouses) same
      where
        same : (w : ℕ) → 1 ≤ w → w < 1 + length s.warehouses → bound made most w ≤ most w
        same zero from to = absurd (omega arith)
        same (suc w) from to = omega arith

-- this many cells are never all taken
pub few-never-fill : (s : Sections) (cells section : ℕ) (done : List ℕ) (most : ℕ → ℕ) → ((w : ℕ) → 0 < w → w < length (section_numbers s) → KeepsFew s w (most w))
    → made_by (executed_of s 0) + sum_by most (warehouse_numbers s) < cells → IsFilled s cells section done → ⊥
few-never-fill s cells section done most keeps room filled = omega (arith, room, filled.full, few-reachable s done filled.names most keeps filled.reachable)
