-- The heaps of sections after their turns before a season: which turns count, and that over more heaps more is reachable.
use Rattle.std.proofs.Common.{ℕ, ◌≡◌, ◌+◌, ◌<◌, ◌≤◌, zero, suc, List, [], ◌∷◌, ◌++◌, set, arith, refl, sym, ap, ◌∙◌, Bool, false, Some}
use Rattle.std.specs.Prelude.{slice_get, nat_lt, if◌then◌else◌, Contains}
use Rattle.std.proofs.lemmas.Bool.{false_from_ne_true, ltb-true, lt-ltb}
use Rattle.mark_core.specs.declared.kinds.Shape.{Shape}
use Rattle.plain_heap.specs.PlainHeap.{Heap, empty_heap}
use Rattle.plain_heap.specs.Paths.{Name, HasObject, IsHeld, IsObject, RefersTo, IsReachable}
use Rattle.plain_heap.specs.declared.object.Object.{Object}
use Rattle.plain_heap.proofs.Reaching.{of_reachable, reach_on}
use Rattle.gc_table.specs.StandsFor.{heaps_of}
use Rattle.gc_table.specs.Told.{heap_before, heaps_before}
use Rattle.gc_table.specs.TableState.{meanings_of}
use Rattle.gc_table.specs.declared.view.PlainStep.{PlainStep}
use Rattle.gc_table.specs.declared.view.SectionState.{SectionState}

-- what is reachable over some heaps is reachable over more
pub reach-more : (heaps more : List Heap) → ((h : Heap) → Contains heaps h → Contains more h) → (name : Name) → IsReachable heaps name → IsReachable more name
reach-more heaps more f = of_reachable heaps (IsReachable more) held next
  where
    there : (name : Name) (object : Object) → HasObject heaps name object → HasObject more name object
    there name object (heap, c, e, g) = (heap, f heap c, e, g)

    held : (name : Name) → IsObject heaps name → IsHeld heaps name → IsReachable more name
    held name (object, has) (heap, c, ref, v, names) = ((object, there name object has), [], (heap, f heap c, ref, v, names))

    next : (from to : Name) → IsReachable more from → RefersTo heaps from to → IsObject heaps to → IsReachable more to
    next from to r (object, has, ref, c, names) (target, is) = reach_on more from to r (object, there from object has, ref, c, names) (target, there to target is)

not_before : (a b : ℕ) → b ≤ a → nat_lt a b ≡ false
not_before a b h = false_from_ne_true (nat_lt a b) (λ e. omega (arith, h, ltb-true a b e))

-- a turn of this season or a later one doesn't count
pub before-late : (season : ℕ) (heap : Heap) (ts : List PlainStep) (t : PlainStep) → season ≤ t.season → heap_before season heap (ts ++ t ∷ []) ≡ heap_before season heap ts
before-late season heap [] t h = ap (λ (b : Bool). if b then t.heap else heap) (not_before t.season season h)
before-late season heap (u ∷ ts) t h = before-late season (if nat_lt u.season season then u.heap else heap) ts t h

-- if each turn was before a season, the next season has the same heap
pub before-next : (season : ℕ) (heap : Heap) (ts : List PlainStep) → ((n : ℕ) (t : PlainStep) → slice_get ts n ≡ Some t → t.season < season) → heap_before season heap ts ≡ heap_before (season + 1) heap ts
before-next season heap [] h = refl
before-next season heap (u ∷ ts) h =
    let l : u.season < season = h 0 u refl in
    let same : nat_lt u.season season ≡ nat_lt u.season (season + 1) = lt-ltb u.season season l ∙ sym (lt-ltb u.season (season + 1) (omega (arith, l))) in
    ap (λ (b : Bool). heap_before season (if b then u.heap else heap) ts) same ∙ before-next season (if nat_lt u.season (season + 1) then u.heap else heap) ts (λ n t g. h (suc n) t g)

-- a section that changes leaves the heaps, if its turns before the season mean the same
pub heaps-set : (sh : Shape) (season w : ℕ) (xs : List SectionState) (k : ℕ) (y : SectionState)
    → ((x : SectionState) → slice_get xs k ≡ Some x → (base : Heap) → heap_before season base y.history ≡ heap_before season base x.history) → heaps_before sh season w (set xs k y) ≡ heaps_before sh season w xs
heaps-set sh season w [] k y h = refl
heaps-set sh season w (x ∷ xs) zero y h = ap (λ (b : Heap). b ∷ heaps_before sh season (w + 1) xs) (h x refl (empty_heap sh.fields w))
heaps-set sh season w (x ∷ xs) (suc k) y h = ap (λ (bs : List Heap). heap_before season (empty_heap sh.fields w) x.history ∷ bs) (heaps-set sh season (w + 1) xs k y h)

-- they are those of now, if the turns before the season are all
pub heaps-now : (sh : Shape) (season w : ℕ) (xs : List SectionState)
    → ((k j : ℕ) (x : SectionState) → j ≡ w + k → slice_get xs k ≡ Some x → heap_before season (empty_heap sh.fields j) x.history ≡ x.meaning.heap) → heaps_before sh season w xs ≡ heaps_of (meanings_of xs)
heaps-now sh season w [] h = refl
heaps-now sh season w (x ∷ xs) h =
    ap (λ (b : Heap). b ∷ heaps_before sh season (w + 1) xs) (h 0 w x (omega arith) refl)
    ∙ ap (λ (bs : List Heap). x.meaning.heap ∷ bs) (heaps-now sh season (w + 1) xs (λ k j y e g. h (suc k) j y (omega (arith, e)) g))
