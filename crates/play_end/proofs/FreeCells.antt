-- What one order of all commands means for each section.
use Rattle.std.proofs.Common.{◌≡◌, ◌⊎◌, inl, inr, ℕ, zero, suc, ◌+◌, ◌-◌, ◌<◌, refl, ap, sym, ◌∙◌, subst, arith, List, [], ◌∷◌, length, take, Bool, true, false, cond, eqb, eqb-true, Some}
use Rattle.std.specs.Prelude.{count_by, slice_get, Contains}
use Rattle.std.proofs.lemmas.List.{length-map}
use Rattle.std.proofs.lemmas.List.Sums.{sum_by-cons}
use Rattle.std.proofs.lemmas.Option.{get_or_from_slice_get}
use Rattle.plain_heap.specs.PlainHeap.{Heap}
use Rattle.plain_heap.specs.Sections.{Sections, section_numbers, executed_of, end_of, IsNext}
use Rattle.plain_heap.specs.PlainRun.{plain, part_end, catalogue_end, heaps_at}
use Rattle.plain_heap.specs.Placement.{AreOfTurn, LiesIn, position}
use Rattle.plain_heap.proofs.Turns.{section-count, at-part-end, at-catalogue-end}
use Rattle.plain_heap.proofs.Reaching.{reached-among}
use Rattle.plain_heap.proofs.Steps.{next-before}
use Rattle.play_report.specs.Order.{done_in, heaps_done}
use Rattle.play_end.specs.ReportLaws.{CellsAreFree}
use Rattle.play_end.proofs.SectionLists.{contains_got, map-at, one-of-two, of-first}

-- how many of these are w
abbrev count : List ℕ → ℕ → ℕ
count xs w = count_by (λ v. eqb v w) xs

-- the command of this number of section w has its place in the order
abbrev HasPlace : List ℕ → ℕ → ℕ → Type 0
HasPlace xs w k = (i : ℕ) × (slice_get xs i ≡ Some w) × (count (take i xs) w ≡ k)

place-of : (xs : List ℕ) (w k : ℕ) → k < count xs w → HasPlace xs w k
place-of [] w k low = absurd (omega (arith, low))
place-of (x ∷ xs) w k low = of (eqb x w) refl k low (place-of xs w)
  where
    more : (ys : List ℕ) → count (x ∷ ys) w ≡ cond (eqb x w) 1 0 + count ys w
    more ys = sum_by-cons (λ (v : ℕ). cond (eqb v w) 1 0) x ys

    of : (b : Bool) → eqb x w ≡ b → (k : ℕ) → k < count (x ∷ xs) w → ((j : ℕ) → j < count xs w → HasPlace xs w j) → HasPlace (x ∷ xs) w k
    of true is zero low later = (0, ap Some (eqb-true x w is), refl)
    of true is (suc k) low later =
        let one : cond {A = ℕ} (eqb x w) 1 0 ≡ 1 = ap (λ (b : Bool). cond {A = ℕ} b 1 0) is in
        let p = later k (omega (arith, low, more xs, one)) in
        (suc p.0, p.1, omega (arith, more (take p.0 xs), one, p.2))
    of false is k low later =
        let none : cond {A = ℕ} (eqb x w) 1 0 ≡ 0 = ap (λ (b : Bool). cond {A = ℕ} b 1 0) is in
        let p = later k (omega (arith, low, more xs, none)) in
        (suc p.0, p.1, omega (arith, more (take p.0 xs), none, p.2))

-- how many commands of section w an order has
done-is : (s : Sections) (order : List ℕ) (w : ℕ) → w < length (section_numbers s) → position (done_in s order) w ≡ count order w
done-is s order w low = get_or_from_slice_get (done_in s order) w (count order w) 0 (map-at (count order) s w low)

-- what stands before a command is among all heaps then
before-among : (s : Sections) (done : List ℕ) (w k z : ℕ) (h : Heap) → length done ≡ length (section_numbers s) → w < length (section_numbers s) → position done w ≡ k → AreOfTurn s done w z → Contains (heaps_at s w k z) h → Contains (heaps_done s done) h
before-among s done zero k z h long low here turn there = of (of-first (plain s 0 k) h (λ u. part_end s u (z - 1)) (length s.warehouses) there)
  where
    of : (h ≡ plain s 0 k) ⊎ ((u : ℕ) × (u < length s.warehouses) × (h ≡ part_end s (suc u) (z - 1))) → Contains (heaps_done s done) h
    of (inl is) = contains_got (heaps_done s done) 0 h (map-at (λ w. plain s w (position done w)) s 0 low ∙ ap Some (ap (plain s 0) here ∙ sym is))
    of (inr (u, inside, is)) =
        let low' : suc u < length (section_numbers s) = omega (arith, inside, section-count s) in
        let at : position done (suc u) ≡ end_of s (suc u) (z - 1) = turn.2 (suc u) (omega arith) (omega (arith, low', long)) in
        contains_got (heaps_done s done) (suc u) h
        (map-at (λ w. plain s w (position done w)) s (suc u) low' ∙ ap Some (ap (plain s (suc u)) at ∙ (at-part-end s (suc u) (z - 1) ∙ sym is)))
before-among s done (suc w) k z h long low here turn there = of (one-of-two (catalogue_end s z) (plain s (suc w) k) h there)
  where
    of : (h ≡ catalogue_end s z) ⊎ (h ≡ plain s (suc w) k) → Contains (heaps_done s done) h
    of (inl is) =
        contains_got (heaps_done s done) 0 h (map-at (λ w. plain s w (position done w)) s 0 (omega (arith, low)) ∙ ap Some (ap (plain s 0) turn.0 ∙ (at-catalogue-end s z ∙ sym is)))
    of (inr is) = contains_got (heaps_done s done) (suc w) h (map-at (λ w. plain s w (position done w)) s (suc w) low ∙ ap Some (ap (plain s (suc w)) here ∙ sym is))

pub cells-free : CellsAreFree
cells-free s cells places p w k z e low next new name cell reach lies there =
    let all : count p.order w ≡ length (executed_of s w) = sym (done-is s p.order w low) ∙ p.is_order.whole w low in
    let at = place-of p.order w k (omega (arith, all, next-before s w k z e next)) in
    let done : List ℕ = done_in s (take at.0 p.order) in
    let here : position done w ≡ k = done-is s (take at.0 p.order) w low ∙ at.2 in
    let is : IsNext s w (position done w) z e = subst (λ (j : ℕ). IsNext s w j z e) (sym here) next in
    let long : length done ≡ length (section_numbers s) = length-map (section_numbers s) (count (take at.0 p.order)) in
    p.free at.0 w at.1 z e is new name cell
    (reached-among (heaps_at s w k z) (heaps_done s done) (λ h c. before-among s done w k z h long low here (p.is_order.turns at.0 w z e at.1 is) c) name reach) lies
    (subst (λ (j : ℕ). LiesIn places (record { section = w; number = length (plain s w j).objects }) cell) (sym here) there)
