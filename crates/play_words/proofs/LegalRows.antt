-- Places that are legal: in the script that `docs/HEADLINE.md` walks through each object may have a cell of its own.
use Rattle.std.proofs.Common.{ℕ, zero, suc, ◌≡◌, ◌≢◌, ◌<◌, ◌≤◌, ◌-◌, ◌∙◌, ⊎_elim, refl, sym, ap, subst, arith, List, [], ◌∷◌, length, take, false, cond, eqb, inl, inr, Some}
use Rattle.std.specs.Prelude.{◌==◌, ◌⊎◌, count_by, is_some, slice_get, slice_index_or}
use Rattle.std.proofs.lemmas.Bool.{cases_eq, false≢true}
use Rattle.std.proofs.lemmas.List.Sums.{sum_by-cons}
use Rattle.std.proofs.lemmas.Option.{same_Some, slice_get_within}
use Rattle.plain_heap.specs.PlainHeap.{Heap}
use Rattle.plain_heap.specs.Sections.{Execution, IsNext, end_of, executed_of, part_of, parts_of}
use Rattle.plain_heap.specs.PlainRun.{last_heap, plain}
use Rattle.plain_heap.specs.Paths.{IsReachable, Name}
use Rattle.plain_heap.specs.Placement.{AreOfTurn, LiesIn, cells_of, position}
use Rattle.plain_heap.proofs.Steps.{plain-section}
use Rattle.play_report.specs.Order.{IsPlaced, TakesFreeCell, done_in, heaps_done}
use Rattle.play_end.proofs.SectionLists.{one-of-two}
use Rattle.play_words.proofs.PlaceRows.{kept}

-- object n of the warehouse in cell n
abbrev own_cells : List (List ℕ)
own_cells = [] ∷ (0 ∷ 1 ∷ 2 ∷ 3 ∷ []) ∷ []

number-is : (n cell : ℕ) → slice_get (0 ∷ 1 ∷ 2 ∷ 3 ∷ []) n ≡ Some cell → n ≡ cell
number-is zero cell e = same_Some 0 cell e
number-is (suc zero) cell e = same_Some 1 cell e
number-is (suc (suc zero)) cell e = same_Some 2 cell e
number-is (suc (suc (suc zero))) cell e = same_Some 3 cell e
number-is (suc (suc (suc (suc n)))) cell e = absurd (false≢true (ap is_some e))

lies-at : (section n cell : ℕ) → slice_get (cells_of own_cells section) n ≡ Some cell → (section ≡ 1) × (n ≡ cell)
lies-at zero n cell e = absurd (false≢true (ap is_some e))
lies-at (suc zero) n cell e = (refl, number-is n cell e)
lies-at (suc (suc section)) n cell e = absurd (false≢true (ap is_some e))

below : (k : ℕ) (d : List ℕ) → k < length own_cells → (n e : ℕ) → n < length (slice_index_or own_cells k d) → slice_index_or (slice_index_or own_cells k d) n e < 64
below zero d low n e inside = absurd (omega (arith, inside))
below (suc zero) d low zero e inside = omega arith
below (suc zero) d low (suc zero) e inside = omega arith
below (suc zero) d low (suc (suc zero)) e inside = omega arith
below (suc zero) d low (suc (suc (suc zero))) e inside = omega arith
below (suc zero) d low (suc (suc (suc (suc n)))) e inside = let few : suc (suc (suc (suc n))) < 4 = inside in absurd (omega (arith, few))
below (suc (suc k)) d low n e inside = let few : suc (suc k) < 2 = low in absurd (omega (arith, few))

each : (w : ℕ) → w < 2 → length (cells_of own_cells w) ≡ length (last_heap kept w).objects
each zero low = refl
each (suc zero) low = refl
each (suc (suc w)) low = absurd (omega (arith, low))

-- the order: the warehouse's commands, one after the other
abbrev ones : ℕ → List ℕ
ones zero = []
ones (suc n) = 1 ∷ ones n

abbrev done : ℕ → List ℕ
done k = done_in kept (take k (ones 9))

is-one : (n k w : ℕ) → slice_get (ones n) k ≡ Some w → 1 ≡ w
is-one zero k w e = absurd (false≢true (ap is_some e))
is-one (suc n) zero w e = same_Some 1 w e
is-one (suc n) (suc k) w e = is-one n k w e

catalogue-none : (n k : ℕ) → count_by (λ v. v == 0) (take k (ones n)) ≡ 0
catalogue-none zero zero = refl
catalogue-none zero (suc k) = refl
catalogue-none (suc n) zero = refl
catalogue-none (suc n) (suc k) = let more = sum_by-cons (λ (v : ℕ). cond {A = ℕ} (eqb v 0) 1 0) 1 (take k (ones n)) in omega (arith, more, catalogue-none n k)

at-most : (n k : ℕ) → count_by (λ v. v == 1) (take k (ones n)) ≤ n
at-most zero zero = omega arith
at-most zero (suc k) = omega arith
at-most (suc n) zero = omega arith
at-most (suc n) (suc k) = let more = sum_by-cons (λ (v : ℕ). cond {A = ℕ} (eqb v 1) 1 0) 1 (take k (ones n)) in omega (arith, more, at-most n k)

whole : (w : ℕ) → w < 2 → position (done_in kept (ones 9)) w ≡ length (executed_of kept w)
whole zero low = refl
whole (suc zero) low = refl
whole (suc (suc w)) low = absurd (omega (arith, low))

no-later : (n place : ℕ) (e : Execution) → 0 < n → slice_get (slice_index_or (parts_of kept 1) n []) place ≡ Some e → ⊥
no-later zero place e low there = absurd (omega (arith, low))
no-later (suc n) place e low there = absurd (false≢true (ap is_some there))

one-season : (z place : ℕ) (e : Execution) → 0 < z → slice_get (part_of kept 1 z) place ≡ Some e → 1 ≡ z
one-season z place e low there = ⊎_elim (λ (same : z ≡ 1). sym same) (λ (other : z ≢ 1). absurd (no-later (z - 1) place e (omega (arith, low, other)) there)) (cases_eq z 1)

first-season : (k w : ℕ) → 0 < w → w < 2 → (end_of kept w 0 ≤ position (done k) w) × (position (done k) w ≤ end_of kept w 1)
first-season k zero low inside = absurd (omega (arith, low))
first-season k (suc zero) low inside = (omega arith, at-most 9 k)
first-season k (suc (suc w)) low inside = absurd (omega (arith, inside))

turn : (k w z : ℕ) (e : Execution) → 1 ≡ w → IsNext kept w (position (done k) w) z e → AreOfTurn kept (done k) w z
turn k w z e is =
    subst (λ (u : ℕ). IsNext kept u (position (done k) u) z e → AreOfTurn kept (done k) u z) is
    (λ next. subst (λ (y : ℕ). AreOfTurn kept (done k) 1 y) (one-season z next.place e next.season next.there) (catalogue-none 9 k, first-season k))

-- a reachable object of the warehouse is one that it made
made : (k : ℕ) (name : Name) → name.section ≡ 1 → IsReachable (heaps_done kept (done k)) name → name.number < length (plain kept 1 (position (done k) 1)).objects
made k name own ((object, (heap, there, section, at)), path, is_path) =
    of (one-of-two (plain kept 0 (position (done k) 0)) (plain kept 1 (position (done k) 1)) heap there)
  where
    of : (heap ≡ plain kept 0 (position (done k) 0)) ⊎ (heap ≡ plain kept 1 (position (done k) 1)) → name.number < length (plain kept 1 (position (done k) 1)).objects
    of (inl is) = let number : heap.section ≡ 0 = ap (λ (h : Heap). h.section) is ∙ plain-section kept 0 (position (done k) 0) in absurd (omega (arith, number, section, own))
    of (inr is) = slice_get_within (plain kept 1 (position (done k) 1)).objects name.number object (ap (λ (h : Heap). slice_get h.objects name.number) (sym is) ∙ at)

free : (k w : ℕ) → 1 ≡ w → TakesFreeCell kept own_cells (done k) w
free k w is =
    subst (λ (u : ℕ). TakesFreeCell kept own_cells (done k) u) is
    (λ z e next new name cell reach lies there.
    let a = lies-at name.section name.number cell lies in
    let b = lies-at 1 (length (plain kept 1 (position (done k) 1)).objects) cell there in
    let low = made k name a.0 reach in
    let same = a.1 in
    let other = b.1 in
    absurd (omega (arith, low, same, other)))

apart : (a b : Name) (cell : ℕ) → LiesIn own_cells a cell → LiesIn own_cells b cell → a ≡ b
apart a b cell p q =
    let x = lies-at a.section a.number cell p in
    let y = lies-at b.section b.number cell q in
    λ i. record { section = (x.0 ∙ sym y.0) i; number = (x.1 ∙ sym y.1) i }

own_counts : IsPlaced kept 64 own_cells
own_counts =
    record {
      sections = refl;
      each = each;
      below = below;
      order = ones 9;
      is_order = record { whole = whole; turns = λ k w z e at next. turn k w z e (is-one 9 k w at) next };
      free = λ k w at. free k w (is-one 9 k w at);
      apart = λ a b cell r s p q. apart a b cell p q;
    }
