-- Which roots are read, over the events of calls one after another.
use Rattle.std.proofs.Common.{ℕ, zero, suc, ◌≡◌, ◌≤◌, ◌+◌, ◌-◌, List, [], ◌∷◌, ◌++◌, append-nil, arith, refl, sym, ap, ◌∙◌, true}
use Rattle.std.specs.List.{range_with_len}
use Rattle.std.proofs.lemmas.Bool.{and_parts, false≢true}
use Rattle.mark_core.specs.declared.kinds.Shape.{Shape}
use Rattle.mark_core.specs.declared.kinds.Step.{Step}
use Rattle.mark_core.specs.declared.kinds.Step.TheVariants.{LoadSlot, ReadRoot}
use Rattle.gc_table.specs.Log.{events}
use Rattle.gc_table.specs.declared.view.Entry.{Entry}
use Rattle.gc_table.specs.declared.view.View.{View}
use Rattle.gc_table.proofs.History.Log.{events-join}
use Rattle.packet_pools.specs.Counts.{only_scans, scans_object}
use Rattle.packet_pools.specs.Fields.{picked}
use Rattle.packet_pools.specs.OnlyTraced.{OnlyTraced}
use Rattle.packet_pools.specs.Seeking.{moves_packet, only_moves, output_pools}
use Rattle.packet_pools.proofs.Reading.{picked-join}
use Rattle.card_clean.specs.Drained.{roots_read}

scan-step : (sh : Shape) (step : Step) (n : ℕ) → scans_object step ≡ true → roots_read sh step n ≡ []
scan-step sh (ReadRoot section v) n e = absurd (false≢true e)
scan-step sh (LoadSlot section k) n e = absurd (false≢true e)
scan-step sh step n e = refl

-- no root is read when a cell is marked
pub scans-none : (sh : Shape) (es : List Entry) → only_scans es ≡ true → picked (roots_read sh) es ≡ []
scans-none sh [] o = refl
scans-none sh (e ∷ es) o =
    let h = and_parts (scans_object e.step) (only_scans es) o in
    let one = scan-step sh e.step e.found h.0 in
    let rest = scans-none sh es h.1 in
    λ i. one i ++ rest i

move-step : (sh : Shape) (step : Step) (n : ℕ) → moves_packet output_pools step ≡ true → roots_read sh step n ≡ []
move-step sh (ReadRoot section v) n e = absurd (false≢true e)
move-step sh (LoadSlot section k) n e = absurd (false≢true e)
move-step sh step n e = refl

-- nor when packets are moved
pub moves-none : (sh : Shape) (es : List Entry) → only_moves output_pools es ≡ true → picked (roots_read sh) es ≡ []
moves-none sh [] o = refl
moves-none sh (e ∷ es) o =
    let h = and_parts (moves_packet output_pools e.step) (only_moves output_pools es) o in
    let one = move-step sh e.step e.found h.0 in
    let rest = moves-none sh es h.1 in
    λ i. one i ++ rest i

-- one call after another
pub reads-join : (sh : Shape) (xs ys : List ℕ) (v w x : View) → OnlyTraced v w → OnlyTraced w x → picked (roots_read sh) (events v w) ≡ xs → picked (roots_read sh) (events w x) ≡ ys → picked (roots_read sh) (events v x) ≡ xs ++ ys
reads-join sh xs ys v w x a b p q = ap (picked (roots_read sh)) (events-join v w x a.log b.log) ∙ (picked-join (roots_read sh) (events v w) (events w x) ∙ (λ i. p i ++ q i))

range-longer : (from n : ℕ) → range_with_len from (suc n) ≡ range_with_len from n ++ (from + n) ∷ []
range-longer from zero = let z : from ≡ from + 0 = omega arith in ap (λ k. k ∷ []) z
range-longer from (suc n) =
    let z : from + 1 + n ≡ from + suc n = omega arith in
    ap (λ (l : List ℕ). from ∷ l) (range-longer (from + 1) n ∙ ap (λ k. range_with_len (from + 1) n ++ k ∷ []) z)

range-next : (from i : ℕ) → from ≤ i → range_with_len from (i - from) ++ i ∷ [] ≡ range_with_len from (i + 1 - from)
range-next from i l =
    let n : suc (i - from) ≡ i + 1 - from = omega (arith, l) in
    let at : from + (i - from) ≡ i = omega (arith, l) in
    sym (ap (range_with_len from) (sym n) ∙ (range-longer from (i - from) ∙ ap (λ k. range_with_len from (i - from) ++ k ∷ []) at))

-- the roots so far, and the next one
pub reads-more : (sh : Shape) (from i : ℕ) (v w x : View) → from ≤ i → OnlyTraced v w → OnlyTraced w x → picked (roots_read sh) (events v w) ≡ range_with_len from (i - from) → picked (roots_read sh) (events w x) ≡ i ∷ []
    → picked (roots_read sh) (events v x) ≡ range_with_len from (i + 1 - from)
reads-more sh from i v w x l a b p q = reads-join sh (range_with_len from (i - from)) (i ∷ []) v w x a b p q ∙ range-next from i l

-- a packet is taken before, and given back after
pub reads-between : (sh : Shape) (ks : List ℕ) (v w x y : View) → OnlyTraced v w → OnlyTraced w x → OnlyTraced x y → OnlyTraced w y → only_moves output_pools (events v w) ≡ true → picked (roots_read sh) (events w x) ≡ ks
    → only_moves output_pools (events x y) ≡ true → picked (roots_read sh) (events v y) ≡ ks
reads-between sh ks v w x y a b d bd before p after =
    reads-join sh [] ks v w y a bd (moves-none sh (events v w) before) (reads-join sh ks [] w x y b d p (moves-none sh (events x y) after) ∙ append-nil ks)
