-- Each heap of a script of blocks has few reachable objects.
use Rattle.std.proofs.Common.{◌≡◌, ℕ, ◌+◌, ◌-◌, ◌<◌, ◌≤◌, zero, suc, inl, inr, List, [], ◌∷◌, length, refl, ap, sym, ◌∙◌, subst, arith, ◌%◌, take}
use Rattle.std.proofs.lemmas.Bool.{cases_lt}
use Rattle.std.proofs.lemmas.List.Elements.{All-nil, All-cons, All-contains, All-contains_itself, All-weaker}
use Rattle.std.proofs.lemmas.Option.{slice_get_within}
use Rattle.std.specs.Prelude.{All, AllPairs, Contains, Some, slice_get, slice_index_or, Option, None, Result, Ok, unwrap_or}
use Rattle.plain_heap.specs.declared.object.Ref.{Ref}
use Rattle.plain_heap.specs.PlainHeap.{Heap, empty_heap}
use Rattle.plain_heap.specs.Paths.{Name, Names, IsObject, IsHeld, RefersTo, IsReachable, AreOwnReachable, own}
use Rattle.plain_heap.proofs.Reaching.{of_reachable}
use Rattle.load_gen.proofs.Recent.{IsFrom, HasFrom, IsRecent, found_fields, all_or}
use Rattle.load_gen.proofs.Blocks.{IsPlayed, AreBlocks, steps_take, played_start, played}
use Rattle.plain_heap.specs.Sections.{Execution, Sections, parts_of, first_of}
use Rattle.plain_heap.specs.PlainRun.{seen_catalogue, heap_after_parts, plain}
use Rattle.gc_script.specs.Faults.{Fault}
use Rattle.gc_script.specs.Script.{Script, script}
use Rattle.load_gen.specs.Generated.{generated}
use Rattle.load_gen.specs.FewReachable.{HasFewReachable}
use Rattle.load_gen.proofs.Whole.{AreFourOfBlocks, generated_script}
use Rattle.plain_heap.specs.declared.object.Ref.TheVariants as refs

-- Few objects are reachable if few are held.
-- numbers that rise, from one on
rises : (numbers : List ℕ) (low i : ℕ) → AllPairs (λ m n. m < n) numbers → All (λ n. low ≤ n) numbers → i < length numbers → low + i ≤ slice_index_or numbers i 0
rises numbers low zero ordered each l = omega (arith, each 0 0 l)
rises numbers low (suc i) ordered each l = omega (arith, rises numbers low i ordered each (omega (arith, l)), ordered i (suc i) 0 (omega arith) l)

-- of numbers that rise there are no more than there are numbers between their bounds
few_between : (numbers : List ℕ) (low high : ℕ) → AllPairs (λ m n. m < n) numbers → All (λ n. low ≤ n) numbers → All (λ n. n < high) numbers → low ≤ high → low + length numbers ≤ high
few_between numbers low high ordered above below l = elim (cases_lt 0 (length numbers)) as (λ x. low + length numbers ≤ high) [ inl some ↦ last some | inr none ↦ omega (arith, none, l) ]
  where
    last : 0 < length numbers → low + length numbers ≤ high
    last some =
        let within : length numbers - 1 < length numbers = omega (arith, some) in
        omega (arith, some, rises numbers low (length numbers - 1) ordered above within, below (length numbers - 1) 0 within)

-- the one heap
the_heap : (heap other : Heap) → Contains (heap ∷ []) other → heap ≡ other
the_heap heap other c = All-contains (λ h. heap ≡ h) (heap ∷ []) other (All-cons (λ h. heap ≡ h) heap [] refl (All-nil (λ h. heap ≡ h))) c

-- an object of the heap, numbered `low` or higher
record IsAmong (low : ℕ) (heap : Heap) (name : Name) : Type 0 where
  pub section : name.section ≡ heap.section
  pub above : low ≤ name.number
  pub below : name.number < length heap.objects

among : (low : ℕ) (heap : Heap) (name : Name) → IsObject (heap ∷ []) name → low ≤ name.number → IsAmong low heap name
among low heap name (object, (h, c, e, there)) l = record {
  section = sym (ap (λ (x : Heap). x.section) (the_heap heap h c) ∙ e);
  above = l;
  below = subst (λ (x : Heap). name.number < length x.objects) (sym (the_heap heap h c)) (slice_get_within h.objects name.number object there);
}

-- what a reference names
named_from : (low section : ℕ) (ref : Ref) (name : Name) → IsFrom low ref → Names section ref name → low ≤ name.number
named_from low section refs.Nil name f names = absurd names
named_from low section (refs.Own n) name f names = subst (λ (m : ℕ). low ≤ m) (sym names.1) f
named_from low section (refs.Cat n) name f names = absurd f

held_among : (low : ℕ) (heap : Heap) (name : Name) → IsRecent low heap.objects heap.variables → IsObject (heap ∷ []) name → IsHeld (heap ∷ []) name → IsAmong low heap name
held_among low heap name r object (h, c, ref, there, names) =
    let here : Contains heap.variables ref = subst (λ (x : Heap). Contains x.variables ref) (sym (the_heap heap h c)) there in
    among low heap name object (named_from low h.section ref name (All-contains (IsFrom low) heap.variables ref r.held here) names)

next_among : (low : ℕ) (heap : Heap) (from to : Name) → IsRecent low heap.objects heap.variables → IsAmong low heap from → RefersTo (heap ∷ []) from to → IsObject (heap ∷ []) to → IsAmong low heap to
next_among low heap from to r a (o, (h, c, e, there), ref, stands, names) object =
    let here : slice_get heap.objects from.number ≡ Some o = subst (λ (x : Heap). slice_get x.objects from.number ≡ Some o) (sym (the_heap heap h c)) there in
    let fields : HasFrom low o = found_fields low heap.objects heap.variables from.number o r a.above here in
    among low heap to object (named_from low from.section ref to (All-contains (IsFrom low) o.refs ref fields stands) names)

reached_among : (low : ℕ) (heap : Heap) (name : Name) → IsRecent low heap.objects heap.variables → IsReachable (heap ∷ []) name → IsAmong low heap name
reached_among low heap name r = of_reachable (heap ∷ []) (IsAmong low heap) (λ n o h. held_among low heap n r o h) (λ from to a refers o. next_among low heap from to r a refers o) name

-- at each line of a block at most 55 objects are reachable
pub few_reached : (p : ℕ) (heap : Heap) (numbers : List ℕ) → IsPlayed p heap → AreOwnReachable heap numbers → length numbers ≤ 55
few_reached p heap numbers g a =
    let each : All (λ n. IsAmong g.base heap (own heap n)) numbers =
    All-weaker (Contains numbers) (λ n. IsAmong g.base heap (own heap n)) (λ n c. reached_among g.base heap (own heap n) g.recent ((a.each n).0 c)) numbers (All-contains_itself numbers) in
    let count : g.base + length numbers ≤ length heap.objects = few_between numbers g.base (length heap.objects) a.ordered (λ k d l. (each k d l).above) (λ k d l. (each k d l).below) g.recent.start in
    omega (arith, count, g.few)

-- the place in a block after the first k commands of a section
parts_played : (s : Sections) (w k : ℕ) (parts : List (List Execution)) → AreBlocks parts → (p : ℕ) × IsPlayed p (heap_after_parts s w 1 (empty_heap s.fields w) (first_of k parts))
parts_played s w k [] b = (0, played_start s.fields w)
parts_played s w k (part ∷ []) b = ((0 + length (take k part)) % 64, played 0 (take k part) (empty_heap s.fields w) (seen_catalogue s w 1) (steps_take 0 k part b) (played_start s.fields w))
parts_played s w k (part ∷ next ∷ parts) b = absurd b

section_blocks : (s : Sections) (w : ℕ) → s.catalogue ≡ None → All AreBlocks s.warehouses → AreBlocks (parts_of s w)
section_blocks s zero none blocks = subst (λ (c : Option (List (List Execution))). AreBlocks (unwrap_or c [])) (sym none) tt
section_blocks s (suc w) none blocks = all_or AreBlocks s.warehouses w [] tt blocks

sections_few : (s : Sections) (w k : ℕ) (numbers : List ℕ) → s.catalogue ≡ None → All AreBlocks s.warehouses → AreOwnReachable (plain s w k) numbers → length numbers ≤ 55
sections_few s w k numbers none blocks a =
    let after = parts_played s w k (parts_of s w) (section_blocks s w none blocks) in
    few_reached after.0 (plain s w k) numbers after.1 a

same_script : (a b : Script) → ◌≡◌ {A = Result Script Fault} (Ok a) (Ok b) → a ≡ b
same_script a b e = cc

read_few : (size : ℕ) (read : Result Script Fault) → AreFourOfBlocks size read → HasFewReachable 55 read
read_few size read f whole e w k numbers a =
    let same : f.four.whole ≡ whole = same_script f.four.whole whole (sym f.four.no_fault ∙ e) in
    sections_few f.four.whole.sections w k numbers f.four.catalogue f.blocks (subst (λ (x : Script). AreOwnReachable (plain x.sections w k) numbers) (sym same) a)

-- each heap of the generated script has few reachable objects
pub generated_few : (number size : ℕ) → size ≤ 20000 → HasFewReachable 55 (script (generated number size))
generated_few number size h = read_few size (script (generated number size)) (generated_script number size h)
