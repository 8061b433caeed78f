-- What a play may write doesn't rest on the lines at which its commands stand.
use Rattle.std.proofs.Common.{◌≡◌, ℕ, zero, suc, ◌+◌, ◌-◌, refl, ap, ap₂, sym, ◌∙◌, List, [], ◌∷◌, ◌++◌, length, map, take, arith}
use Rattle.std.specs.Prelude.{Option, Some, None, slice_get, slice_index_or, unwrap_or, option_map}
use Rattle.std.proofs.Math.ListN.{get_or-map}
use Rattle.std.proofs.lemmas.List.{length-map}
use Rattle.std.proofs.lemmas.Option.{slice_get-map, same_Some}
use Rattle.plain_heap.specs.declared.operation.Op.{Op}
use Rattle.plain_heap.specs.PlainHeap.{Heap, empty_heap}
use Rattle.plain_heap.specs.PlainStep.{heap_after, line_of}
use Rattle.plain_heap.specs.Sections.{Execution, Sections, parts_of, part_of, joined, end_of, section_numbers, counted, first_of, IsNext}
use Rattle.plain_heap.specs.PlainRun.{Printed, heap_from, ops_of, plan_end, catalogue_end, seen_catalogue, heap_after_parts, plain, last_heap, with_label, printed_from, printed_in_parts, transcript}
use Rattle.gc_script.specs.Convert.{without_line, without_lines}

-- the parts
abbrev bare : List (List Execution) → List (List Execution)
bare parts = map (map without_line) parts

catalogue-bare : (c : Option (List (List Execution))) → unwrap_or (option_map (map (map without_line)) c) [] ≡ map (map without_line) (unwrap_or c [])
catalogue-bare None = refl
catalogue-bare (Some parts) = refl

parts-bare : (s : Sections) (w : ℕ) → parts_of (without_lines s) w ≡ bare (parts_of s w)
parts-bare s zero = catalogue-bare s.catalogue
parts-bare s (suc w) = get_or-map (map (map without_line)) s.warehouses w []

numbers-bare : (s : Sections) → section_numbers (without_lines s) ≡ section_numbers s
numbers-bare s = ap (λ (n : ℕ). 0 ∷ counted 1 n) (length-map s.warehouses (map (map without_line)))

ops-bare : (part : List Execution) → ops_of (map without_line part) ≡ ops_of part
ops-bare [] = refl
ops-bare (e ∷ es) = ap (λ (l : List Op). e.op ∷ l) (ops-bare es)

plan-bare : (parts : List (List Execution)) → map ops_of (bare parts) ≡ map ops_of parts
plan-bare [] = refl
plan-bare (part ∷ parts) = ap₂ (λ (x : List Op) (l : List (List Op)). x ∷ l) (ops-bare part) (plan-bare parts)

end-bare : (s : Sections) (z : ℕ) → catalogue_end (without_lines s) z ≡ catalogue_end s z
end-bare s z = ap (λ (l : List (List Op)). plan_end s.fields l z) (ap (map ops_of) (parts-bare s 0) ∙ plan-bare (parts_of s 0))

seen-bare : (s : Sections) (w z : ℕ) → seen_catalogue (without_lines s) w z ≡ seen_catalogue s w z
seen-bare s zero z = refl
seen-bare s (suc w) z = ap Some (end-bare s z)

-- the heaps
heap-bare : (s : Sections) (w z : ℕ) (heap : Heap) (parts : List (List Execution)) → heap_after_parts (without_lines s) w z heap (bare parts) ≡ heap_after_parts s w z heap parts
heap-bare s w z heap [] = refl
heap-bare s w z heap (part ∷ parts) =
    heap-bare s w (z + 1) (heap_from (seen_catalogue (without_lines s) w z) heap (ops_of (map without_line part))) parts
    ∙ ap₂ (λ (c : Option Heap) (l : List Op). heap_after_parts s w (z + 1) (heap_from c heap l) parts) (seen-bare s w z) (ops-bare part)

take-map : {X Y : Type 0} (f : X → Y) (k : ℕ) (xs : List X) → take k (map f xs) ≡ map f (take k xs)
take-map f zero xs = refl
take-map f (suc k) [] = refl
take-map {X} {Y} f (suc k) (x ∷ xs) = ap (λ (l : List Y). f x ∷ l) (take-map f k xs)

first-bare : (k : ℕ) (parts : List (List Execution)) → first_of k (bare parts) ≡ bare (first_of k parts)
first-bare k [] = refl
first-bare k (part ∷ parts) =
    ap₂ (λ (x : List Execution) (l : List (List Execution)). x ∷ l) (take-map without_line k part)
    (ap (λ (n : ℕ). first_of (k - n) (bare parts)) (length-map part without_line) ∙ first-bare (k - length part) parts)

after-bare : (s : Sections) (w : ℕ) (cut : List (List Execution) → List (List Execution)) → ((parts : List (List Execution)) → cut (bare parts) ≡ bare (cut parts))
    → heap_after_parts (without_lines s) w 1 (empty_heap s.fields w) (cut (parts_of (without_lines s) w)) ≡ heap_after_parts s w 1 (empty_heap s.fields w) (cut (parts_of s w))
after-bare s w cut bares =
    ap (heap_after_parts (without_lines s) w 1 (empty_heap s.fields w)) (ap cut (parts-bare s w) ∙ bares (parts_of s w)) ∙ heap-bare s w 1 (empty_heap s.fields w) (cut (parts_of s w))

last-bare : (s : Sections) (w : ℕ) → last_heap (without_lines s) w ≡ last_heap s w
last-bare s w = after-bare s w (λ parts. parts) (λ parts. refl)

plain-bare : (s : Sections) (w k : ℕ) → plain (without_lines s) w k ≡ plain s w k
plain-bare s w k = after-bare s w (first_of k) (first-bare k)

-- what is printed
printed-bare : (c : Option Heap) (heap : Heap) (es : List Execution) → printed_from c heap (map without_line es) ≡ printed_from c heap es
printed-bare c heap [] = refl
printed-bare c heap (e ∷ es) = ap (with_label e.label (line_of heap c e.op)) (printed-bare c (heap_after heap c e.op) es)

parts-printed : (s : Sections) (w z : ℕ) (heap : Heap) (parts : List (List Execution)) → printed_in_parts (without_lines s) w z heap (bare parts) ≡ printed_in_parts s w z heap parts
parts-printed s w z heap [] = refl
parts-printed s w z heap (part ∷ parts) =
    ap₂ (λ (x y : List Printed). x ++ y)
    (printed-bare (seen_catalogue (without_lines s) w z) heap part ∙ ap (λ (c : Option Heap). printed_from c heap part) (seen-bare s w z))
    (parts-printed s w (z + 1) (heap_from (seen_catalogue (without_lines s) w z) heap (ops_of (map without_line part))) parts
    ∙ ap₂ (λ (c : Option Heap) (l : List Op). printed_in_parts s w (z + 1) (heap_from c heap l) parts) (seen-bare s w z) (ops-bare part))

said-bare : (s : Sections) (w : ℕ) → transcript (without_lines s) w ≡ transcript s w
said-bare s w = ap (printed_in_parts (without_lines s) w 1 (empty_heap s.fields w)) (parts-bare s w) ∙ parts-printed s w 1 (empty_heap s.fields w) (parts_of s w)

-- where a section is
length-both : {X : Type 0} (xs ys : List X) → length (xs ++ ys) ≡ length xs + length ys
length-both [] ys = omega arith
length-both (x ∷ xs) ys = let more = length-both xs ys in omega (arith, more)

joined-bare : (parts : List (List Execution)) → length (joined (bare parts)) ≡ length (joined parts)
joined-bare [] = refl
joined-bare (part ∷ parts) =
    let a = length-both (map without_line part) (joined (bare parts)) in
    let b = length-both part (joined parts) in
    let own = length-map part without_line in
    let more = joined-bare parts in omega (arith, a, b, own, more)

ends-bare : (s : Sections) (w z : ℕ) → end_of (without_lines s) w z ≡ end_of s w z
ends-bare s w z =
    ap (λ (l : List (List Execution)). length (joined l)) (ap (take z) (parts-bare s w) ∙ take-map (map without_line) z (parts_of s w)) ∙ joined-bare (take z (parts_of s w))

part-bare : (s : Sections) (w z : ℕ) → part_of (without_lines s) w z ≡ map without_line (part_of s w z)
part-bare s w z = ap (λ (l : List (List Execution)). slice_index_or l (z - 1) []) (parts-bare s w) ∙ get_or-map (map without_line) (parts_of s w) (z - 1) []

-- the two play alike: they print the same, their heaps are the same at each moment, and the next commands of the one are those of the other
pub record PlaysAlike (s t : Sections) : Type 0 where
  pub numbers : section_numbers s ≡ section_numbers t
  pub said : (w : ℕ) → transcript s w ≡ transcript t w
  pub last : (w : ℕ) → last_heap s w ≡ last_heap t w
  pub heaps : (w k : ℕ) → plain s w k ≡ plain t w k
  pub ends : (w z : ℕ) → end_of s w z ≡ end_of t w z
  pub next : (w k z : ℕ) (e : Execution) → IsNext s w k z e → (f : Execution) × IsNext t w k z f × (f.op ≡ e.op)

next-bare : (s : Sections) (w k z : ℕ) (e : Execution) → IsNext s w k z e → (f : Execution) × IsNext (without_lines s) w k z f × (f.op ≡ e.op)
next-bare s w k z e n = (
  without_line e,
  record {
    season = n.season;
    place = n.place;
    before = n.before ∙ ap (λ (m : ℕ). m + n.place) (sym (ends-bare s w (z - 1)));
    there = ap (λ (l : List Execution). slice_get l n.place) (part-bare s w z) ∙ (slice_get-map without_line (part_of s w z) n.place ∙ ap (option_map without_line) n.there);
  },
  refl,
)

some-of : (o : Option Execution) (e : Execution) → option_map without_line o ≡ Some e → (f : Execution) × (o ≡ Some f) × (f.op ≡ e.op)
some-of None e is = absurd (never is)
  where
    never : None ≡ Some e → ⊥
    never = cc
some-of (Some f) e is = (f, refl, ap (λ (x : Execution). x.op) (same_Some (without_line f) e is))

next-lined : (s : Sections) (w k z : ℕ) (e : Execution) → IsNext (without_lines s) w k z e → (f : Execution) × IsNext s w k z f × (f.op ≡ e.op)
next-lined s w k z e n =
    let found = some-of (slice_get (part_of s w z) n.place) e
    (sym (slice_get-map without_line (part_of s w z) n.place) ∙ (sym (ap (λ (l : List Execution). slice_get l n.place) (part-bare s w z)) ∙ n.there)) in
    (found.0, record { season = n.season; place = n.place; before = n.before ∙ ap (λ (m : ℕ). m + n.place) (ends-bare s w (z - 1)); there = found.1 }, found.2)

pub lines-off : (s : Sections) → PlaysAlike s (without_lines s)
lines-off s = record {
  numbers = sym (numbers-bare s);
  said = λ w. sym (said-bare s w);
  last = λ w. sym (last-bare s w);
  heaps = λ w k. sym (plain-bare s w k);
  ends = λ w z. sym (ends-bare s w z);
  next = next-bare s;
}

pub lines-on : (s : Sections) → PlaysAlike (without_lines s) s
lines-on s = record {
  numbers = numbers-bare s;
  said = said-bare s;
  last = last-bare s;
  heaps = plain-bare s;
  ends = ends-bare s;
  next = next-lined s;
}
