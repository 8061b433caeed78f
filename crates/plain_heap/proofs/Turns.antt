-- One more command of a section: what it does and prints, and what stands where a part begins and ends.
use Rattle.std.proofs.Common.{◌≡◌, ℕ, zero, suc, ◌+◌, ◌-◌, ◌≤◌, refl, ap, sym, ◌∙◌, arith, List, [], ◌∷◌, ◌++◌, length, map, take, append_assoc, length-append, ◌<◌, ◌⊎◌, inl, inr, get_or}
use Rattle.std.specs.Prelude.{Option, Some, None, slice_get, max, fold, Contains}
use Rattle.std.proofs.lemmas.List.{map_push, append-nil, take-map, take_all, get_or_past}
use Rattle.plain_heap.specs.declared.operation.Op.{Op}
use Rattle.plain_heap.specs.declared.operation.Line.{Line}
use Rattle.plain_heap.specs.PlainHeap.{Heap, empty_heap}
use Rattle.plain_heap.specs.PlainStep.{heap_after, line_of}
use Rattle.plain_heap.specs.Sections.{Execution, Sections, joined, first_of, parts_of, part_of, end_of, IsNext, executed_of, seasons, section_numbers, counted}
use Rattle.plain_heap.specs.PlainRun.{Printed, heap_from, ops_of, seen_catalogue, heap_after_parts, with_label, printed_from, printed_in_parts, plain, part_end, catalogue_end, printed_before, last_heap, transcript}
use Rattle.plain_heap.proofs.Parts.{end_in, part_in, first-within, first-past, end-more, end-grows, take-next, end-within}
use Rattle.std.proofs.lemmas.Option.{slice_get_within, same_Some}
use Rattle.std.proofs.lemmas.Bool.{cases_lt}

-- Parts of a section that are played: the heap and the lines after the first this many commands.
-- first these operations and then those
pub heap-then : (catalogue : Option Heap) (h : Heap) (os more : List Op) → heap_from catalogue h (os ++ more) ≡ heap_from catalogue (heap_from catalogue h os) more
heap-then catalogue h [] more = refl
heap-then catalogue h (op ∷ os) more = heap-then catalogue (heap_after h catalogue op) os more

-- one command more
pub heap-push : (catalogue : Option Heap) (h : Heap) (es : List Execution) (e : Execution)
    → heap_from catalogue h (ops_of (es ++ e ∷ [])) ≡ heap_after (heap_from catalogue h (ops_of es)) catalogue e.op
heap-push catalogue h es e =
    ap (λ (os : List Op). heap_from catalogue h os) (map_push (λ (x : Execution). x.op) es e) ∙ heap-then catalogue h (ops_of es) (e.op ∷ [])

-- one line more, or none
pub line-more : (label : List ℕ) (line : Option Line) (printed more : List Printed) → with_label label line (printed ++ more) ≡ with_label label line printed ++ more
line-more label None printed more = refl
line-more label (Some line) printed more = refl

pub printed-push : (catalogue : Option Heap) (h : Heap) (es : List Execution) (e : Execution)
    → printed_from catalogue h (es ++ e ∷ []) ≡ printed_from catalogue h es ++ with_label e.label (line_of (heap_from catalogue h (ops_of es)) catalogue e.op) []
printed-push catalogue h [] e = refl
printed-push catalogue h (x ∷ es) e =
    ap (with_label x.label (line_of h catalogue x.op)) (printed-push catalogue (heap_after h catalogue x.op) es e)
    ∙ line-more x.label (line_of h catalogue x.op) (printed_from catalogue (heap_after h catalogue x.op) es) _

-- no commands of any part
pub heap-none : (s : Sections) (w z : ℕ) (h : Heap) (parts : List (List Execution)) → heap_after_parts s w z h (first_of 0 parts) ≡ h
heap-none s w z h [] = refl
heap-none s w z h (part ∷ parts) =
    ap (λ (m : ℕ). heap_after_parts s w (z + 1) h (first_of m parts)) (let e : 0 - length part ≡ 0 = omega arith in e) ∙ heap-none s w (z + 1) h parts

pub printed-none : (s : Sections) (w z : ℕ) (h : Heap) (parts : List (List Execution)) → printed_in_parts s w z h (first_of 0 parts) ≡ []
printed-none s w z h [] = refl
printed-none s w z h (part ∷ parts) =
    ap (λ (m : ℕ). printed_in_parts s w (z + 1) h (first_of m parts)) (let e : 0 - length part ≡ 0 = omega arith in e) ∙ printed-none s w (z + 1) h parts

-- the heap in a part, after this many of its commands
pub heap-in-part : (s : Sections) (w z : ℕ) (h : Heap) (parts : List (List Execution)) (j place k : ℕ) → k ≡ end_in parts j + place → place ≤ length (part_in parts j)
    → heap_after_parts s w z h (first_of k parts) ≡ heap_from (seen_catalogue s w (z + j)) (heap_after_parts s w z h (take j parts)) (ops_of (take place (part_in parts j)))
heap-in-part s w z h [] zero zero k is below = refl
heap-in-part s w z h [] zero (suc place) k is below = refl
heap-in-part s w z h [] (suc j) zero k is below = refl
heap-in-part s w z h [] (suc j) (suc place) k is below = refl
heap-in-part s w z h (part ∷ parts) zero place k is below =
    let here : k ≡ place = omega arith in
    ap (λ (m : ℕ). heap_after_parts s w z h (first_of m (part ∷ parts))) here
    ∙ ap (heap_after_parts s w z h) (first-within place part parts below)
    ∙ heap-none s w (z + 1) (heap_from (seen_catalogue s w z) h (ops_of (take place part))) parts
    ∙ ap (λ (y : ℕ). heap_from (seen_catalogue s w y) h (ops_of (take place part))) (let e : z ≡ z + 0 = omega arith in e)
heap-in-part s w z h (part ∷ parts) (suc j) place k is below =
    let past : k ≡ length part + (end_in parts j + place) = omega (arith, is, length-append part (joined (take j parts))) in
    let after : Heap = heap_from (seen_catalogue s w z) h (ops_of part) in
    ap (heap_after_parts s w z h) (first-past k (end_in parts j + place) part parts past)
    ∙ heap-in-part s w (z + 1) after parts j place (end_in parts j + place) refl below
    ∙ ap (λ (y : ℕ). heap_from (seen_catalogue s w y) (heap_after_parts s w (z + 1) after (take j parts)) (ops_of (take place (part_in parts j)))) (let e : z + 1 + j ≡ z + suc j = omega arith in e)

-- what is printed up to there
pub printed-in-part : (s : Sections) (w z : ℕ) (h : Heap) (parts : List (List Execution)) (j place k : ℕ) → k ≡ end_in parts j + place → place ≤ length (part_in parts j)
    → printed_in_parts s w z h (first_of k parts)
    ≡ printed_in_parts s w z h (take j parts) ++ printed_from (seen_catalogue s w (z + j)) (heap_after_parts s w z h (take j parts)) (take place (part_in parts j))
printed-in-part s w z h [] zero zero k is below = refl
printed-in-part s w z h [] zero (suc place) k is below = refl
printed-in-part s w z h [] (suc j) zero k is below = refl
printed-in-part s w z h [] (suc j) (suc place) k is below = refl
printed-in-part s w z h (part ∷ parts) zero place k is below =
    let here : k ≡ place = omega arith in
    ap (λ (m : ℕ). printed_in_parts s w z h (first_of m (part ∷ parts))) here
    ∙ ap (printed_in_parts s w z h) (first-within place part parts below)
    ∙ ap (λ (l : List Printed). printed_from (seen_catalogue s w z) h (take place part) ++ l) (printed-none s w (z + 1) (heap_from (seen_catalogue s w z) h (ops_of (take place part))) parts)
    ∙ append-nil (printed_from (seen_catalogue s w z) h (take place part))
    ∙ ap (λ (y : ℕ). printed_from (seen_catalogue s w y) h (take place part)) (let e : z ≡ z + 0 = omega arith in e)
printed-in-part s w z h (part ∷ parts) (suc j) place k is below =
    let past : k ≡ length part + (end_in parts j + place) = omega (arith, is, length-append part (joined (take j parts))) in
    let after : Heap = heap_from (seen_catalogue s w z) h (ops_of part) in
    let now : List Printed = printed_from (seen_catalogue s w z) h part in
    let then : List Printed = printed_in_parts s w (z + 1) after (take j parts) in
    ap (printed_in_parts s w z h) (first-past k (end_in parts j + place) part parts past)
    ∙ ap (λ (l : List Printed). now ++ l) (printed-in-part s w (z + 1) after parts j place (end_in parts j + place) refl below)
    ∙ ap (λ (y : ℕ). now ++ (then ++ printed_from (seen_catalogue s w y) (heap_after_parts s w (z + 1) after (take j parts)) (take place (part_in parts j)))) (let e : z + 1 + j ≡ z + suc j = omega arith in e)
    ∙ sym (append_assoc now then (printed_from (seen_catalogue s w (z + suc j)) (heap_after_parts s w (z + 1) after (take j parts)) (take place (part_in parts j))))

-- the catalogue needs no other section
pub catalogue-parts : (s : Sections) (z : ℕ) (h : Heap) (parts : List (List Execution)) → heap_after_parts s 0 z h parts ≡ heap_from None h (joined (map ops_of parts))
catalogue-parts s z h [] = refl
catalogue-parts s z h (part ∷ parts) = catalogue-parts s (z + 1) (heap_from None h (ops_of part)) parts ∙ sym (heap-then None h (ops_of part) (joined (map ops_of parts)))

-- what section w prints in its first z parts
abbrev pub part_printed : Sections → ℕ → ℕ → List Printed
part_printed s w z = printed_in_parts s w 1 (empty_heap s.fields w) (take z (parts_of s w))

-- the heap of a section in part z, after this many of its commands
pub in-part : (s : Sections) (w k z place : ℕ) → 0 < z → k ≡ end_of s w (z - 1) + place → place ≤ length (part_of s w z)
    → plain s w k ≡ heap_from (seen_catalogue s w z) (part_end s w (z - 1)) (ops_of (take place (part_of s w z)))
in-part s w k z place season is below =
    heap-in-part s w 1 (empty_heap s.fields w) (parts_of s w) (z - 1) place k is below
    ∙ ap (λ (y : ℕ). heap_from (seen_catalogue s w y) (part_end s w (z - 1)) (ops_of (take place (part_of s w z)))) (let e : 1 + (z - 1) ≡ z = omega arith in e)

-- what it has printed there
pub in-part-printed : (s : Sections) (w k z place : ℕ) → 0 < z → k ≡ end_of s w (z - 1) + place → place ≤ length (part_of s w z)
    → printed_before s w k ≡ part_printed s w (z - 1) ++ printed_from (seen_catalogue s w z) (part_end s w (z - 1)) (take place (part_of s w z))
in-part-printed s w k z place season is below =
    printed-in-part s w 1 (empty_heap s.fields w) (parts_of s w) (z - 1) place k is below
    ∙ ap (λ (y : ℕ). part_printed s w (z - 1) ++ printed_from (seen_catalogue s w y) (part_end s w (z - 1)) (take place (part_of s w z))) (let e : 1 + (z - 1) ≡ z = omega arith in e)

-- a command of part z has its place there
pub next-within : (s : Sections) (w k z : ℕ) (e : Execution) (next : IsNext s w k z e) → next.place < length (part_of s w z)
next-within s w k z e next = slice_get_within (part_of s w z) next.place e next.there

-- what the next command does
pub next-heap : (s : Sections) (w k z : ℕ) (e : Execution) → IsNext s w k z e → plain s w (k + 1) ≡ heap_after (plain s w k) (seen_catalogue s w z) e.op
next-heap s w k z e next =
    let inside = next-within s w k z e next in
    let start : Heap = part_end s w (z - 1) in
    in-part s w (k + 1) z (next.place + 1) next.season (omega (arith, next.before)) (omega (arith, inside))
    ∙ ap (λ (es : List Execution). heap_from (seen_catalogue s w z) start (ops_of es)) (take-next (part_of s w z) next.place e next.there)
    ∙ heap-push (seen_catalogue s w z) start (take next.place (part_of s w z)) e
    ∙ ap (λ (h : Heap). heap_after h (seen_catalogue s w z) e.op) (sym (in-part s w k z next.place next.season next.before (omega (arith, inside))))

-- what it prints
pub next-printed : (s : Sections) (w k z : ℕ) (e : Execution) → IsNext s w k z e
    → printed_before s w (k + 1) ≡ printed_before s w k ++ with_label e.label (line_of (plain s w k) (seen_catalogue s w z) e.op) []
next-printed s w k z e next =
    let inside = next-within s w k z e next in
    let start : Heap = part_end s w (z - 1) in
    let done : List Execution = take next.place (part_of s w z) in
    let line : Heap → List Printed = λ h. with_label e.label (line_of h (seen_catalogue s w z) e.op) [] in
    let earlier : List Printed = part_printed s w (z - 1) in
    in-part-printed s w (k + 1) z (next.place + 1) next.season (omega (arith, next.before)) (omega (arith, inside))
    ∙ ap (λ (es : List Execution). earlier ++ printed_from (seen_catalogue s w z) start es) (take-next (part_of s w z) next.place e next.there)
    ∙ ap (λ (l : List Printed). earlier ++ l) (printed-push (seen_catalogue s w z) start done e)
    ∙ sym (append_assoc earlier (printed_from (seen_catalogue s w z) start done) (line (heap_from (seen_catalogue s w z) start (ops_of done))))
    ∙ ap (λ (l : List Printed). l ++ line (heap_from (seen_catalogue s w z) start (ops_of done))) (sym (in-part-printed s w k z next.place next.season next.before (omega (arith, inside))))
    ∙ ap (λ (h : Heap). printed_before s w k ++ line h) (sym (in-part s w k z next.place next.season next.before (omega (arith, inside))))

-- where a section begins
pub at-start : (s : Sections) (w : ℕ) → plain s w 0 ≡ empty_heap s.fields w
at-start s w = heap-none s w 1 (empty_heap s.fields w) (parts_of s w)

pub at-start-printed : (s : Sections) (w : ℕ) → printed_before s w 0 ≡ []
at-start-printed s w = printed-none s w 1 (empty_heap s.fields w) (parts_of s w)

-- where a part ends
pub at-part-end : (s : Sections) (w z : ℕ) → plain s w (end_of s w z) ≡ part_end s w z
at-part-end s w z = heap-in-part s w 1 (empty_heap s.fields w) (parts_of s w) z 0 (end_of s w z) (omega arith) (omega arith)

pub at-part-end-printed : (s : Sections) (w z : ℕ) → printed_before s w (end_of s w z) ≡ part_printed s w z
at-part-end-printed s w z = printed-in-part s w 1 (empty_heap s.fields w) (parts_of s w) z 0 (end_of s w z) (omega arith) (omega arith) ∙ append-nil (part_printed s w z)

pub at-catalogue-end : (s : Sections) (z : ℕ) → plain s 0 (end_of s 0 z) ≡ catalogue_end s z
at-catalogue-end s z =
    at-part-end s 0 z
    ∙ catalogue-parts s 1 (empty_heap s.fields 0) (take z (parts_of s 0))
    ∙ ap (λ (ps : List (List Op)). heap_from None (empty_heap s.fields 0) (joined ps)) (sym (take-map ops_of z (parts_of s 0)))

-- the ends of one part and of the next
pub next-end : (s : Sections) (w z : ℕ) → end_of s w (z + 1) ≡ end_of s w z + length (part_of s w (z + 1))
next-end s w z = end-more (parts_of s w) z ∙ ap (λ (y : ℕ). end_of s w z + length (part_in (parts_of s w) y)) (let e : z ≡ z + 1 - 1 = omega arith in e)

pub this-end : (s : Sections) (w z : ℕ) → 1 ≤ z → end_of s w z ≡ end_of s w (z - 1) + length (part_of s w z)
this-end s w z season = ap (end_of s w) (let e : z ≡ z - 1 + 1 = omega arith in e) ∙ end-more (parts_of s w) (z - 1)

pub ends-grow : (s : Sections) (w y z : ℕ) → y ≤ z → end_of s w y ≤ end_of s w z
ends-grow s w y z below = omega (arith, ap (end_of s w) (let e : y + (z - y) ≡ z = omega arith in e), end-grows (parts_of s w) y (z - y))

-- the next command is one
pub next-once : (s : Sections) (w k z y : ℕ) (e d : Execution) → IsNext s w k z e → IsNext s w k y d → (z ≡ y) × (e ≡ d)
next-once s w k z y e d one other = (same, same_Some e d (sym one.there ∙ ap (slice_get (part_of s w z)) place ∙ ap (λ (x : ℕ). slice_get (part_of s w x) other.place) same ∙ other.there))
  where
    not_later : (z y : ℕ) (e d : Execution) → IsNext s w k z e → IsNext s w k y d → z < y → ⊥
    not_later z y e d one other later = omega (arith, one.before, other.before, next-within s w k z e one, this-end s w z one.season, ends-grow s w z (y - 1) (omega arith))

    same : z ≡ y
    same = grind (arith, not_later z y e d one other, not_later y z d e other one)

    place : one.place ≡ other.place
    place = omega (arith, one.before, other.before, ap (λ (x : ℕ). end_of s w (x - 1)) same)

-- The last season: each section was played to its end.
-- Numbers that are counted up, as the section numbers are.
pub length-counted : (n k : ℕ) → length (counted n k) ≡ k
length-counted n zero = refl
length-counted n (suc k) = omega (arith, length-counted (n + 1) k)

pub counted-at : (n k i d : ℕ) → i < k → get_or (counted n k) i d ≡ n + i
counted-at n zero i d below = absurd (omega arith)
counted-at n (suc k) zero d below = omega arith
counted-at n (suc k) (suc i) d below = counted-at (n + 1) k i d (omega arith) ∙ (let e : n + 1 + i ≡ n + suc i = omega arith in e)

pub counted-contains : (n k m : ℕ) → n ≤ m → m < n + k → Contains (counted n k) m
counted-contains n k m from to = (m - n, omega (arith, length-counted n k), counted-at n k (m - n) m (omega arith) ∙ (let e : n + (m - n) ≡ m = omega arith in e))

pub section-count : (s : Sections) → length (section_numbers s) ≡ 1 + length s.warehouses
section-count s = omega (arith, length-counted 1 (length s.warehouses))

-- the section numbers are counted from 0 on
pub section-at : (s : Sections) (w d : ℕ) → w < length (section_numbers s) → get_or (section_numbers s) w d ≡ w
section-at s w d below = counted-at 0 (suc (length s.warehouses)) w d (omega (arith, section-count s)) ∙ (let e : 0 + w ≡ w = omega arith in e)

-- the greatest of some numbers
abbrev most_of : {X : Type 0} → (X → ℕ) → ℕ → List X → ℕ
most_of f first xs = fold (λ most x. max most (f x)) first xs

most-first : {X : Type 0} (f : X → ℕ) (first : ℕ) (xs : List X) → first ≤ most_of f first xs
most-first f first [] = omega arith
most-first f first (x ∷ xs) = omega (arith, most-first f (max first (f x)) xs)

most-each : {X : Type 0} (f : X → ℕ) (first : ℕ) (xs : List X) (i : ℕ) (d : X) → i < length xs → f (get_or xs i d) ≤ most_of f first xs
most-each f first [] i d below = absurd (omega arith)
most-each f first (x ∷ xs) zero d below = omega (arith, most-first f (max first (f x)) xs)
most-each f first (x ∷ xs) (suc i) d below = most-each f (max first (f x)) xs i d (omega arith)

-- there are as many seasons as the section with most parts has
pub parts-few : (s : Sections) (w : ℕ) → length (parts_of s w) ≤ seasons s
parts-few s zero = most-each (λ w. length (parts_of s w)) 1 (section_numbers s) 0 0 (omega (arith, section-count s))
parts-few s (suc w) = of (cases_lt w (length s.warehouses))
  where
    number : w < length s.warehouses → get_or (section_numbers s) (suc w) 0 ≡ suc w
    number below = section-at s (suc w) 0 (omega (arith, section-count s))

    of : (w < length s.warehouses) ⊎ (length s.warehouses ≤ w) → length (parts_of s (suc w)) ≤ seasons s
    of (inl below) =
        let each : length (parts_of s (get_or (section_numbers s) (suc w) 0)) ≤ seasons s = most-each (λ w. length (parts_of s w)) 1 (section_numbers s) (suc w) 0 (omega (arith, section-count s)) in
        omega (arith, ap (λ (v : ℕ). length (parts_of s v)) (number below), each)
    of (inr past) = omega (arith, ap (λ (parts : List (List Execution)). length parts) (get_or_past s.warehouses w [] past))

-- all parts
pub parts-taken : (s : Sections) (w z : ℕ) → seasons s ≤ z → take z (parts_of s w) ≡ parts_of s w
parts-taken s w z late = take_all z (parts_of s w) (omega (arith, parts-few s w))

-- what stands after the last season
pub at-last : (s : Sections) (w z : ℕ) → seasons s ≤ z → plain s w (end_of s w z) ≡ last_heap s w
at-last s w z late = at-part-end s w z ∙ ap (heap_after_parts s w 1 (empty_heap s.fields w)) (parts-taken s w z late)

pub at-last-printed : (s : Sections) (w z : ℕ) → seasons s ≤ z → printed_before s w (end_of s w z) ≡ transcript s w
at-last-printed s w z late = at-part-end-printed s w z ∙ ap (printed_in_parts s w 1 (empty_heap s.fields w)) (parts-taken s w z late)

pub last-end : (s : Sections) (w z : ℕ) → seasons s ≤ z → end_of s w z ≡ length (executed_of s w)
last-end s w z late = ap (λ (parts : List (List Execution)). length (joined parts)) (parts-taken s w z late)

-- no part ends later
pub end-most : (s : Sections) (w z : ℕ) → end_of s w z ≤ length (executed_of s w)
end-most s w z = end-within (parts_of s w) z
