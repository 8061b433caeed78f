-- What sections mean over heaps that never forget an object.
use Rattle.std.specs.Prelude.{ℕ, ◌+◌, ◌-◌, zero, suc, List, [], ◌∷◌, ◌++◌, map, take, Option, Some, None}
use Rattle.plain_heap.specs.declared.operation.Op.{Op}
use Rattle.plain_heap.specs.declared.operation.Line.{Line}
use Rattle.plain_heap.specs.PlainHeap.{Heap, empty_heap}
use Rattle.plain_heap.specs.PlainStep.{heap_after, line_of}
use Rattle.plain_heap.specs.Sections.{Execution, Sections, parts_of, warehouse_numbers, section_numbers, joined, first_of}

-- the heap after these operations
abbrev pub heap_from : Option Heap → Heap → List Op → Heap
heap_from catalogue heap [] = heap
heap_from catalogue heap (op ∷ rest) = heap_from catalogue (heap_after heap catalogue op) rest

-- the operations of a part
abbrev pub ops_of : List Execution → List Op
ops_of part = map (λ e. e.op) part

-- the catalogue's operations, part by part
abbrev pub plan_of : Sections → List (List Op)
plan_of s = map ops_of (parts_of s 0)

-- the catalogue at the end of its first z parts
abbrev pub plan_end : ℕ → List (List Op) → ℕ → Heap
plan_end fields plan z = heap_from None (empty_heap fields 0) (joined (take z plan))

-- the catalogue of a script at the end of its first z parts
abbrev pub catalogue_end : Sections → ℕ → Heap
catalogue_end s z = plan_end s.fields (plan_of s) z

-- what a section sees of the catalogue in season z: a warehouse sees it at the end of its part of that season
abbrev pub seen_catalogue : Sections → ℕ → ℕ → Option Heap
seen_catalogue s zero z = None
seen_catalogue s (suc w) z = Some (catalogue_end s z)

-- the heap after further parts of section w, the first of them in season z
abbrev pub heap_after_parts : Sections → ℕ → ℕ → Heap → List (List Execution) → Heap
heap_after_parts s w z heap [] = heap
heap_after_parts s w z heap (part ∷ parts) = heap_after_parts s w (z + 1) (heap_from (seen_catalogue s w z) heap (ops_of part)) parts

-- the plain heap of section w after its first k commands
abbrev pub plain : Sections → ℕ → ℕ → Heap
plain s w k = heap_after_parts s w 1 (empty_heap s.fields w) (first_of k (parts_of s w))

-- the plain heap of section w after its first z parts
abbrev pub part_end : Sections → ℕ → ℕ → Heap
part_end s w z = heap_after_parts s w 1 (empty_heap s.fields w) (take z (parts_of s w))

-- the plain heap of section w after all its parts
abbrev pub last_heap : Sections → ℕ → Heap
last_heap s w = heap_after_parts s w 1 (empty_heap s.fields w) (parts_of s w)

-- the last heap of each section
abbrev pub last_heaps : Sections → List Heap
last_heaps s = map (last_heap s) (section_numbers s)

-- a printed line and its label
pub record Printed : Type 0 where
  pub label : List ℕ
  pub line : Line

-- a line, if there is one, before those that follow
abbrev pub with_label : List ℕ → Option Line → List Printed → List Printed
with_label label None printed = printed
with_label label (Some line) printed = record { label = label; line = line } ∷ printed

-- what these commands print
abbrev pub printed_from : Option Heap → Heap → List Execution → List Printed
printed_from catalogue heap [] = []
printed_from catalogue heap (e ∷ es) = with_label e.label (line_of heap catalogue e.op) (printed_from catalogue (heap_after heap catalogue e.op) es)

-- what further parts of section w print, the first of them in season z
abbrev pub printed_in_parts : Sections → ℕ → ℕ → Heap → List (List Execution) → List Printed
printed_in_parts s w z heap [] = []
printed_in_parts s w z heap (part ∷ parts) =
    printed_from (seen_catalogue s w z) heap part ++ printed_in_parts s w (z + 1) (heap_from (seen_catalogue s w z) heap (ops_of part)) parts

-- what section w prints in its first k commands
abbrev pub printed_before : Sections → ℕ → ℕ → List Printed
printed_before s w k = printed_in_parts s w 1 (empty_heap s.fields w) (first_of k (parts_of s w))

-- what section w prints
abbrev pub transcript : Sections → ℕ → List Printed
transcript s w = printed_in_parts s w 1 (empty_heap s.fields w) (parts_of s w)

-- the heaps that exist just before command k of section w, in season z: a warehouse has its own and the catalogue at the end of its part
-- of the season; the catalogue has its own and those of the warehouses before their parts of the season
abbrev pub heaps_at : Sections → ℕ → ℕ → ℕ → List Heap
heaps_at s zero k z = plain s 0 k ∷ map (λ w. part_end s w (z - 1)) (warehouse_numbers s)
heaps_at s (suc w) k z = catalogue_end s z ∷ plain s (suc w) k ∷ []
