-- Places that are not legal: a new object would take the cell of one that is still reachable.
use Rattle.std.proofs.Common.{refl, codes, ℕ, [], ◌∷◌, arith}
use Rattle.std.specs.Prelude.{slice_index_or}
use Rattle.plain_heap.specs.Sections.{Sections, Execution, part_of}
use Rattle.plain_heap.specs.PlainRun.{heaps_at}
use Rattle.plain_heap.specs.declared.operation.Op.TheVariants as ops
use Rattle.plain_heap.proofs.Found.{found}
use Rattle.plain_heap.proofs.Search.{searched}
use Rattle.gc_script.specs.Script.{script}
use Rattle.play_report.specs.Order.{IsPlaced}
use Rattle.play_end.proofs.FreeCells.{cells-free}
use Rattle.play_words.proofs.LoadRows.{sections_in}

abbrev next_of : Sections → ℕ → ℕ → ℕ → Execution
next_of s w z place = slice_index_or (part_of s w z) place (record { line = 0; label = []; op = ops.Collect })

-- the variable still refers to its old object
abbrev twice : Sections
twice = sections_in (script (codes "gcscript 1\nwarehouse\nnew x 1\nnew x 2\n"))

old_counts : IsPlaced twice 64 ([] ∷ (0 ∷ 0 ∷ []) ∷ []) → ⊥
old_counts p = cells-free twice 64 ([] ∷ (0 ∷ 0 ∷ []) ∷ []) p 1 1 1 (next_of twice 1 1 1) (omega arith) (record { season = omega arith; place = 1; before = refl; there = refl }) tt
    (record { section = 1; number = 0 }) 0 (((found (heaps_at twice 1 1 1) (searched (heaps_at twice 1 1 1) 2) refl).reachable.each (record { section = 1; number = 0 })).0 (0, omega arith, refl)) refl refl

-- an object of the catalogue that a warehouse holds since the season before
abbrev held : Sections
held = sections_in (script (codes "gcscript 3\nfields 1\ncatalogue\nnew a 1\nseason\nnil a\nnew a 2\nwarehouse\ncat k a\n"))

held_counts : IsPlaced held 64 ((0 ∷ 0 ∷ []) ∷ [] ∷ []) → ⊥
held_counts p = cells-free held 64 ((0 ∷ 0 ∷ []) ∷ [] ∷ []) p 0 2 2 (next_of held 0 2 1) (omega arith) (record { season = omega arith; place = 1; before = refl; there = refl }) tt
    (record { section = 0; number = 0 }) 0 (((found (heaps_at held 0 2 2) (searched (heaps_at held 0 2 2) 2) refl).reachable.each (record { section = 0; number = 0 })).0 (0, omega arith, refl)) refl refl

-- an object of the catalogue and one of a warehouse, which both live when the warehouse says their values
abbrev shared : Sections
shared = sections_in (script (codes "gcscript 1\ncatalogue\nnew item 40\nwarehouse\ncat i item\nnew o 1\nsay a i\nsay b o\nnil o\n"))

shared_counts : IsPlaced shared 64 ((0 ∷ []) ∷ (0 ∷ []) ∷ []) → ⊥
shared_counts p = cells-free shared 64 ((0 ∷ []) ∷ (0 ∷ []) ∷ []) p 1 1 1 (next_of shared 1 1 1) (omega arith) (record { season = omega arith; place = 1; before = refl; there = refl }) tt
    (record { section = 0; number = 0 }) 0 (((found (heaps_at shared 1 1 1) (searched (heaps_at shared 1 1 1) 2) refl).reachable.each (record { section = 0; number = 0 })).0 (0, omega arith, refl)) refl refl

-- the first object is reachable through the second one, in the script that `docs/HEADLINE.md` walks through
abbrev pub kept : Sections
kept = sections_in (script (codes "gcscript 1\nwarehouse\nnew a 7\nnew b 9\nset b 0 a\nnil a\nnew c 5\nnil c\nnew d 4\nsay first b\nsum both b 0 10\n"))

kept_counts : IsPlaced kept 64 ([] ∷ (0 ∷ 1 ∷ 0 ∷ 2 ∷ []) ∷ []) → ⊥
kept_counts p = cells-free kept 64 ([] ∷ (0 ∷ 1 ∷ 0 ∷ 2 ∷ []) ∷ []) p 1 4 1 (next_of kept 1 1 4) (omega arith) (record { season = omega arith; place = 4; before = refl; there = refl }) tt
    (record { section = 1; number = 0 }) 0 (((found (heaps_at kept 1 4 1) (searched (heaps_at kept 1 4 1) 3) refl).reachable.each (record { section = 1; number = 0 })).0 (0, omega arith, refl)) refl refl
