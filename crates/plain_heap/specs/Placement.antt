-- Where objects may lie, and when a heap of this many cells is full.
use Rattle.std.specs.Prelude.{ℕ, ◌≡◌, ◌<◌, ◌≤◌, ◌-◌, zero, suc, List, [], length, map, slice_get, slice_index_or, Some}
use Rattle.plain_heap.specs.declared.operation.Op.{Op}
use Rattle.plain_heap.specs.declared.operation.Op.TheVariants as ops
use Rattle.plain_heap.specs.Sections.{Execution, Sections, end_of, section_numbers, IsNext}
use Rattle.plain_heap.specs.PlainRun.{plain}
use Rattle.plain_heap.specs.Paths.{Name, AreReachable}

-- the operation makes an object
abbrev pub IsNew : Op → Type 0
IsNew (ops.New v n) = Unit {0}
IsNew op = ⊥

-- the cells of a section's objects, by the objects' numbers
abbrev pub cells_of : List (List ℕ) → ℕ → List ℕ
cells_of places w = slice_index_or places w []

-- an object lies in this cell
abbrev pub LiesIn : List (List ℕ) → Name → ℕ → Type 0
LiesIn places name cell = slice_get (cells_of places name.section) name.number ≡ Some cell

-- how many commands of section w were done
abbrev pub position : List ℕ → ℕ → ℕ
position done w = slice_index_or done w 0

-- the positions are of one turn of season z: that of a warehouse, or that of the catalogue
abbrev pub AreOfTurn : Sections → List ℕ → ℕ → ℕ → Type 0
AreOfTurn s done zero z = (end_of s 0 (z - 1) ≤ position done 0) × (position done 0 ≤ end_of s 0 z)
    × ((w : ℕ) → 0 < w → w < length done → position done w ≡ end_of s w (z - 1))
AreOfTurn s done (suc section) z = (position done 0 ≡ end_of s 0 z)
    × ((w : ℕ) → 0 < w → w < length done → (end_of s w (z - 1) ≤ position done w) × (position done w ≤ end_of s w z))

-- at these positions the reachable objects fill all cells, and the section's next command is a `new`
pub record IsFilled (s : Sections) (cells section : ℕ) (done : List ℕ) : Type 0 where
  pub sections : length done ≡ length (section_numbers s)
  pub is_section : section < length done
  pub names : List Name
  pub reachable : AreReachable (map (λ w. plain s w (position done w)) (section_numbers s)) names
  pub full : length names ≡ cells
  pub season : ℕ
  pub next : Execution
  pub is_next : IsNext s section (position done section) season next
  pub is_new : IsNew next.op
  pub turn : AreOfTurn s done section season
