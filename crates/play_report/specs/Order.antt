-- One order of the commands of all sections, and which cells new objects take in it.
use Rattle.std.specs.Prelude.{ℕ, ◌≡◌, ◌<◌, ◌==◌, List, length, map, take, All, count_by, slice_get, Some}
use Rattle.plain_heap.specs.PlainHeap.{Heap}
use Rattle.plain_heap.specs.Sections.{Execution, Sections, executed_of, section_numbers, IsNext}
use Rattle.plain_heap.specs.PlainRun.{plain, last_heap, last_heaps}
use Rattle.plain_heap.specs.Paths.{Name, IsReachable}
use Rattle.plain_heap.specs.Placement.{IsNew, cells_of, LiesIn, position, AreOfTurn}

-- how many commands each section did in this order, which has for each command the number of its section
abbrev pub done_in : Sections → List ℕ → List ℕ
done_in s order = map (λ w. count_by (λ v. v == w) order) (section_numbers s)

-- the plain heap of each section after this many of its commands
abbrev pub heaps_done : Sections → List ℕ → List Heap
heaps_done s done = map (λ w. plain s w (position done w)) (section_numbers s)

-- all commands are in this order: those of a section as they follow each other, and in each season the catalogue's before the warehouses'
pub record IsOrder (s : Sections) (order : List ℕ) : Type 0 where
  pub whole : (w : ℕ) → w < length (section_numbers s) → position (done_in s order) w ≡ length (executed_of s w)
  pub turns : (k w z : ℕ) (e : Execution) → slice_get order k ≡ Some w → IsNext s w (position (done_in s (take k order)) w) z e → AreOfTurn s (done_in s (take k order)) w z

-- the next command is one of section w, after this many of each section's: if it is a `new`, no object that any section can reach lies in the cell that it takes
abbrev pub TakesFreeCell : Sections → List (List ℕ) → List ℕ → ℕ → Type 0
TakesFreeCell s places done w = (z : ℕ) (e : Execution) → IsNext s w (position done w) z e → IsNew e.op
    → (name : Name) (cell : ℕ) → IsReachable (heaps_done s done) name → LiesIn places name cell
    → LiesIn places (record { section = w; number = length (plain s w (position done w)).objects }) cell → ⊥

-- one cell for each object of each section, all among this many; in some one order of all commands each `new` takes a free cell; and no two survivors in one cell
pub record IsPlaced (s : Sections) (cells : ℕ) (places : List (List ℕ)) : Type 0 where
  pub sections : length places ≡ length (section_numbers s)
  pub each : (w : ℕ) → w < length places → length (cells_of places w) ≡ length (last_heap s w).objects
  pub below : All (All (λ cell. cell < cells)) places
  pub order : List ℕ
  pub is_order : IsOrder s order
  pub free : (k w : ℕ) → slice_get order k ≡ Some w → TakesFreeCell s places (done_in s (take k order)) w
  pub apart : (a b : Name) (cell : ℕ) → IsReachable (last_heaps s) a → IsReachable (last_heaps s) b → LiesIn places a cell → LiesIn places b cell → a ≡ b
