-- Paths of references from the variables, and the level of a record.
use Rattle.std.specs.Prelude.{ℕ, zero, suc, ◌≡◌, ◌<◌, ◌≤◌, List, length, get_or, Option, Some, None}
use Rattle.heap_dump.specs.Final.{DumpedHeap, object}

-- a variable refers to record k
abbrev pub VariableRefersTo : DumpedHeap → ℕ → Type 0
VariableRefersTo h k = (i : ℕ) × (i < length h.roots) × (get_or h.roots i 0 ≡ suc k)

-- a field of record j refers to record k
abbrev pub RecordRefersTo : DumpedHeap → ℕ → ℕ → Type 0
RecordRefersTo h j k = (i : ℕ) × (i < length (object h j).refs) × (get_or (object h j).refs i 0 ≡ suc k)

-- a path of this many references that starts with a record that a variable refers to, and ends with record k
abbrev pub HasPath : DumpedHeap → ℕ → ℕ → Type 0
HasPath h zero k = VariableRefersTo h k
HasPath h (suc n) k = (j : ℕ) × HasPath h n j × RecordRefersTo h j k

-- the least number of references in a path that ends with record k; none if there is no path
abbrev pub IsLevel : DumpedHeap → ℕ → Option ℕ → Type 0
IsLevel h k None = (n : ℕ) → ¬ (HasPath h n k)
IsLevel h k (Some level) = HasPath h level k × ((n : ℕ) → HasPath h n k → level ≤ n)

-- the level of each record
abbrev pub AreLevels : DumpedHeap → List (Option ℕ) → Type 0
AreLevels h levels = (length levels ≡ length h.records) × ((k : ℕ) → k < length h.records → IsLevel h k (get_or levels k None))
