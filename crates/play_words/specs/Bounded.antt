-- A section of which only this many objects are ever reachable.
use Rattle.std.specs.Prelude.{ℕ, ◌≤◌, List, length}
use Rattle.plain_heap.specs.Sections.{Sections}
use Rattle.plain_heap.specs.PlainRun.{plain}
use Rattle.plain_heap.specs.Paths.{AreOwnReachable}

-- after each number of the section's commands, its own references reach at most this many of its objects
abbrev pub KeepsFew : Sections → ℕ → ℕ → Type 0
KeepsFew s w most = (k : ℕ) (numbers : List ℕ) → AreOwnReachable (plain s w k) numbers → length numbers ≤ most
