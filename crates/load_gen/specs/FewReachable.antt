-- How many objects are reachable while a script is played.
use Rattle.std.specs.Prelude.{ℕ, ◌≡◌, ◌≤◌, List, length, Result, Ok}
use Rattle.plain_heap.specs.PlainRun.{plain}
use Rattle.plain_heap.specs.Paths.{AreOwnReachable}
use Rattle.gc_script.specs.Faults.{Fault}
use Rattle.gc_script.specs.Script.{Script}

-- of a script that was read, each section has at most this many reachable objects of its own after each number k of its commands
abbrev pub HasFewReachable : ℕ → Result Script Fault → Type 0
HasFewReachable most read = (whole : Script) → read ≡ Ok whole
    → (w k : ℕ) (numbers : List ℕ) → AreOwnReachable (plain whole.sections w k) numbers → length numbers ≤ most
