-- What is so of threads that visit the lock while their world is open, at each moment.
use Rattle.std.specs.Prelude.{ℕ, ◌≡◌, ◌≢◌, List, ◌++◌, IsFalse, IsTrue}
use mathlib.Core.Option.{some}
use lib.ListN.{get_elem?}
use Rattle.atomic_table.specs.Table.{State}
use Rattle.plain_heap.specs.Paths.{Name}
use Rattle.plain_heap.specs.declared.operation.Op.{Op}
use Rattle.mark_core.specs.declared.kinds.Event.{Event}
use Rattle.mark_core.specs.declared.kinds.Shape.{Shape}
use Rattle.gc_table.specs.Lending.{RefersTo, stores_once}
use Rattle.gc_table.specs.Log.{all_steps}
use Rattle.gc_table.specs.Seen.{OneHistory, seats_of}
use Rattle.gc_table.specs.Single.{spares_values}
use Rattle.gc_table.specs.declared.view.Entry.{Entry}
use Rattle.gc_table.specs.declared.view.TokenState.{TokenState}
use Rattle.gc_table.specs.declared.view.View.{View}
use Rattle.shared_heap.specs.Rooting.{spares_fields}
use Rattle.example_locks.specs.Guarding.{FindsWhole, IsAlone, ReadsAlike}
use Rattle.example_locks.specs.Visits.{VisitsRoot}

-- the seat of section 0 stored once at most in its variable 0, changed no value, and stored in no field
pub record IsRootLog (fields : ℕ) (log : List Entry) : Type 0 where
  pub once : IsTrue (stores_once 0 log)
  pub values : IsTrue (all_steps (spares_values fields) log)
  pub fields_left : IsTrue (all_steps spares_fields log)

-- a thread that visits the lock has come so far
abbrev pub IsVisiting : ℕ → List Entry → Type 0
IsVisiting fields log = (n : ℕ) × (more : List Entry) × VisitsRoot fields n (log ++ more)

-- all seats are there; the first is that of section 0, and the others are those of threads that visit the lock
abbrev pub AllVisit : Shape → State (Unit {0}) TokenState → Type 0
AllVisit sh s = (i : ℕ) (v : View) → get_elem? (seats_of s.views) i ≡ some v → IsFalse v.state.spent × (i ≡ 0 → IsRootLog sh.fields v.log) × (i ≢ 0 → IsVisiting sh.fields v.log)

-- what is so of all that has happened
abbrev pub IsGuardedSoFar : Shape → List Event → Type 0
IsGuardedSoFar sh es = IsAlone sh es × ((root : Name) × ((k : ℕ) → RefersTo sh es 0 root k) × FindsWhole sh es root × ReadsAlike sh es root)

-- at each moment of an open world whose threads visit the lock, no two of them have had it at once, and who came in found the pair whole
abbrev pub GuardedOpen : Type 0
GuardedOpen = (sh : Shape) (plan : List (List Op)) (s : State (Unit {0}) TokenState) (o : OneHistory sh plan s) → AllVisit sh s → IsGuardedSoFar sh o.holds.past
