-- What is so of threads that share a queue while their world is open, at each moment.
use Rattle.std.specs.Prelude.{ℕ, ◌≡◌, ◌≢◌, ◌⊎◌, List, [], ◌++◌, IsFalse, IsTrue}
use mathlib.Core.Option.{some}
use lib.ListN.{get_elem?}
use Rattle.atomic_table.specs.Table.{State}
use Rattle.plain_heap.specs.Paths.{Name}
use Rattle.plain_heap.specs.declared.operation.Op.{Op}
use Rattle.mark_core.specs.declared.kinds.Event.{Event}
use Rattle.mark_core.specs.declared.kinds.Shape.{Shape}
use Rattle.gc_table.specs.Lending.{RefersTo, stores_once}
use Rattle.gc_table.specs.Log.{all_steps}
use Rattle.gc_table.specs.Past.{log_of}
use Rattle.gc_table.specs.Seen.{OneHistory, seats_of}
use Rattle.gc_table.specs.declared.view.Entry.{Entry}
use Rattle.gc_table.specs.declared.view.TokenState.{TokenState}
use Rattle.gc_table.specs.declared.view.View.{View}
use Rattle.queue_laws.specs.LentQueues.{KeepsObjects, LaysOut, LentNumbers, UsesLent, keeps_objects, log_since}
use Rattle.example_structures.specs.Fitting.{hands}
use Rattle.example_queues.specs.Queueing.{IsFirstInFirstOut}

-- the log of a seat began with these events, and went on with those: it did nothing since, changed no object, or used the queue
abbrev pub GoesOn : ℕ → ℕ → List Entry → List Entry → Type 0
GoesOn fields i log more = (more ≡ []) ⊎ (KeepsObjects i log more ⊎ UsesLent fields 0 (hands 0) log more)

-- all seats are there. Until a moment one laid out the root for a queue, and the others changed no object; since then each used it, or changed no object
pub record AllUse (sh : Shape) (s : State (Unit {0}) TokenState) (past rest : List Event) : Type 0 where
  pub unspent : (i : ℕ) (v : View) → get_elem? (seats_of s.views) i ≡ some v → IsFalse v.state.spent
  pub once : (v : View) → get_elem? (seats_of s.views) 0 ≡ some v → IsTrue (stores_once 0 v.log)
  pub maker : ℕ
  pub lays : LaysOut sh.fields 0 (hands 0) (log_of sh past maker)
  pub others : (i : ℕ) → i ≢ maker → IsTrue (all_steps keeps_objects (log_of sh past i))
  pub seats : (i : ℕ) (v : View) → get_elem? (seats_of s.views) i ≡ some v → (v.log ≡ log_of sh past i ++ log_since sh past rest i) → GoesOn sh.fields i (log_of sh past i) (log_since sh past rest i)

-- then what section 0 lends is a queue, first in, first out, whatever happens; and what each seat puts in and takes out has the numbers that its log tells
abbrev pub QueueOpen : Type 0
QueueOpen =
    (sh : Shape) (plan : List (List Op)) (s : State (Unit {0}) TokenState) (o : OneHistory sh plan s) (past rest : List Event) → o.holds.past ≡ past ++ rest → AllUse sh s past rest
    → (root : Name) × ((k : ℕ) → RefersTo sh (past ++ rest) 0 root k) × (order : IsFirstInFirstOut sh past rest root) × LentNumbers sh past rest 0 (hands 0) order.queue
