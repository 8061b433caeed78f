-- A lock that section 0 lends, among whatever other objects, told by the logs of its threads alone.
use Rattle.std.specs.Prelude.{ℕ, ◌≡◌, ◌<◌, ◌==◌, ◌||◌, not, List, ◌∷◌, ◌++◌, Bool, true, false, None, IsTrue, take}
use Rattle.plain_heap.specs.Paths.{Name}
use Rattle.mark_core.specs.Numbers.{section_variables}
use Rattle.mark_core.specs.declared.kinds.Event.{Event}
use Rattle.mark_core.specs.declared.kinds.Shape.{Shape}
use Rattle.mark_core.specs.declared.kinds.Step.{Step}
use Rattle.mark_core.specs.declared.kinds.Step.TheVariants.{ExchangeValue, StoreNew}
use Rattle.gc_table.specs.Lending.{RefersTo}
use Rattle.gc_table.specs.Log.{all_steps}
use Rattle.gc_table.specs.Past.{log_of}
use Rattle.gc_table.specs.Single.{is_inside, takes_turns}
use Rattle.gc_table.specs.declared.view.Entry.{Entry}
use Rattle.heap_laws.specs.Lent.{holds_lent}
use Rattle.heap_laws.specs.Locks.{stores_none}
use Rattle.heap_laws.specs.Moments.{IsHistory}

-- a new object has the value 0
abbrev pub makes_zero : ℕ → Step → Bool
makes_zero fields (StoreNew c part word) = not (part == fields) || (word == 0)
makes_zero fields step = true

-- each exchange of a value goes through a variable that refers to what section 0 lends in its variable u
abbrev pub IsThroughLent : ℕ → List Entry → Type 0
IsThroughLent u log = (before after : List Entry) (e : Entry) (v m n : ℕ) → log ≡ before ++ e ∷ after → e.step ≡ ExchangeValue v m n → (v < section_variables) × IsTrue (holds_lent u v None false before)

-- the seats take the object that is lent for a lock, and may make others, and set their fields and its own
pub record TakesLent (sh : Shape) (es : List Event) (u : ℕ) (name : Name) : Type 0 where
  pub history : IsHistory sh es
  pub below : u < section_variables
  pub lends : (k : ℕ) → RefersTo sh es u name k
  pub lent : (i : ℕ) → IsThroughLent u (log_of sh es i)
  pub turns : (i : ℕ) → IsTrue (takes_turns false (log_of sh es i))
  pub unstored : (i : ℕ) → IsTrue (all_steps stores_none (log_of sh es i))
  pub made : IsTrue (all_steps (makes_zero sh.fields) (log_of sh es name.section))

-- no two are inside, after whatever number of events
abbrev pub LockByLog : Type 0
LockByLog =
    (sh : Shape) (es : List Event) (u : ℕ) (name : Name) → TakesLent sh es u name → (k i j : ℕ) → IsTrue (is_inside false (log_of sh (take k es) i)) → IsTrue (is_inside false (log_of sh (take k es) j)) → i ≡ j
