-- The steps that a call took, by what it added to the log of its seat.
use Rattle.std.specs.Prelude.{◌≡◌, ◌&&◌, List, [], ◌∷◌, ◌++◌, length, drop, map, Bool, true, IsTrue}
use Rattle.mark_core.specs.declared.kinds.Step.{Step}
use Rattle.gc_table.specs.declared.view.Entry.{Entry}
use Rattle.gc_table.specs.declared.view.View.{View}
pub use Rattle.gc_table.specs.Entries.{event}

-- what was added to the log of a seat
abbrev pub events : View → View → List Entry
events v w = drop (length v.log) w.log

-- the log grew
abbrev pub Grows : View → View → Type 0
Grows v w = (more : List Entry) × (w.log ≡ v.log ++ more)

-- the steps of these events
abbrev pub steps_of : List Entry → List Step
steps_of es = map (λ (e : Entry). e.step) es

-- the step of each of these events is of this sort
abbrev pub all_steps : (Step → Bool) → List Entry → Bool
all_steps P [] = true
all_steps P (e ∷ es) = P e.step && all_steps P es

-- all steps that were added to the log are of this sort
abbrev pub Only : (Step → Bool) → View → View → Type 0
Only P v w = IsTrue (all_steps P (events v w))
