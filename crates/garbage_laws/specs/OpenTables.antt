-- The same of what threads do with an open table, as one of them takes a step.
use Rattle.std.specs.Prelude.{ℕ, ◌≡◌, List, ◌++◌, IsTrue, IsFalse}
use Rattle.std.specs.List.{All}
use Rattle.mark_core.specs.Layout.{words_of}
use Rattle.mark_core.specs.Seats.{is_phase}
use Rattle.mark_core.specs.Steps.{Core, after_event, run_of, start_core}
use Rattle.mark_core.specs.Weak.{IsGone}
use Rattle.mark_core.specs.declared.kinds.Event.{Event}
use Rattle.mark_core.specs.declared.kinds.Phase.TheVariants.{Idle}
use Rattle.mark_core.specs.declared.kinds.Step.{Step}
use Rattle.mark_core.specs.declared.kinds.Step.TheVariants.{StorePhase}
use Rattle.gc_table.specs.Taking.{Finds}
use Rattle.gc_table.specs.declared.view.View.{View}
use Rattle.garbage_laws.specs.Garbage.{is_marked, is_used, ends_cycle, identity_in, FindOnly, IsGarbage}

-- the past of a step that a seat takes, in two parts: these events led to a state of phase Idle, and those since have ended no cycle
pub record IsSinceIdle (step : Step) (n : ℕ) (v : View) (f : Finds step n v) (before since : List Event) (found : List ℕ) : Type 0 where
  pub parts : before ++ since ≡ f.past
  pub idle : IsTrue (is_phase (words_of f.state.core.shape (run_of before (start_core f.state.core.shape 1)).words).phase Idle)
  pub goes_on : All (λ (e : Event). IsFalse (ends_cycle e.step)) since
  pub finds : FindOnly found since (run_of before (start_core f.state.core.shape 1))

-- this cell was garbage then
abbrev pub WasGarbage : (step : Step) (n : ℕ) (v : View) → Finds step n v → List Event → List ℕ → ℕ → Type 0
WasGarbage step n v f before found x = IsGarbage (run_of before (start_core f.state.core.shape 1)) found x

-- the state just after the step
abbrev pub core_left : (step : Step) (n : ℕ) (v : View) → Finds step n v → Core
core_left step n v f = after_event f.state.core (record { seat = f.index; step = step })

-- whatever other threads do: no step finds a cell marked that was garbage in Idle, until the cycle has ended; and the step that ends it leaves no such cell in use, and no such object
pub record TableGarbageGoes : Type 0 where
  pub white : (step : Step) (n : ℕ) (v : View) (f : Finds step n v) (before since : List Event) (found : List ℕ) (x : ℕ) → IsSinceIdle step n v f before since found → WasGarbage step n v f before found x
      → IsFalse (is_marked f.state.core x)
  pub freed : (n : ℕ) (v : View) (f : Finds (StorePhase Idle) n v) (before since : List Event) (found : List ℕ) (x : ℕ) → IsSinceIdle (StorePhase Idle) n v f before since found → WasGarbage (StorePhase Idle) n v f before found x
      → IsFalse (is_used (core_left (StorePhase Idle) n v f) x)
  pub gone : (n : ℕ) (v : View) (f : Finds (StorePhase Idle) n v) (before since : List Event) (found : List ℕ) (x : ℕ) → IsSinceIdle (StorePhase Idle) n v f before since found → WasGarbage (StorePhase Idle) n v f before found x
      → IsGone (core_left (StorePhase Idle) n v f) (identity_in (run_of before (start_core f.state.core.shape 1)) x)
