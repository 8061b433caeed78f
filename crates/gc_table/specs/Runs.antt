-- What holds on every run of the core.
use Rattle.std.specs.Prelude.{ℕ, ◌≡◌, ◌+◌, ◌<◌, ◌≤◌, List, [], ◌∷◌, length, take, None, IsTrue}
use Rattle.std.specs.List.{All}
use Rattle.mark_core.specs.Numbers.{most_seats}
use Rattle.mark_core.specs.Shapes.{IsShape}
use Rattle.mark_core.specs.Steps.{Core, failing_part, after_event, run_of, start_core}
use Rattle.mark_core.specs.Laws.{NumbersFit}
use Rattle.mark_core.specs.Closed.{IsReachableIn, is_published}
use Rattle.mark_core.specs.declared.kinds.Event.{Event}
use Rattle.mark_core.specs.declared.kinds.Shape.{Shape}

-- each of these events is allowed in its turn, from this state on
abbrev pub AreAllowed : Core → List Event → Type 0
AreAllowed c [] = Unit {0}
AreAllowed c (e ∷ es) = (failing_part c e ≡ None) × AreAllowed (after_event c e) es

-- a run of n seats: its events, each allowed in its turn, from the state in which nothing has happened
pub record IsRun (sh : Shape) (n : ℕ) (es : List Event) : Type 0 where
  pub shape : IsShape sh
  pub seats : (1 ≤ n) × (n ≤ most_seats)
  pub fit : All (λ (e : Event). NumbersFit e.step) es
  pub allowed : AreAllowed (start_core sh n) es

-- the state after the first k events
abbrev pub core_after : Shape → ℕ → List Event → ℕ → Core
core_after sh n es k = run_of (take k es) (start_core sh n)

-- no event of a run frees a cell that is reachable just before it
abbrev pub NoneFreed : Type 0
NoneFreed = (sh : Shape) (n : ℕ) (es : List Event) → IsRun sh n es → (k x : ℕ) → k < length es → IsReachableIn (core_after sh n es k) x
    → IsTrue (is_published (core_after sh n es k) x) → IsTrue (is_published (core_after sh n es (k + 1)) x)
