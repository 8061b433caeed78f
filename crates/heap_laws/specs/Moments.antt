-- What happened to a heap, as one list of events from the start, and its moments: a state of the core and the plain heap with which it agrees.
use Rattle.std.specs.Prelude.{ℕ, ◌≡◌, List, None, take}
use Rattle.mark_core.specs.Laws.{IsCore}
use Rattle.mark_core.specs.Steps.{Core, first_refused, run_of, start_core}
use Rattle.mark_core.specs.declared.kinds.Event.{Event}
use Rattle.mark_core.specs.declared.kinds.Shape.{Shape}
use Rattle.mark_core.specs.declared.kinds.Step.{Step}
use Rattle.gc_table.specs.Agreement.{AgreesWith}
use Rattle.gc_table.specs.Finding.{heap_found}
use Rattle.gc_table.specs.Laws.{IsRunOf}
use Rattle.gc_table.specs.RunWorlds.{World}
use Rattle.gc_table.specs.Runs.{core_after}
use Rattle.gc_table.specs.Sharing.{heap_after_events}
use Rattle.gc_table.specs.Taking.{Finds}
use Rattle.gc_table.specs.declared.seat.HeapSeat.{HeapSeat}
use Rattle.gc_table.specs.declared.view.View.{View}
use Rattle.gc_table.specs.declared.words.Words.{Words}

-- each of these events is allowed in its turn, and each state meets the rule of the core
pub record IsHistory (sh : Shape) (es : List Event) : Type 0 where
  pub allowed : first_refused 0 es (start_core sh 1) ≡ None
  pub sound : (n : ℕ) → IsCore (run_of (take n es) (start_core sh 1))

-- a state that meets the rule of the core, and agrees with a plain heap
pub record IsMoment (c : Core) (world : World) : Type 0 where
  pub core : IsCore c
  pub agrees : AgreesWith c world

-- what threads did with a closed heap is a history, and what led to a step on an open one; after each number of events comes a moment
pub record MomentsFound : Type 0 where
  pub on_closed : (sh : Shape) (seats : List HeapSeat) (w : Words) (es : List Event) → IsRunOf sh seats w es → IsHistory sh es
  pub on_open : (step : Step) (n : ℕ) (v : View) (f : Finds step n v) → IsHistory f.state.core.shape f.past
  pub at_step : (step : Step) (n : ℕ) (v : View) (f : Finds step n v) → IsMoment f.state.core (heap_found step n v f)
  pub each : (sh : Shape) (es : List Event) → IsHistory sh es → (k : ℕ) → IsMoment (core_after sh 1 es k) (heap_after_events sh es k)
