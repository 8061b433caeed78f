-- While the world is stopped, every cell that was marked can be scanned at once.
use Rattle.std.specs.Prelude.{◌≡◌, List, ◌&&◌}
use Rattle.mark_core.specs.Layout.{words_of}
use Rattle.mark_core.specs.Seats.{is_phase}
use Rattle.mark_core.specs.Steps.{Core}
use Rattle.mark_core.specs.Laws.{IsCore, AllNumbersFit}
use Rattle.mark_core.specs.declared.kinds.Event.{Event}
use Rattle.mark_core.specs.declared.kinds.Phase.TheVariants.{Drain}
use Rattle.work_laws.specs.Counting.{Sort, count_events}
use Rattle.work_laws.specs.Queueing.{defers}

-- a popped cell is found unpublished in Drain
abbrev pub defers_in_drain : Sort
defers_in_drain c s step = is_phase (words_of c.shape c.words).phase Drain && defers c s step

-- over every run: none is, so there each popped cell is scanned
pub record DrainsDeferNone : Type 0 where
  pub none : (c : Core) (es : List Event) → IsCore c → AllNumbersFit es → count_events defers_in_drain es c ≡ 0
