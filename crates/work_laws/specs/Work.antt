-- What marking and cleaning come to in a run from the start: by the heap's sizes, by how often marking began, how often a cell was deferred, and how often a card
-- was dirtied.
use Rattle.std.specs.Prelude.{ℕ, ◌+◌, ◌*◌, ◌≤◌, List}
use Rattle.mark_core.specs.Numbers.{most_seats}
use Rattle.mark_core.specs.Cards.{card_cells}
use Rattle.mark_core.specs.Shapes.{IsShape}
use Rattle.mark_core.specs.Steps.{start_core}
use Rattle.mark_core.specs.Laws.{AllNumbersFit}
use Rattle.mark_core.specs.declared.kinds.Event.{Event}
use Rattle.mark_core.specs.declared.kinds.Shape.{Shape}
use Rattle.gc_table.specs.Taking.{Finds}
use Rattle.gc_table.specs.declared.view.View.{View}
use Rattle.mark_core.specs.declared.kinds.Step.{Step}
use Rattle.work_laws.specs.Counting.{Sort, count_events}
use Rattle.work_laws.specs.Marking.{marks_anew, begins_marking}
use Rattle.work_laws.specs.Queueing.{pops, defers}
use Rattle.work_laws.specs.Scanning.{reads_field, reads_root, marks, cleans}
use Rattle.work_laws.specs.Cleaning.{dirties}

-- how many events of this sort there are in the run of n seats from the start
abbrev pub times_in : Sort → Shape → ℕ → List Event → ℕ
times_in sort sh n es = count_events sort es (start_core sh n)

-- the cells that are popped, at most: each cell once each time that marking begins, and what was deferred again
abbrev pub most_pops : Shape → ℕ → List Event → ℕ
most_pops sh n es = sh.cells * times_in begins_marking sh n es + times_in defers sh n es

-- each sort of work in such a run
pub record IsBoundedWork (sh : Shape) (n : ℕ) (es : List Event) : Type 0 where
  pub marked : times_in marks_anew sh n es ≤ sh.cells * times_in begins_marking sh n es
  pub popped : times_in pops sh n es ≤ most_pops sh n es
  pub cleaned : times_in cleans sh n es ≤ times_in dirties sh n es
  pub read : times_in reads_field sh n es ≤ sh.fields * most_pops sh n es + card_cells * sh.fields * times_in dirties sh n es
  pub tried : times_in marks sh n es ≤ times_in reads_field sh n es + times_in reads_root sh n es

-- in every run, whatever threads do; and in what has happened on an open table when a thread takes a step
pub record WorkIsBounded : Type 0 where
  pub runs : (sh : Shape) (n : ℕ) (es : List Event) → IsShape sh → 1 ≤ n → n ≤ most_seats → AllNumbersFit es → IsBoundedWork sh n es
  pub tables : (step : Step) (n : ℕ) (v : View) (f : Finds step n v) → IsBoundedWork f.state.core.shape 1 f.past
