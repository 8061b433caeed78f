-- What a payment did with the cells that it deferred: it popped none of them again. And that it read the counter of cards only to draw one.
use Rattle.std.specs.Prelude.{ℕ, ◌≡◌, ◌≤◌, List, [], ◌∷◌, false, IsTrue}
use Rattle.mark_core.specs.Layout.{card_count}
use Rattle.mark_core.specs.Numbers.{traced_count}
use Rattle.mark_core.specs.declared.kinds.Shape.{Shape}
use Rattle.mark_core.specs.declared.kinds.Step.TheVariants.{AddStat}
use Rattle.gc_table.specs.Log.{events}
use Rattle.gc_table.specs.Running.{Ran}
use Rattle.gc_table.specs.Seats.{Took}
use Rattle.gc_table.specs.declared.view.View.{View}
use Rattle.packet_pools.specs.Counts.{count_of}
use Rattle.tracer.specs.Deferral.{Defers}
use Rattle.tracer.specs.Recycling.{Recycled}
use Rattle.tracer.specs.declared.traced.Stopped.{Stopped}
use Rattle.tracer.specs.declared.traced.Stopped.TheVariants.{NoWork}
use Rattle.gc_cycle.specs.declared.counts.Paid.{Paid}
use Rattle.gc_cycle.specs.Events.{never}
use Rattle.gc_cycle.specs.Sorts.{draws, pops, reads_card_left, reads_counter, takes_deferred}

-- the seat popped nothing, and took no packet out of the deferred pool; it read the counter of cards below its end only as often as it drew a card
pub record LeavesDeferred (v w : View) : Type 0 where
  pub ran : Ran v w
  pub unpopped : IsTrue (never pops (events v w))
  pub untaken : IsTrue (never takes_deferred (events v w))
  pub counted : count_of (reads_card_left (card_count v.shape)) (events v w) ≤ count_of draws (events v w)

-- a list of traces, by the views before and after each, latest first: each put the cells that it deferred into the deferred pool (`Defers`), and didn't
-- read the counter of cards. Before, between and
-- after them the seat popped nothing, and took no packet out of that pool
abbrev pub TracesBy : List (View × View) → View → View → Type 0
TracesBy [] v w = LeavesDeferred v w
TracesBy (x ∷ xs) v w = TracesBy xs v x.0 × Ran x.0 x.1 × Defers x.0 x.1 × IsTrue (never reads_counter (events x.0 x.1)) × LeavesDeferred x.1 w

-- the seat popped cells only in such traces
pub record TracesApart (v w : View) : Type 0 where
  pub traces : List (View × View)
  pub by : TracesBy traces v w

-- if nothing was left to trace, all deferred packets were brought back
abbrev pub RecyclesFor : Stopped → Shape → View → View → Type 0
RecyclesFor NoWork sh v w = (n : ℕ) × Recycled sh n (events v w)
RecyclesFor stopped sh v w = w ≡ v

-- the seat traced, and brought deferred packets back only after that
pub record TracesThenRecycles (sh : Shape) (stopped : Stopped) (v w : View) : Type 0 where
  pub traced : View
  pub traces : TracesApart v traced
  pub ran : Ran traced w
  pub recycles : RecyclesFor stopped sh traced w

-- a payment did so, and then told how many objects it had traced
pub record RecyclesLast (sh : Shape) (paid : Paid) (v w : View) : Type 0 where
  pub recycled : View
  pub traces : TracesThenRecycles sh paid.stopped v recycled
  pub tells : Took (AddStat traced_count paid.done false) recycled w
