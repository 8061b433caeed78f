-- What a tracer does inside the world while marking is under way.
use Rattle.std.specs.Prelude.{ℕ, ◌≡◌, ◌<◌, ◌≤◌, ◌+◌, ◌⊎◌, ◌==◌, not, Bool, true, IsTrue}
use Rattle.mark_core.specs.Numbers.{done_count}
use Rattle.mark_core.specs.declared.kinds.Step.{Step}
use Rattle.mark_core.specs.declared.kinds.Step.TheVariants.{NextOfCards, ReadStat}
use Rattle.gc_table.specs.Log.{Only, events}
use Rattle.gc_table.specs.Running.{Ran}
use Rattle.gc_table.specs.declared.view.View.{View}
use Rattle.packet_pools.specs.Counts.{count_of}
use Rattle.packet_pools.specs.OnlyTraced.{traces_cells}
use Rattle.card_clean.specs.Cleaning.{clears}
use Rattle.tracer.specs.Causes.{FoundNoWork}
use Rattle.tracer.specs.Deferral.{Defers}
use Rattle.tracer.specs.Recycling.{Recycled}
use Rattle.tracer.specs.Tally.{pops}
use Rattle.gc_cycle.specs.Events.{never}
use Rattle.gc_cycle.specs.Sorts.{draws, takes_deferred}
use Rattle.seat_turns.specs.CardPass.{PassesLate}

-- how many objects a turn traces, if there are as many
abbrev pub turn_quota : ℕ
turn_quota = 64

-- the step traces or cleans cards, or reads a number, but not that of the parts that were played: none changes a number, moves or reads the phase, or enters
-- or leaves
abbrev pub tends_inside : Step → Bool
tends_inside NextOfCards = true
tends_inside (ReadStat which) = not (which == done_count)
tends_inside step = traces_cells step

-- by such steps this many objects were traced, and what the seat's section has come to is as it was
pub record Tends (traced : ℕ) (v w : View) : Type 0 where
  pub ran : Ran v w
  pub only : Only tends_inside v w
  pub done : count_of pops (events v w) ≡ traced
  pub own : w.own ≡ v.own

-- such steps traced nothing. No packet was taken out of the deferred pool; and a card was cleaned only once for each that was drawn, or for one of these that were
-- drawn before
pub record TendsCards (drawn : ℕ) (v w : View) : Type 0 where
  pub tends : Tends 0 v w
  pub untaken : IsTrue (never takes_deferred (events v w))
  pub once : count_of clears (events v w) ≤ drawn + count_of draws (events v w)

-- as many as a turn traces, by steps of tracing alone; or fewer, and then at some moment nothing was left in hand and no packet with a cell was found; no cell that it deferred was popped again
-- (`Defers`)
pub record TracesSome (traced : ℕ) (v w : View) : Type 0 where
  pub tends : Tends traced v w
  pub only : Only traces_cells v w
  pub ends : (traced ≡ turn_quota) ⊎ ((traced < turn_quota) × FoundNoWork v w)
  pub defers : Defers v w

-- after a turn's objects nothing was done; after fewer, it was seen whether cards are to be passed (`PassesLate`)
abbrev pub PassesAfter : ℕ → View → View → Type 0
PassesAfter traced v w = ((traced ≡ turn_quota) × (w ≡ v)) ⊎ ((traced < turn_quota) × PassesLate v w)

-- the seat traced this many objects, and then tended to cards; what is deferred stays where it is
pub record MarksSome (traced : ℕ) (v w : View) : Type 0 where
  pub between : View
  pub traces : TracesSome traced v between
  pub cards : TendsCards 0 between w
  pub passes : PassesAfter traced between w

-- the seat traced this many objects, and then tended to cards and brought back what was deferred
pub record MarksAndRecycles (traced : ℕ) (v w : View) : Type 0 where
  pub between : View
  pub traces : TracesSome traced v between
  pub tends : Tends 0 between w
  pub tended : View
  pub cards : TendsCards 0 between tended
  pub passes : PassesAfter traced between tended
  pub ran : Ran tended w
  pub brings : (n : ℕ) × Recycled v.shape n (events tended w)
