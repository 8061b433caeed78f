-- A mutator's tracing increment: what it read, marked and traced for its cache.
use Rattle.std.specs.Prelude.{ℕ, ◌≡◌, ◌≢◌, ◌≤◌, ◌+◌, ◌==◌, ◌&&◌, ◌||◌, not, if◌then◌else◌, List, [], ◌∷◌, Bool, false, Some, IsTrue}
use Rattle.mark_core.specs.declared.kinds.Shape.{Shape}
use Rattle.mark_core.specs.declared.kinds.Step.{Step}
use Rattle.mark_core.specs.declared.kinds.Step.TheVariants.{AddStat, ReadStat}
use Rattle.gc_table.specs.Log.{events, Only}
use Rattle.gc_table.specs.PlainSteps.{own_section}
use Rattle.gc_table.specs.Running.{Ran}
use Rattle.gc_table.specs.declared.view.Entry.{Entry}
use Rattle.gc_table.specs.declared.view.View.{View}
use Rattle.packet_pools.specs.Counts.{count_of}
use Rattle.packet_pools.specs.Fields.{picked}
use Rattle.tracer.specs.declared.traced.Stopped.{Stopped}
use Rattle.tracer.specs.declared.traced.Stopped.TheVariants.{Quota, NoWork, NoPacket}
use Rattle.gc_cycle.specs.declared.counts.Paid.{Paid}
use Rattle.gc_cycle.specs.Events.{never, until_first}
use Rattle.gc_cycle.specs.Lower.{HasTraced, traces_or_cleans}
use Rattle.gc_cycle.specs.Moments.{Moment, at_some_moment, begins, finds_no_packet, finds_no_room, finds_no_work}
use Rattle.cache_refills.specs.Pace.Pacing.{looks_seen, owed_seen}
use Rattle.cache_refills.specs.Pace.Paying.{StopsAs}
use Rattle.gc_cycle.specs.Roots.{roots_scanned}
use Rattle.gc_cycle.specs.Sorts.{claims, draws, pops, raises_traced, reads_pace, reads_root}
use Rattle.mark_core.specs.Numbers.{done_count, traced_count}
use Rattle.gc_cycle.specs.Standing.{Mutates}
use Rattle.gc_cycle.specs.Statistics.{ChangesBy, tells}

-- a step of the increment: of tracing, or it reads a number that isn't that of the parts that were played, or it tells how much was traced
abbrev pub pays_cells : Step → Bool
pays_cells (AddStat which by down) = (which == traced_count) && not down
pays_cells (ReadStat which) = not (which == done_count)
pays_cells step = traces_or_cleans step

-- a number is read, but not how many parts were played
abbrev pub reads_number : Step → Bool
reads_number (ReadStat which) = not (which == done_count)
reads_number step = false

-- from here on no root is read, and nothing is left in hand and there is no packet to read from
abbrev pub is_out_of_work : Shape → Moment → List Entry → Bool
is_out_of_work sh n later = never reads_root later && finds_no_work sh n later

-- from here on no root is read, and at most one packet is in hand and there is none with room
abbrev pub is_out_of_room : Shape → Moment → List Entry → Bool
is_out_of_room sh n later = never reads_root later && finds_no_room sh n later

-- why it stopped to trace, after the last root was read: Quota exactly if it traced as many as it should
abbrev pub StopsTracing : Stopped → ℕ → ℕ → View → View → Type 0
StopsTracing Quota quota done v w = done ≡ quota
StopsTracing NoWork quota done v w = (done ≢ quota) × IsTrue (at_some_moment v.shape (is_out_of_work v.shape) (begins v) (events v w))
StopsTracing NoPacket quota done v w = (done ≢ quota) × IsTrue (at_some_moment v.shape (is_out_of_room v.shape) (begins v) (events v w))

-- why nothing was traced of such a quota, if no packet could be taken
abbrev pub stop_of : ℕ → Stopped
stop_of quota = if quota == 0 then Quota else NoPacket

-- this many objects were traced after `before`, and in all as many as `paid` says, whose quota is this; this many cards of the pass were drawn, at most
pub record TracesOn (quota before looks : ℕ) (paid : Paid) (v w : View) : Type 0 where
  pub traced : HasTraced v w
  pub quota_is : paid.quota ≡ quota
  pub most : paid.done ≤ quota
  pub done : before + count_of pops (events v w) ≡ paid.done
  pub looked : count_of draws (events v w) ≤ looks
  pub unread : IsTrue (never reads_pace (events v w))
  pub unrooted : IsTrue (never reads_root (events v w))
  pub stops : StopsTracing paid.stopped quota paid.done v w

-- the roots were seen to, or no packet could be taken; and a quota of objects was traced, and this many cards of the pass were drawn, at most
pub record MarksAndTraces (section quota looks : ℕ) (paid : Paid) (v w : View) : Type 0 where
  pub traced : HasTraced v w
  pub roots : IsTrue (roots_scanned section (events v w) || at_some_moment v.shape (finds_no_packet v.shape) (begins v) (events v w))
  pub quota_is : paid.quota ≡ quota
  pub most : paid.done ≤ quota
  pub done : count_of pops (events v w) ≡ paid.done
  pub looked : count_of draws (events v w) ≤ looks
  pub unread : IsTrue (never reads_pace (events v w))
  pub stops : StopsTracing paid.stopped quota paid.done v w

-- nothing was traced, and this many cards of the pass were drawn, at most
pub record TracesNone (looks : ℕ) (v w : View) : Type 0 where
  pub traced : HasTraced v w
  pub looked : count_of draws (events v w) ≤ looks
  pub unpopped : IsTrue (never pops (events v w))
  pub unread : IsTrue (never reads_pace (events v w))
  pub unrooted : IsTrue (never reads_root (events v w))

-- the increment for a cache of this many cells: the numbers were read and set what was owed, the roots were seen to or no packet could be taken, and this many objects
-- were traced, by which the number of traced objects was raised once; cards of the pass were drawn only if the cycle was far on by these numbers
pub record HasPaid (cells : ℕ) (paid : Paid) (v w : View) : Type 0 where
  pub ran : Ran v w
  pub only : Only pays_cells v w
  pub mutates : Mutates w
  pub cache : w.state.cache ≡ v.state.cache
  pub seen : w.state.phase_seen ≡ v.state.phase_seen
  pub roots : IsTrue (roots_scanned (own_section v.state) (events v w) || at_some_moment v.shape (λ n later. never claims later && finds_no_packet v.shape n later) (begins v) (events v w))
  pub owed : owed_seen cells (events v w) ≡ Some paid.quota
  pub early : owed_seen cells (until_first pops (events v w)) ≡ Some paid.quota
  pub most : paid.done ≤ paid.quota
  pub short : paid.quota ≤ 1024
  pub done : count_of pops (events v w) ≡ paid.done
  pub looked : count_of draws (events v w) ≤ looks_seen (events v w)
  pub stopped : StopsAs paid.stopped v.shape paid.quota paid.done (begins v) (events v w)
  pub told : picked raises_traced (events v w) ≡ paid.done ∷ []
  pub changed : ChangesBy (tells paid.done ∷ []) v w
