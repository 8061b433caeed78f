-- What the calls of the crates below promise, in the words of this one.
use Rattle.std.specs.Prelude.{◌==◌, ℕ, ◌≡◌, ◌≢◌, Bool, true, IsTrue}
use Rattle.mark_core.specs.Numbers.{block_counter, card_counter}
use Rattle.mark_core.specs.declared.kinds.Step.{Step}
use Rattle.mark_core.specs.declared.kinds.Step.TheVariants.{NextOfCards, ReadStat}
use Rattle.gc_table.specs.declared.view.View.{View}
use Rattle.packet_pools.specs.Counts.{count_of}
use Rattle.packet_pools.specs.OnlyTraced.{rest_of, traces_cells}
use Rattle.sweeper.specs.Sweepers.{is_sweeping}
use Rattle.tracer.specs.declared.traced.Stopped.TheVariants.{Quota, NoWork, NoPacket}
use Rattle.tracer.specs.declared.traced.RootScan.{RootScan}
use Rattle.tracer.specs.declared.traced.RootScan.TheVariants as roots
use Rattle.tracer.specs.declared.traced.Traced.{Traced}
use Rattle.gc_table.specs.Log.{events, Only}
use Rattle.gc_table.specs.Running.{Ran}
use Rattle.gc_cycle.specs.Events.{never}
use Rattle.gc_cycle.specs.Moments.{at_some_moment, begins, finds_no_packet, finds_no_work}
use Rattle.gc_cycle.specs.Roots.{roots_scanned}
use Rattle.gc_cycle.specs.Sorts.{pops, reads_root}
use Rattle.gc_cycle.specs.Drained.{RootedAlone}
use Rattle.gc_cycle.specs.Standing.{is_at_rest}

-- a step of tracing, or of cleaning cards
abbrev pub traces_or_cleans : Step → Bool
traces_or_cleans NextOfCards = true
traces_or_cleans (ReadStat which) = which == card_counter
traces_or_cleans step = traces_cells step

-- a step of the sweep that reads no counter but that of blocks
abbrev pub sweeps_next : Step → Bool
sweeps_next (ReadStat which) = which == block_counter
sweeps_next step = is_sweeping step

-- the seat traced, with nothing in hand before and after, and nothing else of its record is another, but whether it read the counter of cards below its end
pub record HasTraced (v w : View) : Type 0 where
  pub ran : Ran v w
  pub only : Only traces_or_cleans v w
  pub rest : IsTrue (is_at_rest w.shape w.state)
  pub record_is : rest_of w.state ≡ record (rest_of v.state) { below_card = w.state.below_card }
  -- tracing sets mark bits and clears none, so roots that were seen to stay so while nobody else is there
  pub rooted : RootedAlone v → RootedAlone w

-- how a trace ended
pub record EndsTrace (quota : ℕ) (r : Traced) (v w : View) : Type 0 where
  pub done : count_of pops (events v w) ≡ r.done
  pub all : (r.stopped ≡ Quota → r.done ≡ quota) × (r.done ≡ quota → r.stopped ≡ Quota)
  pub no_work : r.stopped ≡ NoWork → IsTrue (at_some_moment v.shape (finds_no_work v.shape) (begins v) (events v w))
  -- never for want of a packet with room, since what finds none is left to its card
  pub packet : r.stopped ≢ NoPacket

-- each variable of the section was seen to; or no packet could be taken, and none was read
abbrev pub ScansRoots : ℕ → RootScan → View → View → Type 0
ScansRoots section (roots.Done marked) v w = IsTrue (roots_scanned section (events v w))
ScansRoots section roots.NoPacket v w = IsTrue (finds_no_packet v.shape (begins v) (events v w)) × IsTrue (never reads_root (events v w))
