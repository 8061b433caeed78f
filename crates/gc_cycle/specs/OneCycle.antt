-- What `finish_cycle` and `precise` do alike: in a stop of the seat one cycle ends.
use Rattle.std.specs.Prelude.{◌≡◌, min, IsTrue, IsFalse}
use Rattle.mark_core.specs.declared.kinds.Phase.TheVariants.{Idle}
use Rattle.gc_table.specs.Log.{Only, events}
use Rattle.gc_table.specs.Running.{Ran}
use Rattle.gc_table.specs.declared.view.View.{View}
use Rattle.packet_pools.specs.Counts.{count_of}
use Rattle.sweeper.specs.Freeing.{freed_in}
use Rattle.card_clean.specs.Leaving.{rescanned_in}
use Rattle.gc_cycle.specs.Cycles.{lets_help, never_fills}
use Rattle.gc_cycle.specs.DrainRounds.{HasDrained}
use Rattle.gc_cycle.specs.Ending.{InEach, IsCycleEnd}
use Rattle.gc_cycle.specs.Events.{never}
use Rattle.gc_cycle.specs.Finishing.{IsAloneIn, finishes, most}
use Rattle.gc_cycle.specs.Polling.{saw_full}
use Rattle.gc_cycle.specs.Sorts.{ends_cycle, raises_flag, tries_marking}
use Rattle.gc_cycle.specs.Sparing.{spares_part}
use Rattle.gc_cycle.specs.Standing.{IsAlone, KeepsSeat, KeepsSection}
use Rattle.gc_cycle.specs.declared.counts.Counts.{Counts}

-- one cycle ended, with these counts: alone in a stop the seat drained and swept, let helpers in, and set the numbers to those of this cycle
pub record EndsCycle (counts : Counts) (v w : View) : Type 0 where
  -- what the seat is before and afterwards
  pub alone : IsAlone v
  pub idle : IsAloneIn Idle w
  pub keeps : KeepsSeat v w × KeepsSection v w
  pub position : w.own.position ≡ v.own.position
  -- what it did
  pub ran : Ran v w
  pub only : Only finishes v w
  pub drains : HasDrained v w
  pub help : IsTrue (lets_help (events v w))
  pub once : count_of ends_cycle (events v w) ≡ 1
  -- what it never did
  pub spares : Only spares_part v w
  pub not_full : IsTrue (never_fills (events v w))
  pub unbegun : IsTrue (never tries_marking (events v w))
  pub calm : IsTrue (never raises_flag (events v w))
  pub going : IsFalse (saw_full (events v w))
  -- what the cells are
  pub end : InEach (IsCycleEnd counts) w
  -- the counts
  pub rescanned : counts.rescanned ≡ min (rescanned_in v (events v w)) most
  pub freed : counts.freed ≡ freed_in v (events v w)
