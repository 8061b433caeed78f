-- What a helper does of a drain and of a sweep.
use Rattle.std.specs.Prelude.{ℕ, ◌≡◌, ◌≢◌, ◌≤◌, ◌&&◌, List, Bool, IsTrue}
use Rattle.mark_core.specs.Layout.{block_count}
use Rattle.mark_core.specs.declared.kinds.Shape.{Shape}
use Rattle.gc_table.specs.declared.view.Entry.{Entry}
use Rattle.gc_table.specs.declared.view.View.{View}
use Rattle.gc_table.specs.Log.{Only, events}
use Rattle.gc_table.specs.Running.{Ran}
use Rattle.packet_pools.specs.Counts.{count_of}
use Rattle.packet_pools.specs.Seeking.{some_event}
use Rattle.tracer.specs.declared.traced.Stopped.{Stopped}
use Rattle.tracer.specs.declared.traced.Stopped.TheVariants as stops
use Rattle.card_clean.specs.Leaving.{rescanned_in}
use Rattle.gc_cycle.specs.declared.counts.Helped.{Helped}
use Rattle.gc_cycle.specs.declared.counts.HelpEnd.{HelpEnd}
use Rattle.gc_cycle.specs.declared.counts.HelpEnd.TheVariants.{Quota, NoWork, NoPacket, Swept}
use Rattle.gc_cycle.specs.Events.{never}
use Rattle.gc_cycle.specs.Helping.{waited}
use Rattle.gc_cycle.specs.Lower.{sweeps_next, traces_or_cleans}
use Rattle.gc_cycle.specs.Moments.{Moment, at_some_moment, begins, finds_no_room, finds_no_work}
use Rattle.gc_cycle.specs.Sorts.{clears, draws_block, pops, sees_last_block}
use Rattle.gc_cycle.specs.Standing.{Helps}

-- why a helper ended, if its tracing stopped for this
abbrev pub end_as : Stopped → HelpEnd
end_as stops.Quota = Quota
end_as stops.NoWork = NoWork
end_as stops.NoPacket = NoPacket

-- from here on no card is cleared, and nothing is left in hand and there is no packet to read from
abbrev pub is_idle_now : Shape → Moment → List Entry → Bool
is_idle_now sh n later = never clears later && finds_no_work sh n later

-- why the tracing stopped: after the last card that was cleared nothing was left in hand and there was no packet to read from, or there was none with room
abbrev pub StopsFor : HelpEnd → ℕ → ℕ → View → View → Type 0
StopsFor Quota quota done v w = done ≡ quota
StopsFor NoWork quota done v w = (done ≢ quota) × IsTrue (at_some_moment v.shape (is_idle_now v.shape) (begins v) (events v w))
StopsFor NoPacket quota done v w = (done ≢ quota) × IsTrue (at_some_moment v.shape (finds_no_room v.shape) (begins v) (events v w))
StopsFor Swept quota done v w = ⊥

-- the helper traced and cleaned, and stays one
pub record DrainsOn (v w : View) : Type 0 where
  pub ran : Ran v w
  pub only : Only traces_or_cleans v w
  pub helps : Helps w
  pub phase : w.state.phase_seen ≡ v.state.phase_seen

-- the helper traced and cleaned so much, and why it stopped
pub record HelpsOn (quota : ℕ) (helped : Helped) (v w : View) : Type 0 where
  pub drained : DrainsOn v w
  pub traced : count_of pops (events v w) ≡ helped.traced
  pub rescanned : rescanned_in v (events v w) ≡ helped.rescanned
  pub swept : helped.swept ≡ 0
  pub most : helped.traced ≤ quota
  pub stops : StopsFor helped.ended quota helped.traced v w

-- if there was no work left, the count said that all packets are empty, or it was read as often as a helper waits
abbrev pub EndsAt : HelpEnd → View → View → Type 0
EndsAt NoWork v w = IsTrue (waited v.shape (events v w))
EndsAt ended v w = Unit {0}

-- what holds if a helper ended as its answer says
abbrev pub EndsAs : Helped → View → View → Type 0
EndsAs helped v w = EndsAt helped.ended v w

-- blocks were swept until none was left
pub record SweepsOn (helped : Helped) (v w : View) : Type 0 where
  pub ran : Ran v w
  pub only : Only sweeps_next v w
  pub helps : Helps w
  pub phase : w.state.phase_seen ≡ v.state.phase_seen
  pub traced : helped.traced ≡ 0
  pub rescanned : helped.rescanned ≡ 0
  pub swept : count_of (draws_block (block_count v.shape)) (events v w) ≡ helped.swept
  pub ended : helped.ended ≡ Swept
  pub end : IsTrue (some_event (sees_last_block (block_count v.shape)) (events v w))
