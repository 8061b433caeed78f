-- A turn of a helper that doesn't wait: at most so many objects, or so many stretches of blocks.
use Rattle.std.specs.Prelude.{ℕ, ◌≡◌, ◌≢◌, ◌≤◌, ◌+◌, ◌*◌, length, IsTrue}
use Rattle.mark_core.specs.Layout.{block_count}
use Rattle.mark_core.specs.Seats.{saw}
use Rattle.mark_core.specs.declared.kinds.Phase.TheVariants.{Drain, Sweep}
use Rattle.mark_core.specs.declared.kinds.Shape.{Shape}
use Rattle.mark_core.specs.declared.kinds.Step.TheVariants.{LeaveHelpStep}
use Rattle.gc_table.specs.Log.{Only, events}
use Rattle.gc_table.specs.Running.{Ran}
use Rattle.gc_table.specs.Seats.{Took}
use Rattle.gc_table.specs.declared.view.View.{View}
use Rattle.packet_pools.specs.Counts.{count_of}
use Rattle.packet_pools.specs.Seeking.{some_event}
use Rattle.tracer.specs.StepBounds.{trace_steps}
use Rattle.stop_world.specs.Gates.{Joins}
use Rattle.gc_cycle.specs.Events.{never}
use Rattle.gc_cycle.specs.Lower.{sweeps_next, traces_or_cleans}
use Rattle.gc_cycle.specs.Mutating.{GoesOut}
use Rattle.gc_cycle.specs.Sorts.{draws_block, joins, leaves, pops, sees_last_block}
use Rattle.gc_cycle.specs.Statistics.{leaves_numbers}
use Rattle.gc_cycle.specs.Turns.{DrainsFor}

-- this many objects were traced: fewer than asked for only if at some moment nothing was left in hand and there was no packet to read from
pub record TracesAtMost (most done : ℕ) (v w : View) : Type 0 where
  pub only : Only traces_or_cleans v w
  pub popped : count_of pops (events v w) ≡ done
  pub within : done ≤ most
  pub worked : DrainsFor most v w
  pub few : length (events v w) ≤ trace_steps done v.shape

-- this many stretches of blocks were swept: fewer than asked for only if no block was left
pub record SweepsAtMost (most done : ℕ) (v w : View) : Type 0 where
  pub only : Only sweeps_next v w
  pub drawn : count_of (draws_block (block_count v.shape)) (events v w) ≡ done
  pub within : done ≤ most
  pub end : done ≢ most → IsTrue (some_event (sees_last_block (block_count v.shape)) (events v w))
  pub few : length (events v w) ≤ most * (2 + 4 * v.shape.stretch)

-- the seat helped by the phase that it had read
pub record HelpsAtMost (objects stretches done : ℕ) (v w : View) : Type 0 where
  pub drain : IsTrue (saw v.state.phase_seen Drain) → TracesAtMost objects done v w
  pub sweep : IsTrue (saw v.state.phase_seen Sweep) → SweepsAtMost stretches done v w

-- the seat and its section are as they were, it is among the helpers still, and changed no number
pub record StaysAHelper (v w : View) : Type 0 where
  pub out : GoesOut v w
  pub own : w.own ≡ v.own
  pub numbers : Only leaves_numbers v w
  pub inside : IsTrue (never leaves (events v w))
  pub among : IsTrue (never joins (events v w))

-- the seat was let in among the helpers, helped, and left them
pub record TakesShortTurn (objects stretches done : ℕ) (v w : View) : Type 0 where
  pub joined : View
  pub helped : View
  pub enters : Ran v joined
  pub let_in : Joins v joined
  pub stays : StaysAHelper joined helped
  pub helps : HelpsAtMost objects stretches done joined helped
  pub leaves : Took LeaveHelpStep helped w

-- how many steps a helper takes at most to trace so many objects, or to sweep so many stretches
abbrev pub work_steps : ℕ → ℕ → Shape → ℕ
work_steps objects stretches sh = trace_steps objects sh + stretches * (2 + 4 * sh.stretch)

-- and with those of the turn: two to join and one to leave
abbrev pub turn_steps : ℕ → ℕ → Shape → ℕ
turn_steps objects stretches sh = 3 + work_steps objects stretches sh
