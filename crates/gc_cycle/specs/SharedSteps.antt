-- A collection in steps whose stop is open to helpers: where the seat stands between its steps, and what it may do meanwhile.
use Rattle.std.specs.Prelude.{◌≡◌, ◌≤◌, ◌&&◌, ◌⊎◌, IsTrue, IsFalse}
use Rattle.mark_core.specs.Layout.{block_count}
use Rattle.mark_core.specs.Places.{the_phase}
use Rattle.mark_core.specs.Seats.{cleaning_left, is_the, phase_number, saw}
use Rattle.mark_core.specs.Steps.WorldSteps.{has_nothing}
use Rattle.mark_core.specs.declared.kinds.Phase.{Phase}
use Rattle.mark_core.specs.declared.kinds.Phase.TheVariants.{Sweep}
use Rattle.gc_table.specs.Log.{Only}
use Rattle.gc_table.specs.Notes.{look}
use Rattle.gc_table.specs.Running.{Known, Ran}
use Rattle.gc_table.specs.declared.view.View.{View}
use Rattle.sweeper.specs.Freeing.{block_floor}
use Rattle.gc_cycle.specs.Finishing.{IsOpen}
use Rattle.gc_cycle.specs.Lower.{sweeps_next}
use Rattle.gc_cycle.specs.Stepping.{IsOwner}

-- a mutator's seat has opened its stop to helpers, in this phase, with nothing in hand
pub record IsShared (p : Phase) (v : View) : Type 0 where
  pub owner : IsOwner v
  pub opened : IsOpen p v

-- it has let no more helpers in since, and those that were let in may still work
pub record IsClosing (p : Phase) (v : View) : Type 0 where
  pub owner : IsOwner v
  pub knows : IsTrue v.state.knows
  pub shut : IsFalse v.state.opened
  pub phase : Known v the_phase (phase_number p)
  pub rest : IsTrue (has_nothing v.shape v.state)

-- so in a sweep, and it has noted that every block was handed out
pub record HasSweptShared (v : View) : Type 0 where
  pub closing : IsClosing Sweep v
  pub end : block_count v.shape ≤ block_floor v

-- the seat may take a block to sweep: it knows that the world is stopped in a sweep, or it is a helper in one
abbrev pub MaySweep : View → Type 0
MaySweep v = IsTrue (v.state.knows && is_the (look the_phase v.known) (phase_number Sweep)) ⊎ IsTrue (v.state.admitted && saw v.state.phase_seen Sweep)

-- blocks were swept, with none left in hand, and nothing else of the seat's record is another
pub record SweepsSome (v w : View) : Type 0 where
  pub ran : Ran v w
  pub only : Only sweeps_next v w
  pub record_is : w.state ≡ record v.state { below_block = w.state.below_block; cleaning = w.state.cleaning }
  pub left : IsFalse (cleaning_left v.state.cleaning) → IsFalse (cleaning_left w.state.cleaning)
