-- How a mutator collects in a stop of its own.
use Rattle.std.specs.Prelude.{ℕ, ◌≡◌, ◌≤◌, ◌⊎◌, not, Bool, Some, None, is_some, IsTrue, IsFalse}
use Rattle.mark_core.specs.Seats.{saw}
use Rattle.mark_core.specs.declared.kinds.Phase.{Phase}
use Rattle.mark_core.specs.declared.kinds.Phase.TheVariants.{Idle, Marking, Full}
use Rattle.mark_core.specs.declared.kinds.Step.{Step}
use Rattle.mark_core.specs.declared.kinds.Step.TheVariants.{StorePhase}
use Rattle.gc_table.specs.declared.view.View.{View}
use Rattle.gc_table.specs.Log.{Only, events}
use Rattle.gc_table.specs.Rule.{KnowsFull}
use Rattle.gc_table.specs.Running.{Alone, Ran}
use Rattle.packet_pools.specs.Counts.{count_of}
use Rattle.gc_cycle.specs.Cycles.{collects}
use Rattle.gc_cycle.specs.Ending.{InEach, IsExact}
use Rattle.gc_cycle.specs.Events.{never}
use Rattle.gc_cycle.specs.Finishing.{IsAloneIn}
use Rattle.gc_cycle.specs.Mutating.{keeps_section, tries_stopping}
use Rattle.gc_cycle.specs.Polling.{saw_full}
use Rattle.gc_cycle.specs.Sorts.{ends_cycle, raises_flag}
use Rattle.gc_cycle.specs.Standing.{IsAlone, Mutates}

-- a step that changes nothing of what the section has come to, but for its position and for what the ends of cycles say, and doesn't say that the heap is full
abbrev pub spares_section : Step → Bool
spares_section (StorePhase to) = not (saw (Some to) Full)
spares_section step = keeps_section step

-- the seat stopped the world and is alone in it, with nothing in hand, in the phase that the mutators left
pub record HoldsWorld (v : View) : Type 0 where
  pub rest : IsAlone v
  pub section : IsTrue (is_some v.state.section)
  pub unhelping : IsFalse v.state.helping
  pub phase : Phase
  pub alone : Alone phase v
  pub seen : v.state.phase_seen ≡ Some phase
  pub left : (phase ≡ Idle) ⊎ (phase ≡ Marking) ⊎ (phase ≡ Full)

-- another seat's stop came first: the seat stored its position, waited for the end of that stop, and is a mutator again
pub record TriesAgain (done : ℕ) (v w : View) : Type 0 where
  pub mutates : Mutates w
  pub cache : w.state.cache ≡ None
  pub position : w.own.position ≡ done
  pub only : Only tries_stopping v w
  pub calm : count_of raises_flag (events v w) ≡ 0

-- in a stop a precise collection was made: at its end, while the seat was still alone, exactly the reachable cells were in use
pub record EndsExactly (v w : View) : Type 0 where
  pub ended : View
  pub before : Ran v ended
  pub later : Ran ended w
  pub stopped : IsAloneIn Idle ended
  pub collects : IsTrue (collects (events v ended))
  pub exact : InEach IsExact ended

-- a precise collection was made while the heap wasn't full, or it is full
abbrev pub HasCollected : View → View → Type 0
HasCollected v w = (IsTrue (collects (events v w)) × IsFalse (saw_full (events v w)) × (KnowsFull v → ⊥) × EndsExactly v w) ⊎ KnowsFull w

-- the stop ended after that, and the position stayed
pub record EndsStop (v w : View) : Type 0 where
  pub ran : Ran v w
  pub only : Only spares_section v w
  pub calm : IsTrue (never raises_flag (events v w))
  pub cycles : count_of ends_cycle (events v w) ≤ 1
  pub cache : w.state.cache ≡ None
  pub position : w.own.position ≡ v.own.position
  pub collected : HasCollected v w
