-- How a mutator goes out of the world and in again, and stops it.
use Rattle.std.specs.Prelude.{Bool, true, false, not, ◌==◌, ◌≡◌, ◌⊎◌, ◌||◌, [], List, Some, None, IsTrue, IsFalse}
use Rattle.mark_core.specs.declared.kinds.Phase.{Phase}
use Rattle.mark_core.specs.declared.kinds.Phase.TheVariants.{Idle, Marking, Full}
use Rattle.mark_core.specs.declared.kinds.Step.{Step}
use Rattle.mark_core.specs.declared.kinds.Step.TheVariants.{ClaimBlock, DropStep, RaiseStep, ReadCat, ReadOwn, ReadStat, StorePhase, ReadSlot, ReadWeak}
use Rattle.gc_table.specs.declared.view.Entry.{Entry}
use Rattle.gc_table.specs.declared.view.View.{View}
use Rattle.packet_pools.specs.Seeking.{some_event}
use Rattle.gc_table.specs.Log.{events, Only}
use Rattle.gc_table.specs.Running.{Alone, Ran}
use Rattle.gc_table.specs.Seats.{Took}
use Rattle.gc_cycle.specs.Cycles.{never_fills}
use Rattle.gc_cycle.specs.Events.{each_after, never, since_or_all}
use Rattle.gc_cycle.specs.Sorts.{claims, comes_in, leaves, pops, pops_or_clears, raises_flag, resumes}
use Rattle.mark_core.specs.Numbers.{done_count}
use Rattle.gc_cycle.specs.Sparing.{fills_part}
use Rattle.gc_cycle.specs.Standing.{IsAlone, KeepsSeat, KeepsSection}

-- a step that changes nothing of what the seat's section has come to, but for its position and for what the ends of cycles say; it reads no season, and counts
-- no part that was played
abbrev pub keeps_section : Step → Bool
keeps_section (ReadOwn c i) = false
keeps_section (ReadCat v) = false
keeps_section (ReadSlot k) = false
keeps_section (ReadWeak c) = false
keeps_section step = fills_part step

-- the step keeps the section as `keeps_section` says, and neither claims a block, nor raises the flag, nor moves the phase,
-- nor reads how many parts were played
abbrev pub stays_calm : Step → Bool
stays_calm (ClaimBlock b) = false
stays_calm RaiseStep = false
stays_calm (StorePhase to) = false
stays_calm (ReadStat which) = not (which == done_count)
stays_calm step = keeps_section step

-- the step is calm, or it raises the flag
abbrev pub tries_stopping : Step → Bool
tries_stopping RaiseStep = true
tries_stopping step = stays_calm step

-- the step neither tries to raise the flag, nor resumes the world, nor moves the phase to Idle
abbrev pub spares_world : Step → Bool
spares_world RaiseStep = false
spares_world DropStep = false
spares_world (StorePhase Idle) = false
spares_world step = true

-- such a step that claims no block
abbrev pub spares_blocks : Step → Bool
spares_blocks (ClaimBlock b) = false
spares_blocks step = spares_world step

-- the seat has raised its flag since it resumed the world last: it holds a stop
abbrev pub holds_stop : List Entry → Bool
holds_stop es = some_event raises_flag (since_or_all resumes es)

-- the seat has left the running world since it came in last, and waits in a stop; or it holds one
abbrev pub is_in_stop : List Entry → Bool
is_in_stop es = some_event leaves (since_or_all comes_in es) || holds_stop es

-- cells were popped only in such stops
abbrev pub pops_in_stops : List Entry → Bool
pops_in_stops es = each_after is_in_stop pops [] es

-- cells were popped, and cards cleared, only in such stops
abbrev pub works_in_stops : List Entry → Bool
works_in_stops es = each_after is_in_stop pops_or_clears [] es

-- the seat and its section are as they were, and the heap wasn't said to be full
pub record GoesOut (v w : View) : Type 0 where
  pub ran : Ran v w
  pub only : Only stays_calm v w
  pub seat : KeepsSeat v w
  pub section : KeepsSection v w
  pub not_full : IsTrue (never_fills (events v w))
  pub calm : IsTrue (never raises_flag (events v w))
  pub unclaimed : IsTrue (never claims (events v w))

-- the seat entered: it and its section are as they were, it has no cache, and the heap was not said to be full
pub record HasEntered (v w : View) : Type 0 where
  pub out : GoesOut v w
  pub cache : w.state.cache ≡ None
  pub position : w.own.position ≡ v.own.position

-- the seat tried to stop the world, and may have raised the flag; it and its section are as they were, and the heap was not said to be full
pub record TriesToStop (v w : View) : Type 0 where
  pub ran : Ran v w
  pub only : Only tries_stopping v w
  pub seat : KeepsSeat v w
  pub section : KeepsSection v w
  pub not_full : IsTrue (never_fills (events v w))
  pub unclaimed : IsTrue (never claims (events v w))
  pub cache : w.state.cache ≡ None

-- the world is stopped by this seat, which is alone in it, in a phase that it has read
pub record StopsWorld (v w : View) : Type 0 where
  pub rest : IsAlone w
  pub phase : Phase
  pub alone : Alone phase w
  pub seen : w.state.phase_seen ≡ Some phase
  pub left : (phase ≡ Idle) ⊎ (phase ≡ Marking) ⊎ (phase ≡ Full)
  pub unhelping : IsFalse w.state.helping
  pub raised : IsTrue (some_event raises_flag (events v w))

-- the seat tried once to raise the flag; before and after that it neither tried, nor resumed the world, nor ended a cycle
pub record AsksOnce (v w : View) : Type 0 where
  pub asking : View
  pub asked : View
  pub leaves : Ran v asking × Only spares_blocks v asking
  pub asks : Took RaiseStep asking asked
  pub waits : Ran asked w × Only spares_blocks asked w
