-- The parts of a stop that ends a cycle.
use Rattle.std.specs.Prelude.{◌⊎◌, ℕ, ◌≡◌, ◌<◌, ◌+◌, ◌++◌, zero, suc, [], ◌∷◌, List, Bool, true, false, unwrap_or, Some, IsTrue}
use Rattle.std.specs.Int.Count.{ones}
use Rattle.mark_core.specs.Numbers.{card_counter}
use Rattle.mark_core.specs.Places.{alloc_at, the_phase}
use Rattle.mark_core.specs.Seats.{phase_number, saw}
use Rattle.mark_core.specs.Steps.WorldSteps.{has_nothing}
use Rattle.mark_core.specs.declared.kinds.Phase.{Phase}
use Rattle.mark_core.specs.declared.kinds.Phase.TheVariants.{Drain, Sweep, Idle}
use Rattle.mark_core.specs.declared.kinds.Step.{Step}
use Rattle.mark_core.specs.declared.kinds.Step.TheVariants.{DropStep, JoinHelpStep, LeaveHelpStep, Pop, RaiseStep, ReadField, ReadPhase, Reset, StoreAlloc, StorePhase, StorePosition}
use Rattle.gc_table.specs.Notes.{look}
use Rattle.gc_table.specs.declared.view.Entry.{Entry}
use Rattle.gc_table.specs.declared.view.View.{View}
use Rattle.packet_pools.specs.Counts.{count_of}
use Rattle.packet_pools.specs.Seeking.{some_event}
use Rattle.gc_table.specs.Log.{all_steps, events, event, Only}
use Rattle.gc_table.specs.Running.{Alone, Known, Ran}
use Rattle.gc_cycle.specs.Cycles.{ends_exactly, opens_in_sweep}
use Rattle.gc_cycle.specs.Events.{followed_by, never}
use Rattle.gc_cycle.specs.Moments.{at_some_moment, begins}
use Rattle.gc_cycle.specs.Sorts.{begins_exactly, ends_cycle, moves_to, opens_help, tells_full, tries_marking}
use Rattle.gc_cycle.specs.Mutating.{keeps_section}
use Rattle.gc_cycle.specs.Standing.{IsAlone}

-- a step that neither moves nor reads the phase, and neither begins nor ends a stop, of no mutator and of no helper; it stores no position
abbrev pub stays : Step → Bool
stays (StorePhase to) = false
stays ReadPhase = false
stays RaiseStep = false
stays DropStep = false
stays JoinHelpStep = false
stays LeaveHelpStep = false
stays (StorePosition done) = false
stays step = keeps_section step

-- a step that stays, or a move of the phase, or a look at it
abbrev pub finishes : Step → Bool
finishes (StorePhase to) = true
finishes ReadPhase = true
finishes step = stays step

-- a step that stays in one phase: cells are popped, and fields scanned, only in a drain, and cells are freed only in a sweep
abbrev pub stays_in : Phase → Step → Bool
stays_in p (Pop packet) = saw (Some p) Drain
stays_in p (ReadField c i) = saw (Some p) Drain
stays_in p StoreAlloc = saw (Some p) Sweep
stays_in p step = stays step

-- the seat is alone in the stop, in this phase, with nothing in hand
pub record IsAloneIn (p : Phase) (v : View) : Type 0 where
  pub rest : IsAlone v
  pub alone : Alone p v

-- a part of the stop in this phase: it ran, neither moved the phase nor ended the stop, and the seat is alone again
pub record IsPart (p : Phase) (v w : View) : Type 0 where
  pub ran : Ran v w
  pub only : Only (stays_in p) v w
  pub alone : IsAloneIn p w

-- the seat has opened the stop to helpers, in this phase, with nothing in hand
pub record IsOpen (p : Phase) (v : View) : Type 0 where
  pub knows : IsTrue v.state.knows
  pub opened : IsTrue v.state.opened
  pub phase : Known v the_phase (phase_number p)
  pub rest : IsTrue (has_nothing v.shape v.state)

-- the seat stopped the world and drains, alone or beside helpers
abbrev pub DrainsInStop : View → Type 0
DrainsInStop v = IsAloneIn Drain v ⊎ IsOpen Drain v

-- a part of the stop while it is open in this phase
pub record IsOpenPart (p : Phase) (v w : View) : Type 0 where
  pub ran : Ran v w
  pub only : Only (stays_in p) v w
  pub still : IsOpen p w

-- one move of the phase, from the first to the second
pub record IsMove (from to : Phase) (v w : View) : Type 0 where
  pub ran : Ran v w
  pub found : ℕ
  pub from_is : found ≡ phase_number from
  pub events_are : events v w ≡ event (StorePhase to) found ∷ []
  pub alone : IsAloneIn to w

-- the allocation words of the first n blocks are noted
abbrev pub AllocsNoted : ℕ → View → Type 0
AllocsNoted n v = (b : ℕ) → b < n → (word : ℕ) × Known v (alloc_at b) word

-- how many bits they have
abbrev pub ones_noted : ℕ → View → ℕ
ones_noted zero v = 0
ones_noted (suc n) v = ones_noted n v + ones (unwrap_or (look (alloc_at n) v.known) 0)

-- from a drain that has begun to the end of the cycle: help was let in for both parts, and the phase went to Sweep and to Idle, and nowhere else
pub record Completes (v w : View) : Type 0 where
  pub ran : Ran v w
  pub only : Only finishes v w
  pub alone : IsAloneIn Idle w
  pub no_drain : IsTrue (never (moves_to Drain) (events v w))
  pub drain_help : IsTrue (followed_by opens_help (moves_to Sweep) (events v w))
  pub sweep_help : IsTrue (opens_in_sweep (events v w))
  pub ends : IsTrue (some_event ends_cycle (events v w))
  pub once : count_of ends_cycle (events v w) ≡ 1
  pub not_full : IsTrue (never tells_full (events v w))
  pub unbegun : IsTrue (never tries_marking (events v w))
  -- if it began exactly, it ended so
  pub exactly : IsTrue v.state.exact → IsTrue (at_some_moment v.shape ends_exactly (begins v) (events v w)) × IsTrue w.state.exact

-- a drain began in which no cell is marked, and no later move was made
pub record BeginsExactly (v w : View) : Type 0 where
  pub ran : Ran v w
  pub only : Only finishes v w
  pub alone : IsAloneIn Drain w
  pub exact : IsTrue w.state.exact
  pub before : List Entry
  pub rest : List Entry
  pub move : Entry
  pub all : events v w ≡ before ++ (move ∷ rest)
  pub begins : IsTrue (begins_exactly move.step move.found)
  pub stayed : IsTrue (all_steps stays rest)
  pub fresh : rest ≡ event (Reset card_counter) 0 ∷ []
  pub not_full : IsTrue (never tells_full before)
  pub unbegun : IsTrue (never tries_marking before)
  pub unended : IsTrue (never ends_cycle before)

-- the greatest number that is counted
abbrev pub most : ℕ
most = 4294967295
