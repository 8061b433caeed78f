-- What a tracer did in one turn, and in a run of turns. A turn reads whether the tracers were dismissed; if they weren't, the seat enters, reads the
-- phase, traces if a cycle is marking, and leaves; or it finds a stop under way, leaves at once and helps until that has ended. A run is a list of turns,
-- each of which starts where the one before ended: all but the last were to be followed by another, and the last found the tracers dismissed, or the heap full.
-- Both are told of what the seat knew before and after: a view v, the log of which the turn's events were added to, and then w.
use Rattle.std.specs.Prelude.{ℕ, ◌≡◌, ◌<◌, ◌≤◌, ◌+◌, ◌⊎◌, List, [], ◌∷◌, false, IsTrue}
use Rattle.mark_core.specs.Numbers.{done_count, traced_count}
use Rattle.mark_core.specs.Seats.{phase_of}
use Rattle.mark_core.specs.declared.kinds.Phase.{Phase}
use Rattle.mark_core.specs.declared.kinds.Phase.TheVariants as phases
use Rattle.mark_core.specs.declared.kinds.Shape.{Shape}
use Rattle.mark_core.specs.declared.kinds.Step.TheVariants.{AddStat, LeaveStep, ReadPhase, ReadStat}
use Rattle.gc_table.specs.Log.{Only, events}
use Rattle.gc_table.specs.Running.{Ran}
use Rattle.gc_table.specs.Seats.{Answered, Found, Took}
use Rattle.gc_table.specs.declared.view.View.{View}
use Rattle.packet_pools.specs.Counts.{count_of}
use Rattle.packet_pools.specs.OnlyTraced.{traces_cells}
use Rattle.stop_world.specs.Gates.{Enters, TurnsBack}
use Rattle.card_clean.specs.Cleaning.{clears}
use Rattle.tracer.specs.Causes.{FoundNoWork}
use Rattle.tracer.specs.Deferral.{Defers}
use Rattle.tracer.specs.Tally.{pops}
use Rattle.gc_cycle.specs.Events.{never}
use Rattle.gc_cycle.specs.Polling.{saw_resumed}
use Rattle.gc_cycle.specs.Sorts.{draws, takes_deferred}
use Rattle.gc_cycle.specs.Turns.{HelpsInTurns}
use Rattle.mutator_ops.specs.Few.{AtMost}
use Rattle.seat_turns.specs.StepBounds.{turn_steps}
use Rattle.seat_turns.specs.Tending.{PassesAfter, tends_inside, turn_quota}
use Rattle.seat_turns.specs.declared.background.Turn.{Turn}
use Rattle.seat_turns.specs.declared.background.Turn.TheVariants as turns

-- the seat took steps of a tracer inside the world, and traced nothing. No packet was taken out of the deferred pool, and a card was cleaned only once for each
-- that was drawn
pub record Tended (v w : View) : Type 0 where
  pub ran : Ran v w
  pub only : Only tends_inside v w
  pub none : count_of pops (events v w) ≡ 0
  pub untaken : IsTrue (never takes_deferred (events v w))
  pub once : count_of clears (events v w) ≤ count_of draws (events v w)

-- the seat traced this many objects inside the world, by steps of tracing alone: as many as a turn traces; or fewer, and then at some moment nothing was left in hand
-- and no packet with a cell was found; no cell that it deferred was popped again (`Defers`)
pub record TracesForTurn (traced : ℕ) (v w : View) : Type 0 where
  pub ran : Ran v w
  pub only : Only traces_cells v w
  pub done : count_of pops (events v w) ≡ traced
  pub ends : (traced ≡ turn_quota) ⊎ ((traced < turn_quota) × FoundNoWork v w)
  pub defers : Defers v w

-- the seat traced, then passed cards if that was called for (`PassesAfter`), and told by one step how many objects it traced; what is deferred stays where it is
pub record HasMarked (v w : View) : Type 0 where
  pub count : ℕ
  pub traced : View
  pub traces : TracesForTurn count v traced
  pub tended : View
  pub tends : Tended traced tended
  pub passes : PassesAfter count traced tended
  pub tells : Took (AddStat traced_count count false) tended w

-- in Marking the seat traced, cleaned cards and told how many objects it traced (`HasMarked`); in any other phase it took no step
abbrev pub MarksIn : Phase → View → View → Type 0
MarksIn phases.Marking v w = HasMarked v w
MarksIn p v w = w ≡ v

-- and this many steps are taken at most: those of a turn, and one that tells
abbrev pub marking_steps : Phase → Shape → ℕ
marking_steps phases.Marking sh = turn_steps sh + 1
marking_steps p sh = 0

-- the seat took one step, which read this phase
abbrev pub Sees : Phase → View → View → Type 0
Sees p v w = Answered ReadPhase (λ n. p ≡ phase_of n) v w

-- inside the world the seat read this phase, marked if it is Marking, and left
pub record Rounds (p : Phase) (v w : View) : Type 0 where
  pub read : View
  pub sees : Sees p v read
  pub marked : View
  pub marks : MarksIn p read marked
  pub leaves : Took LeaveStep marked w

-- the seat entered while no stop was under way, read this phase, marked if it is Marking, and left: one step each beside those of marking
pub record VisitsWorld (p : Phase) (v w : View) : Type 0 where
  pub entered : View
  pub enters : Enters v entered
  pub rounds : Rounds p entered w
  pub few : AtMost (marking_steps p v.shape + 3) v w

-- the seat found a stop under way, left at once, and helped in turns until the stop had ended
pub record WaitsHelping (v w : View) : Type 0 where
  pub back : View
  pub turns_back : TurnsBack v back
  pub ran : Ran back w
  pub helps : HelpsInTurns back w
  pub resumed : IsTrue (saw_resumed (events back w))

-- what a turn came to by its first read: dismissed if a dismissal was counted; else full if the phase was Full; else going
abbrev pub TurnComesTo : Turn → ℕ → View → View → Type 0
TurnComesTo turns.Dismissed n v w = (0 < n) × (w ≡ v)
TurnComesTo turns.Full n v w = (n ≡ 0) × VisitsWorld phases.Full v w
TurnComesTo turns.Going n v w = (n ≡ 0) × (WaitsHelping v w ⊎ ((p : Phase) × (p ≡ phases.Full → ⊥) × VisitsWorld p v w))

-- one turn, and what it came to: the seat read how many dismissals there were; if none, it visited the world, or helped in a stop
pub record TracerTakesTurn (turn : Turn) (v w : View) : Type 0 where
  pub dismissals : ℕ
  pub looked : View
  pub looks : Found (ReadStat done_count) dismissals v looked
  pub takes : TurnComesTo turn dismissals looked w

-- a list of turns, each of which starts where the last one ended and was to be followed by another; the list has the views before them, latest first
abbrev pub TakesTurns : List View → View → View → Type 0
TakesTurns [] v w = w ≡ v
TakesTurns (u ∷ us) v w = TakesTurns us v u × TracerTakesTurn turns.Going u w

-- a run: turns that were each to be followed by another, and then the last one, which found the tracers dismissed or the heap full
pub record TracerRunsTo (turn : Turn) (v w : View) : Type 0 where
  pub moments : List View
  pub last : View
  pub before : TakesTurns moments v last
  pub ends : TracerTakesTurn turn last w
  pub over : turn ≡ turns.Going → ⊥
