-- What a turn of a tracer that doesn't wait does, and what dismissing the tracers does.
use Rattle.std.specs.Prelude.{ℕ, ◌≡◌, ◌≢◌, ◌<◌, ◌+◌, ◌∷◌, [], false}
use Rattle.mark_core.specs.Numbers.{done_count}
use Rattle.mark_core.specs.declared.kinds.Phase.{Phase}
use Rattle.mark_core.specs.declared.kinds.Phase.TheVariants as phases
use Rattle.mark_core.specs.declared.kinds.Shape.{Shape}
use Rattle.mark_core.specs.declared.kinds.Step.TheVariants.{AddStat, LeaveStep, ReadStat, StorePosition}
use Rattle.gc_table.specs.Log.{event, events}
use Rattle.gc_table.specs.Seats.{Found, Took}
use Rattle.gc_table.specs.declared.view.View.{View}
use Rattle.stop_world.specs.Gates.{Enters, TurnsBack}
use Rattle.mutator_ops.specs.Few.{AtMost}
use Rattle.seat_turns.specs.StepBounds.{turn_steps}
use Rattle.seat_turns.specs.Coming.{GoesIn}
use Rattle.seat_turns.specs.Tracing.{VisitsWorld}
use Rattle.seat_turns.specs.declared.try_turns.TryTurn.{TryTurn}
use Rattle.seat_turns.specs.declared.try_turns.TryTurn.TheVariants as tries

-- the seat entered, read a phase in which there is nothing to mark and after which there may be, and left
abbrev pub FindsNoCycle : View → View → Type 0
FindsNoCycle v w = (p : Phase) × (p ≢ phases.Marking) × (p ≢ phases.Full) × VisitsWorld p v w

-- what a turn came to, if it found that number of dismissals
abbrev pub TriesTo : TryTurn → ℕ → View → View → Type 0
TriesTo tries.Dismissed n v w = (0 < n) × (w ≡ v)
TriesTo tries.Stopped n v w = (n ≡ 0) × TurnsBack v w
TriesTo tries.Marked n v w = (n ≡ 0) × VisitsWorld phases.Marking v w
TriesTo tries.Idle n v w = (n ≡ 0) × FindsNoCycle v w
TriesTo tries.Full n v w = (n ≡ 0) × VisitsWorld phases.Full v w

-- how many steps a turn takes at most that comes to this
abbrev pub tried_steps : TryTurn → Shape → ℕ
tried_steps tries.Dismissed sh = 1
tried_steps tries.Stopped sh = 3
tried_steps tries.Marked sh = turn_steps sh + 5
tried_steps tries.Idle sh = 4
tried_steps tries.Full sh = 4

-- a turn: it read whether the tracers were dismissed, and if they weren't, it tried to enter once, and marked and left if it was in
pub record TriesTurn (tried : TryTurn) (v w : View) : Type 0 where
  pub dismissals : ℕ
  pub looked : View
  pub looks : Found (ReadStat done_count) dismissals v looked
  pub takes : TriesTo tried dismissals looked w
  pub few : AtMost (tried_steps tried v.shape) v w

-- the seat entered while no stop was under way, raised the number of dismissals by one, and left
pub record Dismisses (v w : View) : Type 0 where
  pub entered : View
  pub enters : Enters v entered
  pub told : View
  pub tells : Took (AddStat done_count 1 false) entered told
  pub leaves : Took LeaveStep told w

-- the seat went in, as soon as no stop was under way, raised the number of dismissals by one, and left
pub record DismissesInside (v w : View) : Type 0 where
  pub entered : View
  pub enters : GoesIn v entered
  pub told : View
  pub tells : Took (AddStat done_count 1 false) entered told
  pub left : ℕ
  pub leaves : events told w ≡ event (StorePosition 0) 0 ∷ event LeaveStep left ∷ []
