-- A mutator's collection, from the moment that it asked for a stop.
use Rattle.std.specs.Prelude.{◌≡◌, ◌&&◌, ◌||◌, not, [], ◌∷◌, Bool, IsTrue}
use Rattle.mark_core.specs.Numbers.{block_counter, card_counter}
use Rattle.mark_core.specs.Seats.{saw}
use Rattle.mark_core.specs.declared.kinds.Phase.TheVariants.{Drain, Marking}
use Rattle.mark_core.specs.declared.kinds.Step.TheVariants.{Reset}
use Rattle.gc_table.specs.Log.{events}
use Rattle.gc_table.specs.declared.view.View.{View}
use Rattle.garbage_laws.specs.Calls.{FreesBetween}
use Rattle.gc_cycle.specs.Courses.{TakesCourse, sets_numbers}
use Rattle.gc_cycle.specs.Cycles.{collects_exactly}
use Rattle.gc_cycle.specs.Moments.{begins}
use Rattle.gc_cycle.specs.Stepping.{AsksOnce, EndsCollection, FindsStopped}
use Rattle.gc_cycle.specs.declared.counts.Counts.{Counts}
use Rattle.mutator_ops.specs.Flushing.{Flushes}
use Rattle.seat_turns.specs.Coming.{GivesCache, StepsOut, WithOwn}
use Rattle.seat_steps.specs.Asked.{HasAsked}
use Rattle.seat_steps.specs.Causes.{ArrivesBy, FoundFull}
use Rattle.seat_steps.specs.declared.came.Came.{Came}

-- since the seat asked for its stop one cycle ended, and one only, by a step that freed what was garbage as that began; if it was to be exact, a drain began with no
-- cell marked, and then it ended
pub record CollectsSinceAsked (exact : Bool) (w : View) : Type 0 where
  pub start : View
  pub asked : HasAsked 1 start w
  pub frees : FreesBetween asked.asked w
  pub collects : IsTrue exact → IsTrue (collects_exactly w.shape (begins start) (events start w))

-- the seat stored the roots that lagged, gave up its cache, if it had one, stored its position, left, and asked for the flag: it is the seat's own if it was down
pub record AsksForStop (yours : Bool) (v w : View) : Type 0 where
  pub flushed : View
  pub flushes : Flushes v flushed
  pub retired : View
  pub gives : WithOwn GivesCache flushed retired
  pub asks : AsksOnce retired.state.made yours retired w

-- the world was found stopped and the phase read; then the drain began. A precise collection is to mark once more if a cycle was marking. It is exact if it is
-- precise, or no cycle was marking
pub record BeginsMarking (precise exact again : Bool) (v w : View) : Type 0 where
  pub stopped : View
  pub finds : FindsStopped v stopped
  pub course : TakesCourse (Drain ∷ []) (Reset card_counter ∷ Reset block_counter ∷ []) stopped w
  pub once_more : again ≡ precise && saw stopped.state.phase_seen Marking
  pub exactly : exact ≡ precise || not (saw stopped.state.phase_seen Marking)

-- the world was found stopped, and the phase read as Full; then the world went on, the position was stored, and the seat left. Whether its collection was to mark once
-- more, and was exact, is told as if the drain had begun
pub record FindsHeapFull (precise exact again : Bool) (v w : View) : Type 0 where
  pub stopped : View
  pub finds : FindsStopped v stopped
  pub resumed : View
  pub course : TakesCourse [] [] stopped resumed
  pub leaves : StepsOut resumed w
  pub full : FoundFull v w
  pub once_more : again ≡ precise && saw stopped.state.phase_seen Marking
  pub exactly : exact ≡ precise || not (saw stopped.state.phase_seen Marking)

-- the numbers for the next cycle were set, by how many cells are in use, were scanned again, and were freed, and the world went on: so one cycle ended since the
-- seat asked for its stop; if it was to be exact, its drain began with no cell marked; then the seat came to its turn, or left
pub record EndsBy (exact : Bool) (counts : Counts) (came : Came) (v w : View) : Type 0 where
  pub ended : View
  pub exactly : IsTrue exact → IsTrue v.state.exact
  pub ends : EndsCollection counts v ended
  pub course : TakesCourse [] (sets_numbers v.shape counts) v ended
  pub collected : ∥ CollectsSinceAsked exact ended ∥₁
  pub arrives : ArrivesBy came ended w
