-- A mutator in steps, and back.
use Rattle.std.specs.Prelude.{◌≡◌, ◌+◌, ◌⊎◌, IsFalse, IsTrue}
use Rattle.std.specs.Arc.{arc_value}
use Rattle.gc_table.specs.Seats.{Across, view_of}
use Rattle.mutator_ops.specs.Few.{AtMost}
use Rattle.seat_turns.specs.Sharing.{LeavesHeap}
use Rattle.seat_turns.specs.Standing.{flush_steps}
use Rattle.seat_steps.specs.Handing.{IsNewStepper, StopsFrom}
use Rattle.seat_steps.specs.Stepping.{is_collecting, shares}
use Rattle.seat_steps.specs.declared.stepper.Stage.TheVariants as stages
use Rattle.seat_steps.specs.declared.stepper.Stepper.{Stepper}
use Rattle.shared_heap.specs.Calls.{LeavesFrom}
use Rattle.shared_heap.specs.declared.mutator.Place.TheVariants.{Outside}
use Rattle.shared_heap.specs.declared.mutator.SharedMutator.{SharedMutator}

-- the stepper is this mutator, outside the world, and new; the seat gave up its cache and left if the mutator was inside, and did nothing if not
pub record IsInSteps (m : SharedMutator) (s : Stepper) : Type 0 where
  pub outside : s.stage ≡ stages.Outside
  pub rests : m.place ≡ Outside → s.seat ≡ m.seat
  pub left : LeavesFrom m.place m.seat s.seat
  pub leaves : Across LeavesHeap m.seat s.seat
  pub world : arc_value s.heap ≡ arc_value m.heap
  pub name_is : s.name ≡ m.name
  pub shared : IsTrue (shares s)
  pub stops : IsFalse s.in_stops
  pub new : IsNewStepper s

-- the mutator is this stepper, outside the world; no step was taken that a plain heap sees. A stepper that was inside stored the roots that
-- lagged, gave up its cache and left, by five steps at most beside those roots; one that was outside did nothing
pub record IsOfSteps (s : Stepper) (m : SharedMutator) : Type 0 where
  pub outside : m.place ≡ Outside
  pub few : Across (AtMost (flush_steps (view_of s.seat) + 5)) s.seat m.seat
  pub stopped : Across (StopsFrom s.stage) s.seat m.seat
  pub leaves : Across LeavesHeap s.seat m.seat
  pub world : arc_value m.heap ≡ arc_value s.heap
  pub name_is : m.name ≡ s.name

-- the stepper collects, or its world doesn't share objects; it is as it was
abbrev pub IsHandedBack : Stepper → Stepper → Type 0
IsHandedBack s t = (IsTrue (is_collecting s.stage) ⊎ IsFalse (shares s)) × (t ≡ s)
