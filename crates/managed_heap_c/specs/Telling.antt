-- What an export answers that is asked how far a collection is, or how much a mutator or a tracer has traced.
use Rattle.std.specs.Prelude.{ℕ, ◌≡◌, ◌⊎◌, Option, Some, None, IsFalse, IsTrue}
use Rattle.mark_core.specs.Seats.{saw}
use Rattle.mark_core.specs.declared.kinds.Phase.TheVariants.{Marking}
use Rattle.gc_table.specs.Seats.{state_of}
use Rattle.seat_turns.specs.declared.background.Tracer.{Tracer}
use Rattle.seat_steps.specs.declared.came.Came.{Came}
use Rattle.seat_steps.specs.declared.came.Came.TheVariants as cames
use Rattle.seat_steps.specs.declared.stepper.Stage.{Stage}
use Rattle.seat_steps.specs.declared.stepper.Stage.TheVariants as stages
use Rattle.seat_steps.specs.declared.stepper.Stepper.{Stepper}
use Rattle.managed_heap_c.specs.Asking.{number_of_answer}
use Rattle.managed_heap_c.specs.Tracers.{IsTracerInUse}
use Rattle.managed_heap_c.specs.declared.course.CCourse.{CCourse}
use Rattle.managed_heap_c.specs.declared.hands.Hand.{Hand}
use Rattle.managed_heap_c.specs.declared.hands.TracerHand.{TracerHand}
use Rattle.managed_heap_c.specs.declared.work.CWork.{CWork}

-- the number of where a mutator stands
abbrev pub number_of_stage : Stage → ℕ
number_of_stage stages.Outside = 0
number_of_stage stages.Inside = 1
number_of_stage stages.Stopping = 2
number_of_stage stages.Rooting = 3
number_of_stage stages.Draining = 4
number_of_stage stages.Looking = 5
number_of_stage stages.Cleaning = 6
number_of_stage stages.Clearing = 7
number_of_stage stages.Sweeping = 8
number_of_stage stages.Counting = 9
number_of_stage stages.Ending = 10
number_of_stage stages.Parting = 11
number_of_stage stages.Sharing = 12
number_of_stage stages.Passing = 13
number_of_stage stages.Emptying = 14
number_of_stage stages.Closing = 15

-- how far the mutator's collection is: at the last stage the next step ends the cycle by these counts, as Finishes says
abbrev pub course_of : Stepper → CCourse
course_of x = record {
  stage = number_of_stage x.stage;
  again = number_of_answer x.again;
  marking = number_of_answer (saw (state_of x.seat).phase_seen Marking);
  freed = x.freed;
  kept = x.counted;
  rescanned = x.rescanned;
  exact = number_of_answer x.exact;
}

-- it was written how far the mutator's collection is; the mutator is as it was
abbrev pub TellsCourse : CCourse → Came → Stepper → Stepper → Type 0
TellsCourse after came x y = (came ≡ cames.Done) × (y ≡ x) × (after ≡ course_of x)

-- nothing is written by a handle that another call uses, or that was given back
abbrev pub SparesCourse : Hand → CCourse → CCourse → Type 0
SparesCourse h before after = (IsTrue h.busy → after ≡ before) × (h.stepper ≡ None → after ≡ before)

-- how much the mutator has traced to pay for its caches (PaysMaking and PaysRefill), and what its collection has traced and cleaned (CountsTraced and
-- CountsCleaned)
abbrev pub work_of : Stepper → CWork
work_of x = record { paid = x.paid; traced = x.traced; cleaned = x.cleaned }

-- it was written how much the mutator has traced and cleaned; the mutator is as it was
abbrev pub TellsWork : CWork → Came → Stepper → Stepper → Type 0
TellsWork after came x y = (came ≡ cames.Done) × (y ≡ x) × (after ≡ work_of x)

-- nothing is written by a handle that another call uses, or that was given back
abbrev pub SparesWork : Hand → CWork → CWork → Type 0
SparesWork h before after = (IsTrue h.busy → after ≡ before) × (h.stepper ≡ None → after ≡ before)

-- the handle was given back and nothing is written, or it was written how many objects the tracer has traced beside the mutators; the tracer is as it was
abbrev pub TellsTraced : ℕ → Option Tracer → Option Tracer → ℕ → ℕ → Type 0
TellsTraced n None y before after = (n ≡ 11) × (y ≡ None) × (after ≡ before)
TellsTraced n (Some t) y before after = (n ≡ 0) × (y ≡ Some t) × (after ≡ t.traced)

-- the answer by a handle that no other call uses, and none does afterwards; or another uses it, nothing changed and nothing is written
abbrev pub TellsTracedOnce : ℕ → TracerHand → TracerHand → ℕ → ℕ → Type 0
TellsTracedOnce n x y before after =
    (IsFalse x.busy × IsFalse y.busy × TellsTraced n x.tracer y.tracer before after) ⊎ (IsTracerInUse n x y × (after ≡ before))
