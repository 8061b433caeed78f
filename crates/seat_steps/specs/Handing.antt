-- How a stepper is made of a resting seat, and comes apart into one.
use Rattle.std.specs.Prelude.{◌≡◌, ◌+◌, IsFalse, IsTrue}
use Rattle.gc_table.specs.Seats.{Across}
use Rattle.gc_table.specs.declared.view.View.{View}
use Rattle.mutator_ops.specs.Few.{AtMost}
use Rattle.seat_turns.specs.Coming.{FlushesFirst, LeavesTurn}
use Rattle.seat_turns.specs.Sharing.{LeavesHeap}
use Rattle.seat_turns.specs.Standing.{flush_steps, plain_of}
use Rattle.seat_steps.specs.Stepping.{heap_of_stepper, is_collecting}
use Rattle.seat_steps.specs.Steps.{CountsNone}
use Rattle.seat_steps.specs.declared.resting.RestingSeat.{RestingSeat}
use Rattle.seat_steps.specs.declared.stepper.Stage.{Stage}
use Rattle.seat_steps.specs.declared.stepper.Stage.TheVariants.{Inside, Outside}
use Rattle.seat_steps.specs.declared.stepper.Stepper.{Stepper}

-- the stepper has paid nothing, its search for a free cell begins at the first block and has seen none, and it tells of no collection: of none that was to be
-- precise, or left no garbage, or was to mark once more, and of nothing that one has counted
pub record IsNewStepper (s : Stepper) : Type 0 where
  pub unpaid : s.paid ≡ 0
  pub first : s.block ≡ 0
  pub unseen : s.seen ≡ 0
  pub aimless : IsFalse s.precise × IsFalse s.exact × IsFalse s.again
  pub uncounted : CountsNone s × (s.freed ≡ 0) × (s.counted ≡ 0)

-- the stepper is this seat's, outside the world; it has paid nothing, and its search for a free cell has seen no block
pub record IsSteppedBy (r : RestingSeat) (s : Stepper) : Type 0 where
  pub outside : s.stage ≡ Outside
  pub seat : s.seat ≡ r.seat
  pub heap : s.heap ≡ r.heap
  pub name_is : s.name ≡ r.name
  pub stops : s.in_stops ≡ r.in_stops
  pub new : IsNewStepper s

-- what letting go of it did, by where the stepper was: nothing; or the roots that lagged were stored, the cache was given up, the position
-- stored, and the world left, by 5 steps at most beside those roots
abbrev pub StopsFrom : Stage → View → View → Type 0
StopsFrom Outside v w = w ≡ v
StopsFrom Inside v w = FlushesFirst LeavesTurn v w × AtMost (flush_steps v + 5) v w
StopsFrom stage v w = ⊥

-- the seat is this stepper's, which has left: neither the objects nor the variables changed
pub record HasStopped (s : Stepper) (r : RestingSeat) : Type 0 where
  pub objects : plain_of r.seat ≡ heap_of_stepper s
  pub leaves : Across LeavesHeap s.seat r.seat
  pub stopped : Across (StopsFrom s.stage) s.seat r.seat
  pub heap : r.heap ≡ s.heap
  pub name_is : r.name ≡ s.name
  pub stops : r.in_stops ≡ s.in_stops

-- the stepper collects, and is as it was
abbrev pub IsHandedBack : Stepper → Stepper → Type 0
IsHandedBack s t = IsTrue (is_collecting s.stage) × (t ≡ s)
