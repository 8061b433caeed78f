-- What a store into an object came to.
use Rattle.std.specs.Prelude.{ℕ, ◌≡◌, [], Bool, true, Result, Ok, IsFalse}
use Rattle.std.specs.Arc.{arc_value}
use Rattle.plain_heap.specs.PlainStep.{IsInRange}
use Rattle.plain_heap.specs.declared.operation.Op.{Op}
use Rattle.gc_table.specs.Seats.{did}
use Rattle.seat_steps.specs.declared.came.Came.{Came}
use Rattle.seat_steps.specs.declared.came.Came.TheVariants as cames
use Rattle.seat_steps.specs.Stepping.{KeepsCycle, KeepsSearch, Operates, StepperDoes, TakesFew, fields_in, heap_of_stepper, shares}
use Rattle.seat_steps.specs.declared.stepper.Stage.TheVariants.{Inside}
use Rattle.seat_steps.specs.declared.stepper.Stepper.{Stepper}
use Rattle.managed_heap_c.specs.Asking.{IsNil}

-- the variable refers to nothing, so no step was taken: objects and variables are as they were, inside the world
pub record StoresNothing (v : ℕ) (op : Op) (x y : Stepper) : Type 0 where
  pub nil : IsNil v x
  pub range : IsInRange (fields_in x) op
  pub was : x.stage ≡ Inside
  pub inside : y.stage ≡ Inside
  pub own : IsFalse (shares x) → ((heap_of_stepper y).objects ≡ (heap_of_stepper x).objects) × ((heap_of_stepper y).variables ≡ (heap_of_stepper x).variables)
  pub none : did x.seat y.seat ≡ []
  pub world : arc_value y.heap ≡ arc_value x.heap
  pub name_is : y.name ≡ x.name
  pub stops : y.in_stops ≡ x.in_stops
  pub search : KeepsSearch x y
  pub cycle : KeepsCycle x y

-- a store through variable v was done, or v refers to nothing, or the call was refused
abbrev pub Stores : ℕ → Op → Came → Stepper → Stepper → Type 0
Stores v op cames.Done x y = StepperDoes op x y × TakesFew op x y × (IsNil v x → ⊥) × KeepsSearch x y
Stores v op cames.Nil x y = StoresNothing v op x y
Stores v op came x y = Operates came op x y

-- what is answered of a store, by what it came to and whether the variable refers to nothing
abbrev pub TellsNil : Came → Came → Result Bool Came → Type 0
TellsNil told cames.Done (Ok true) = told ≡ cames.Nil
TellsNil told came nil = told ≡ came
