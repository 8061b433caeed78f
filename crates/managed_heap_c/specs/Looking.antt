-- What an export answers that looks at a variable's object, or takes its fields into variables.
use Rattle.std.specs.Prelude.{ℕ, zero, suc, ◌≡◌, ◌≤◌, ◌<◌, ◌+◌, ◌*◌, ◌⊎◌, IsTrue}
use Rattle.std.specs.Arc.{arc_value}
use Rattle.mark_core.specs.Steps.MutatorSteps.{seat_variable as word_in}
use Rattle.mark_core.specs.Numbers.{section_variables}
use Rattle.plain_heap.specs.declared.operation.Op.TheVariants as ops
use Rattle.gc_table.specs.Seats.{Across, state_of}
use Rattle.mutator_ops.specs.Few.{AtMost}
use Rattle.seat_steps.specs.declared.came.Came.{Came}
use Rattle.seat_steps.specs.declared.came.Came.TheVariants as cames
use Rattle.seat_steps.specs.Asking.{LacksObject}
use Rattle.seat_steps.specs.Stepping.{Operates, ReadsValue, fields_in, is_collecting}
use Rattle.seat_steps.specs.declared.stepper.Stage.TheVariants.{Inside, Outside}
use Rattle.seat_steps.specs.declared.stepper.Stepper.{Stepper}
use Rattle.managed_heap_c.specs.declared.looking.CObject.{CObject}

-- the object of variable v lies there, in either kind of world
abbrev pub LiesAt : ℕ → ℕ → Stepper → Type 0
LiesAt v place x = (word_in (state_of x.seat) v ≡ place + 1) × (place < (arc_value x.heap).shape.cells)

-- why it isn't looked at: the place isn't told, or it is and reading the value came to this
abbrev pub DeclinesToLook : Came → ℕ → ℕ → Stepper → Stepper → Type 0
DeclinesToLook came v value x y = (LacksObject came v x × (y ≡ x)) ⊎ ReadsValue came v x y value value

-- what looking came to, by what the variable of C was and is: it has the object's place, and its value by one read; or nothing is written
abbrev pub LooksTo : ℕ → CObject → CObject → Came → Stepper → Stepper → Type 0
LooksTo v before after cames.Done x y = LiesAt v after.place x × ReadsValue cames.Done v x y before.value after.value
LooksTo v before after came x y = DeclinesToLook came v before.value x y × (after ≡ before)

-- the first `count` fields of variable v's object may be taken into the variables from `first` on: there are as many of each, and v is none of these
abbrev pub CanTakeFields : ℕ → ℕ → ℕ → Stepper → Type 0
CanTakeFields v first count x = (v < section_variables) × (first + count ≤ section_variables) × (count ≤ fields_in x) × (first ≤ v → first + count ≤ v)

-- the first k of them were taken, one after the other, each as by one call
unfoldable pub TakesFirst : ℕ → ℕ → ℕ → Stepper → Stepper → Type 0
TakesFirst zero v first x y = y ≡ x
TakesFirst (suc k) v first x y = (z : Stepper) × TakesFirst k v first x z × Operates cames.Done (ops.Get (first + k) v k) z y

-- what taking them came to: all were taken, each in two steps at most, or none
abbrev pub TakesFields : ℕ → ℕ → ℕ → Came → Stepper → Stepper → Type 0
TakesFields v first count cames.Done x y = CanTakeFields v first count x × (x.stage ≡ Inside) × TakesFirst count v first x y × Across (AtMost (2 * count)) x.seat y.seat
TakesFields v first count cames.OutOfRange x y = (CanTakeFields v first count x → ⊥) × (y ≡ x)
TakesFields v first count cames.Outside x y = (x.stage ≡ Outside) × (y ≡ x)
TakesFields v first count cames.Collecting x y = IsTrue (is_collecting x.stage) × (y ≡ x)
TakesFields v first count came x y = ⊥
