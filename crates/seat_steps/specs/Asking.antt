-- When a stepper is told of its variables, and why it isn't.
use Rattle.std.specs.Prelude.{ℕ, ◌≡◌, IsTrue}
use Rattle.mark_core.specs.Steps.MutatorSteps.{seat_variable as word_in}
use Rattle.gc_table.specs.Seats.{state_of}
use Rattle.plain_heap.specs.PlainStep.{IsInRange}
use Rattle.plain_heap.specs.declared.operation.Op.{Op}
use Rattle.plain_heap.specs.declared.operation.Op.TheVariants as ops
use Rattle.seat_steps.specs.declared.came.Came.{Came}
use Rattle.seat_steps.specs.declared.came.Came.TheVariants as cames
use Rattle.seat_steps.specs.Stepping.{is_collecting, fields_in}
use Rattle.seat_steps.specs.declared.stepper.Stage.TheVariants.{Inside, Outside}
use Rattle.seat_steps.specs.declared.stepper.Stepper.{Stepper}

-- the variables of the operation are in range, and the stepper is inside
abbrev pub MayAsk : Op → Stepper → Type 0
MayAsk op x = IsInRange (fields_in x) op × (x.stage ≡ Inside)

-- why it isn't told
abbrev pub DeclinesToTell : Came → Op → Stepper → Type 0
DeclinesToTell cames.OutOfRange op x = IsInRange (fields_in x) op → ⊥
DeclinesToTell cames.Outside op x = x.stage ≡ Outside
DeclinesToTell cames.Collecting op x = IsTrue (is_collecting x.stage)
DeclinesToTell c op x = ⊥

-- why it isn't told of variable v's object, in either kind of world: besides, the variable refers to nothing
abbrev pub LacksObject : Came → ℕ → Stepper → Type 0
LacksObject cames.Nil v x = MayAsk (ops.Say v) x × (word_in (state_of x.seat) v ≡ 0)
LacksObject came v x = DeclinesToTell came (ops.Say v) x
