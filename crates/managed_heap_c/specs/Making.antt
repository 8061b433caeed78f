-- What making an object with its references came to.
use Rattle.std.specs.Prelude.{ℕ, zero, suc, ◌≡◌, ◌≤◌, ◌<◌, ◌+◌, ◌*◌, ◌⊎◌, List, length, slice_index}
use Rattle.mark_core.specs.Numbers.{section_variables}
use Rattle.plain_heap.specs.declared.operation.Op.TheVariants as ops
use Rattle.gc_table.specs.Seats.{Across, view_of}
use Rattle.mutator_ops.specs.Few.{AtMost}
use Rattle.seat_turns.specs.Standing.{flush_steps}
use Rattle.seat_steps.specs.Filling.{make_steps}
use Rattle.seat_steps.specs.declared.came.Came.{Came}
use Rattle.seat_steps.specs.declared.came.Came.TheVariants as cames
use Rattle.seat_steps.specs.Stepping.{Operates, StepperMakes, fields_in}
use Rattle.seat_steps.specs.declared.stepper.Stepper.{Stepper}

-- the number that stands for no variable: a field stays nil
abbrev pub no_variable : ℕ
no_variable = 4294967295

-- a field may become this: what a variable is, or nil
abbrev pub IsGiven : ℕ → Type 0
IsGiven n = (n < section_variables) ⊎ (n ≡ no_variable)

-- each of these is the number of a variable, or stands for none
abbrev pub AreGiven : List ℕ → Type 0
AreGiven ns = (i : ℕ) → i < length ns → IsGiven (slice_index ns i)

-- an object may be made in variable v with these references: there are fields for them
abbrev pub CanMakeWith : ℕ → List ℕ → Stepper → Type 0
CanMakeWith v ns x = (v < section_variables) × (length ns ≤ fields_in x) × AreGiven ns

-- field i of variable v's object became what the variable of this number is, by one store; or it stays nil, and nothing was done
abbrev pub SetsGiven : ℕ → ℕ → ℕ → Stepper → Stepper → Type 0
SetsGiven v i n x y = ((n ≡ no_variable) × (y ≡ x)) ⊎ ((n < section_variables) × Operates cames.Done (ops.Set v i n) x y)

-- the first k fields of variable v's object were set so, one after the other
unfoldable pub SetsFirst : ℕ → ℕ → List ℕ → Stepper → Stepper → Type 0
SetsFirst zero v ns x y = y ≡ x
SetsFirst (suc k) v ns x y = (z : Stepper) × SetsFirst k v ns x z × SetsGiven v k (slice_index ns k) z y

-- the object was made, and then its fields were set, each by four steps at most
pub record MakesThenSets (v value : ℕ) (ns : List ℕ) (x y : Stepper) : Type 0 where
  pub made : Stepper
  pub makes : StepperMakes cames.Done (ops.New v value) x made
  pub sets : SetsFirst (length ns) v ns made y
  pub few : Across (AtMost (make_steps (view_of x.seat).shape + flush_steps (view_of x.seat) + 4 * length ns)) x.seat y.seat

-- what it came to: all was done, or none of it
abbrev pub MakesWith : ℕ → ℕ → List ℕ → Came → Stepper → Stepper → Type 0
MakesWith v value ns cames.Done x y = CanMakeWith v ns x × MakesThenSets v value ns x y
MakesWith v value ns cames.OutOfRange x y = (CanMakeWith v ns x → ⊥) × (y ≡ x)
MakesWith v value ns came x y = CanMakeWith v ns x × StepperMakes came (ops.New v value) x y
