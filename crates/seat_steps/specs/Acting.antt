-- What a stepper is told that only a world has whose mutators share their objects: of the root, of exchanges, of slots, and of an object's number.
use Rattle.std.specs.Prelude.{ℕ, ◌≡◌, ◌≤◌, ◌<◌, IsFalse, IsTrue}
use Rattle.std.specs.Arc.{arc_value}
use Rattle.mark_core.specs.Numbers.{section_variables}
use Rattle.mark_core.specs.Steps.MutatorSteps.{seat_variable as word_in}
use Rattle.gc_table.specs.Seats.{Across, state_of}
use Rattle.gc_table.specs.declared.view.View.{View}
use Rattle.mutator_ops.specs.Few.{AtMost}
use Rattle.mutator_ops.specs.Sharing.{LendsFound}
use Rattle.seat_steps.specs.declared.came.Came.{Came}
use Rattle.seat_steps.specs.declared.came.Came.TheVariants as cames
use Rattle.seat_steps.specs.Stepping.{KeepsCycle, KeepsSearch, fields_in, is_collecting, shares}
use Rattle.seat_steps.specs.declared.stepper.Stage.TheVariants.{Inside, Outside}
use Rattle.seat_steps.specs.declared.stepper.Stepper.{Stepper}

-- there is a variable of this number
abbrev pub IsVariable : ℕ → Type 0
IsVariable v = v < section_variables

-- the numbers of an exchange of a field are in range
abbrev pub CanExchange : Stepper → ℕ → ℕ → ℕ → ℕ → Type 0
CanExchange x v i expected new = IsVariable v × (i < fields_in x) × IsVariable expected × IsVariable new

-- how many slots the mutator has
abbrev pub slots_in : Stepper → ℕ
slots_in m = (arc_value m.heap).shape.slots

-- the mutator has this variable and this slot
abbrev pub IsSlot : Stepper → ℕ → ℕ → Type 0
IsSlot x v k = IsVariable v × (k < slots_in x)

-- the mutator has the slots from the one number on and below the other
abbrev pub HasSlots : Stepper → ℕ → ℕ → Type 0
HasSlots x from to = (from ≤ to) × (to ≤ slots_in x)

-- the call went so, from what the seat knew before to what it knows after, in this many steps at most: objects are shared, its numbers were in range, and the
-- stepper was inside and is
pub record StepperActs (range : Type 0) (k : ℕ) (P : View → View → Type 0) (x y : Stepper) : Type 0 where
  pub shared : IsTrue (shares x)
  pub in_range : range
  pub was : x.stage ≡ Inside
  pub inside : y.stage ≡ Inside
  pub acts : Across P x.seat y.seat
  pub few : Across (AtMost k) x.seat y.seat
  pub world : arc_value y.heap ≡ arc_value x.heap
  pub name_is : y.name ≡ x.name
  pub stops : y.in_stops ≡ x.in_stops
  pub search : KeepsSearch x y
  pub cycle : KeepsCycle x y

-- why a call isn't done: objects aren't shared, a number is out of range, or the stepper is outside or collects; it is as it was
abbrev pub DeclinesToAct : Came → Type 0 → Stepper → Stepper → Type 0
DeclinesToAct cames.NotShared range x y = IsFalse (shares x) × (y ≡ x)
DeclinesToAct cames.OutOfRange range x y = (range → ⊥) × (y ≡ x)
DeclinesToAct cames.Outside range x y = (x.stage ≡ Outside) × (y ≡ x)
DeclinesToAct cames.Collecting range x y = IsTrue (is_collecting x.stage) × (y ≡ x)
DeclinesToAct c range x y = ⊥

-- what a call came to: it was done so, or the stepper is as it was
abbrev pub ActsTo : Came → Type 0 → ℕ → (View → View → Type 0) → Stepper → Stepper → Type 0
ActsTo cames.Done range k P x y = StepperActs range k P x y
ActsTo c range k P x y = DeclinesToAct c range x y

-- why a call isn't done that wants variable v's object: besides, the variable refers to nothing
abbrev pub WantsObject : Came → Type 0 → ℕ → Stepper → Stepper → Type 0
WantsObject cames.Nil range v x y = range × (x.stage ≡ Inside) × (word_in (state_of x.seat) v ≡ 0) × (y ≡ x)
WantsObject c range v x y = DeclinesToAct c range x y

-- what asking for the root came to: variable w became what one read found, which isn't nil; or it is nil; or the stepper is as it was
abbrev pub TakesRoot : Came → ℕ → Stepper → Stepper → Type 0
TakesRoot cames.Done w x y = StepperActs (IsVariable w) 2 (LendsFound w 0) x y × (0 < word_in (state_of y.seat) w)
TakesRoot cames.Nil w x y = StepperActs (IsVariable w) 2 (LendsFound w 0) x y × (word_in (state_of y.seat) w ≡ 0)
TakesRoot c w x y = DeclinesToAct c (IsVariable w) x y
