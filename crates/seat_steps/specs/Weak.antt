-- Weak references of a stepper.
use Rattle.std.specs.Prelude.{ℕ, ◌≡◌, ◌≢◌, ◌<◌, false, true}
use Rattle.std.specs.Arc.{arc_value}
use Rattle.mutator_ops.specs.Upgrading.{Upgrades}
use Rattle.mutator_ops.specs.Weak.{FindsUnpublished}
use Rattle.seat_turns.specs.Weak.{identity_of}
use Rattle.seat_turns.specs.declared.weak.Weak.{Weak}
use Rattle.seat_steps.specs.declared.came.Came.{Came}
use Rattle.seat_steps.specs.declared.came.Came.TheVariants as cames
use Rattle.seat_steps.specs.Acting.{DeclinesToAct, IsVariable, StepperActs, WantsObject}
use Rattle.seat_steps.specs.declared.stepper.Stepper.{Stepper}

-- why no weak reference to variable v's object is had: besides, another mutator hasn't published the object yet
abbrev pub HasNoWeak : Came → ℕ → Stepper → Stepper → Type 0
HasNoWeak cames.Unpublished v x y = StepperActs (IsVariable v) 4 (FindsUnpublished v) x y
HasNoWeak c v x y = WantsObject c (IsVariable v) v x y

-- the stepper has this variable, and its world can have made an object of these numbers in this cell
abbrev pub CanUpgrade : Stepper → Weak → ℕ → Type 0
CanUpgrade x weak v = let sh = (arc_value x.heap).shape in IsVariable v × (weak.place < sh.cells) × (weak.section < sh.sections) × (weak.number < sh.objects)

-- what an upgrade came to: the weak reference was of this world, and its object is alive, which variable v refers to, or dead; or it was of another
abbrev pub UpgradesTo : Came → Weak → ℕ → Stepper → Stepper → Type 0
UpgradesTo cames.Done weak v x y = (weak.world ≡ x.name) × StepperActs (CanUpgrade x weak v) 3 (Upgrades v weak.place (identity_of weak) true) x y
UpgradesTo cames.Dead weak v x y = (weak.world ≡ x.name) × StepperActs (CanUpgrade x weak v) 3 (Upgrades v weak.place (identity_of weak) false) x y
UpgradesTo cames.OtherWorld weak v x y = (weak.world ≢ x.name) × (y ≡ x)
UpgradesTo c weak v x y = DeclinesToAct c (CanUpgrade x weak v) x y
