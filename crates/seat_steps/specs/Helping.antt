-- What a step of help came to, by a stepper that waits outside.
use Rattle.std.specs.Prelude.{ℕ, ◌≡◌, ◌<◌, ◌⊎◌, IsTrue}
use Rattle.gc_table.specs.Seats.{Across}
use Rattle.stop_world.specs.Gates.{Declines}
use Rattle.gc_cycle.specs.HelpTurns.{TakesShortTurn, turn_steps}
use Rattle.mutator_ops.specs.Few.{AtMost}
use Rattle.seat_steps.specs.Stepping.{KeepsAll, is_collecting}
use Rattle.seat_steps.specs.Steps.{draws_for, shape_of}
use Rattle.seat_steps.specs.declared.came.Came.{Came}
use Rattle.seat_steps.specs.declared.came.Came.TheVariants as cames
use Rattle.seat_steps.specs.declared.stepper.Stage.TheVariants as stages
use Rattle.seat_steps.specs.declared.stepper.Stepper.{Stepper}

-- among the helpers it did this much, and has left them
abbrev pub TakesTurn : ℕ → ℕ → Stepper → Stepper → Type 0
TakesTurn most done x y = Across (TakesShortTurn most (draws_for most x) done) x.seat y.seat

-- how many steps it takes at most: two to join and one to leave, and those of tracing so many objects or of sweeping so many blocks
abbrev pub help_steps : ℕ → Stepper → ℕ
help_steps most x = turn_steps most (draws_for most x) (shape_of x)

-- it was outside the world and is, and took so few steps
pub record StaysOutside (most : ℕ) (x y : Stepper) : Type 0 where
  pub was : x.stage ≡ stages.Outside
  pub stays : y.stage ≡ stages.Outside
  pub few : Across (AtMost (help_steps most x)) x.seat y.seat
  pub keeps : KeepsAll x y

-- it did some of the work of a stop; or help was closed, or nothing was left to do; or it may not help, and is as it was
abbrev pub HelpsOnce : ℕ → Came → Stepper → Stepper → Type 0
HelpsOnce most cames.Done x y = ((done : ℕ) × (0 < done) × TakesTurn most done x y) × StaysOutside most x y
HelpsOnce most cames.NoHelp x y = (Across Declines x.seat y.seat ⊎ TakesTurn most 0 x y) × StaysOutside most x y
HelpsOnce most cames.OutOfRange x y = (most ≡ 0) × (y ≡ x)
HelpsOnce most cames.Inside x y = (x.stage ≡ stages.Inside) × (y ≡ x)
HelpsOnce most cames.Collecting x y = IsTrue (is_collecting x.stage) × (y ≡ x)
HelpsOnce most c x y = ⊥
