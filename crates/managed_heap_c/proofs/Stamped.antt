-- What coming after a stamp came to.
use Rattle.std.proofs.Common.{ℕ, ◌≡◌}
use Rattle.seat_steps.specs.declared.came.Came.{Came}
use Rattle.seat_steps.specs.declared.came.Came.TheVariants as cames
use Rattle.seat_steps.specs.Stamping.{SeesTo}
use Rattle.seat_steps.specs.declared.stepper.Stepper.{Stepper}
use Rattle.managed_heap_c.specs.Stamping.{CatchesUp}

-- the stamp is of the mutator's world
pub caught-up : (world : ℕ) (came : Came) (x y : Stepper) → world ≡ x.name → SeesTo came x y → CatchesUp world came x y
caught-up world cames.OtherWorld x y e s = absurd s
caught-up world came x y e s = (e, s)
