-- How much a stepper counts as traced to pay for its caches.
use Rattle.std.specs.Prelude.{ℕ}
use Rattle.gc_table.specs.Seats.{Across}
use Rattle.seat_steps.specs.PaidTries.{CountsMaking, CountsRefill}
use Rattle.seat_steps.specs.Refilling.{reach}
use Rattle.seat_steps.specs.declared.stepper.Stepper.{Stepper}

-- what a stepper counts that makes an object
abbrev pub PaysMaking : Stepper → Stepper → Type 0
PaysMaking x y = Across (CountsMaking x.paid y.paid) x.seat y.seat

-- and in a step of a refill
abbrev pub PaysRefill : ℕ → Stepper → Stepper → Type 0
PaysRefill most x y = Across (CountsRefill x.block (reach most x) x.paid y.paid) x.seat y.seat
