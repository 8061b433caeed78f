-- What an export answers for a stamp, which C has as a plain number: it names a world, and no history.
use Rattle.std.specs.Prelude.{ℕ, ◌≡◌, ◌≢◌}
use Rattle.seat_steps.specs.Stamping.{SeesTo}
use Rattle.seat_steps.specs.declared.came.Came.{Came}
use Rattle.seat_steps.specs.declared.came.Came.TheVariants as cames
use Rattle.seat_steps.specs.declared.stepper.Stepper.{Stepper}
use Rattle.managed_heap_c.specs.declared.stamps.CStamp.{CStamp}

-- the stamp that was written is the mutator's world's, and the mutator is as it was
abbrev pub StampsTo : CStamp → Came → Stepper → Stepper → Type 0
StampsTo after cames.Done x y = (after.world ≡ x.name) × (y ≡ x)
StampsTo after came x y = ⊥

-- the stamp is another world's, and nothing changed; or the mutator has seen all that had happened at some moment, or collects
abbrev pub CatchesUp : ℕ → Came → Stepper → Stepper → Type 0
CatchesUp world cames.OtherWorld x y = (world ≢ x.name) × (y ≡ x)
CatchesUp world came x y = (world ≡ x.name) × SeesTo came x y
