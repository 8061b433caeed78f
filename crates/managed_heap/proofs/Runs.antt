-- Steps of a seat, one after the other.
use Rattle.std.proofs.Common.{ℕ, refl}
use Rattle.mark_core.specs.declared.kinds.Step.TheVariants.{Observe, ReadPhase}
use Rattle.gc_table.specs.Running.{Ran}
use Rattle.gc_table.specs.Seats.{Answered, Found}
use Rattle.gc_table.specs.declared.view.View.{View}
use Rattle.gc_table.proofs.Running.{ran-answered, ran-found, ran-join, ran-number, ran-refl}

-- a seat that observes the world and reads the phase takes these steps
pub ran-looking : (v u w : View) (n : ℕ) (P : ℕ → Type 0) → Found Observe n v u → Answered ReadPhase P u w → Ran v w
ran-looking v u w n P a b = ran-join v u w (ran-found v u Observe n refl a) (ran-answered u w ReadPhase P refl b)

pub ruleset runs = (ran-join, ran-number, ran-refl)
