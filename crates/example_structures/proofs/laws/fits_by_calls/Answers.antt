use Rattle.example_structures.proofs.ByCalls.{by-calls}
use Rattle.example_structures.proofs.laws.fits_by_calls.Goals as goal

pub returns : goal.returns
returns c = by-calls
