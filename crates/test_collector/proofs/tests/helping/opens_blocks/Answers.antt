use Rattle.std.proofs.Common.{refl}
use Rattle.mark_core.specs.declared.kinds.Phase.TheVariants.{Sweep}
use Rattle.test_collector.proofs.tests.helping.opens_blocks.Goals as goal

pub open_help-requires-clause-openable : goal.open_help-requires-clause-openable
open_help-requires-clause-openable c =
    let l = c.requires.seat.1 in record { knows = l.knows; closed = c.requires.closed; phase = Sweep; shared = refl; known = l.phase }
