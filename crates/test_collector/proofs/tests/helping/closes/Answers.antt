use Rattle.mark_core.specs.declared.kinds.Phase.TheVariants.{Drain}
use Rattle.test_collector.proofs.tests.helping.closes.Goals as goal

pub returns : goal.returns
returns g c = let e = c.close_help.ensures in (e.seat, e.phase Drain c.requires.seat.1.0)
