use Rattle.std.proofs.Common.{inr}
use Rattle.test_collector.proofs.tests.helping.opens_drain.Goals as goal

pub drains-requires-clause-begins : goal.drains-requires-clause-begins
drains-requires-clause-begins c = inr c.requires.1
