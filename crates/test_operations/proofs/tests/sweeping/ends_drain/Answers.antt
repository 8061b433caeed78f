use Rattle.std.proofs.Common.{inl}
use Rattle.test_operations.proofs.tests.sweeping.ends_drain.Goals as goal

pub drains-requires-clause-begins : goal.drains-requires-clause-begins
drains-requires-clause-begins g c = inl c.if-not-stops_idle.ensures.stopped.1
