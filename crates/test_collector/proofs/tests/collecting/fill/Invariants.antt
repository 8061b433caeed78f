use Rattle.test_heaps.specs.Seats.{IsReadyWithCache}
use Rattle.test_collector.proofs.tests.collecting.fill.Given as goal

abbrev pub invariant-loop-n : goal.invariant-loop-n
invariant-loop-n l = IsReadyWithCache l.heap l.seat l.cache
