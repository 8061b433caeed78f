use Rattle.test_heaps.specs.Seats.{IsReadyWithCache}
use Rattle.test_operations.proofs.tests.scanning.make_star.Given as goal

abbrev pub invariant-loop-i : goal.invariant-loop-i
invariant-loop-i l = IsReadyWithCache l.heap l.seat l.cache
