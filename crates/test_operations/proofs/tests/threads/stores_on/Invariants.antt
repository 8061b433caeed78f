use Rattle.test_heaps.specs.Seats.{IsReadyWithCache}
use Rattle.test_operations.proofs.tests.threads.stores_on.Given as goal

abbrev pub invariant-loop-turn : goal.invariant-loop-turn
invariant-loop-turn l = IsReadyWithCache l.heap l.seat l.cache
