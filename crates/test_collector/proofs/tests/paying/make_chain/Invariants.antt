use Rattle.test_heaps.specs.Seats.{HasEachObject}
use Rattle.test_collector.proofs.tests.paying.make_chain.Given as goal

abbrev pub invariant-loop-block : goal.invariant-loop-block
invariant-loop-block l = HasEachObject l.heap l.seat
