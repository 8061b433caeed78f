use Rattle.test_collector.specs.Seats.{IsSharerWithCache}
use Rattle.test_collector.proofs.tests.moving.fill.Given as goal

abbrev pub invariant-loop-cell : goal.invariant-loop-cell
invariant-loop-cell l = IsSharerWithCache l.heap l.seat l.cache
