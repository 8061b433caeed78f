use Rattle.gc_table.specs.Seats.{Sits}
use Rattle.test_collector.proofs.tests.sharing.helps_on.Given as goal

abbrev pub invariant-loop-turn : goal.invariant-loop-turn
invariant-loop-turn l = Sits l.heap l.seat
