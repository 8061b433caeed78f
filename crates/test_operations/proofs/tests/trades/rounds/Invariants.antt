use Rattle.gc_table.specs.SeatRecords.{At, resting}
use Rattle.test_operations.proofs.tests.trades.rounds.Given as goal

abbrev pub invariant-loop-done : goal.invariant-loop-done
invariant-loop-done l = At l.heap resting l.fn.k l.seat
