use Rattle.gc_table.specs.SeatRecords.{At, inside}
use Rattle.test_operations.proofs.tests.pools.rounds.Given as goal

abbrev pub invariant-loop-attempt : goal.invariant-loop-attempt
invariant-loop-attempt l = At l.heap inside l.fn.k l.seat
