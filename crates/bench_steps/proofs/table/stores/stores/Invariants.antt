use Rattle.bench_steps.specs.Records.{SitsWithRecord, entered}
use Rattle.bench_steps.specs.Taken.{TakesRounds, a_store}
use Rattle.bench_steps.proofs.table.stores.stores.Given as goal

abbrev pub invariant-loop-round : goal.invariant-loop-round
invariant-loop-round l = SitsWithRecord l.heap entered l.seat × TakesRounds a_store l.round l.fn.seat l.seat
