use Rattle.bench_steps.specs.Records.{SitsWithRecord, marking}
use Rattle.bench_steps.specs.Taken.{TakesRounds, a_pair}
use Rattle.bench_steps.proofs.table.fetches.fetches.Given as goal

abbrev pub invariant-loop-round : goal.invariant-loop-round
invariant-loop-round l = SitsWithRecord l.heap marking l.seat × TakesRounds a_pair l._round l.fn.seat l.seat
