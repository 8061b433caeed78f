use Rattle.bench_steps.specs.Records.{SitsWithRecord, resting}
use Rattle.bench_steps.specs.Taken.{TakesRounds, a_look}
use Rattle.bench_steps.proofs.table.loads.looks.Given as goal

abbrev pub invariant-loop-round : goal.invariant-loop-round
invariant-loop-round l = SitsWithRecord l.heap resting l.seat × TakesRounds a_look l.round l.fn.seat l.seat
