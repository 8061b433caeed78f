use Rattle.card_clean.specs.Drained.{IsBeforeSweep}
use Rattle.gc_table.specs.Seats.{Sits, view_of}
use Rattle.bench_steps.proofs.operations.sweeping.settles.Given as goal

abbrev pub invariant-loop-round : goal.invariant-loop-round
invariant-loop-round l = Sits l.heap l.seat × IsBeforeSweep (view_of l.seat)
