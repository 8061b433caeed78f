use Rattle.test_heaps.specs.Seats.{HasEachObject}
use Rattle.bench_steps.proofs.cycles.filling.fill_all.Given as goal

abbrev pub invariant-loop-b : goal.invariant-loop-b
invariant-loop-b l = HasEachObject l.heap l.seat
