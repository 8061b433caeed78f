use Rattle.test_heaps.specs.Seats.{IsReadyWithCache}
use Rattle.bench_steps.proofs.cycles.filling.fill.Given as goal

abbrev pub invariant-loop-i : goal.invariant-loop-i
invariant-loop-i l = IsReadyWithCache l.heap l.seat l.cache
