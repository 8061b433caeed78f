use Rattle.test_heaps.specs.Seats.{HasEachObject}
use Rattle.bench_steps.proofs.cycles.stops.collects_on.Given as goal

abbrev pub invariant-loop-round : goal.invariant-loop-round
invariant-loop-round g l = HasEachObject l.heap l.seat
