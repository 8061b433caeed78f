use Rattle.gc_table.specs.Seats.{view_of}
use Rattle.gc_cycle.specs.Stepping.{Drains}
use Rattle.test_heaps.specs.Seats.{HasEachObject}
use Rattle.test_collector.proofs.tests.stages.drains.Given as goal

abbrev pub invariant-loop-round : goal.invariant-loop-round
invariant-loop-round l = HasEachObject l.heap l.seat × Drains (view_of l.seat)
