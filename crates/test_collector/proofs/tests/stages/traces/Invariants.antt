use Rattle.gc_table.specs.Seats.{view_of}
use Rattle.gc_cycle.specs.Stepping.{Drains}
use Rattle.test_heaps.specs.Seats.{HasEachObject}
use Rattle.test_collector.proofs.tests.stages.traces.Given as goal

abbrev pub invariant-loop-piece : goal.invariant-loop-piece
invariant-loop-piece l = HasEachObject l.heap l.seat × Drains (view_of l.seat)
