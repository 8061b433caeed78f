use Rattle.gc_table.specs.Seats.{view_of}
use Rattle.gc_cycle.specs.Pieces.{CountsFrom}
use Rattle.test_heaps.specs.Seats.{HasEachObject}
use Rattle.test_collector.proofs.tests.stages.counts.Given as goal

abbrev pub invariant-loop-full : goal.invariant-loop-full
invariant-loop-full l = HasEachObject l.heap l.seat × CountsFrom l.from l.counted (view_of l.seat)
