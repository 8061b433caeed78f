use Rattle.gc_table.specs.Seats.{view_of}
use Rattle.gc_cycle.specs.Pieces.{LooksFrom}
use Rattle.test_heaps.specs.Seats.{HasEachObject}
use Rattle.test_collector.proofs.tests.stages.looks_at_all.Given as goal

abbrev pub invariant-loop-full : goal.invariant-loop-full
invariant-loop-full l = HasEachObject l.heap l.seat × LooksFrom l.from (view_of l.seat)
