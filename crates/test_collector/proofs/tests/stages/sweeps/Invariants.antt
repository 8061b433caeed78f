use Rattle.gc_table.specs.Seats.{view_of}
use Rattle.gc_cycle.specs.Stepping.{IsAtSweep}
use Rattle.test_heaps.specs.Seats.{HasEachObject}
use Rattle.test_collector.proofs.tests.stages.sweeps.Given as goal

abbrev pub invariant-loop-full : goal.invariant-loop-full
invariant-loop-full l = HasEachObject l.heap l.seat × IsAtSweep (view_of l.seat)
