use Rattle.gc_table.specs.Seats.{Sits, view_of}
use Rattle.packet_pools.specs.Tracing.{Traces}
use Rattle.tracer.specs.Hands.{IsIdle}
use Rattle.test_operations.proofs.tests.threads.traces_on.Given as goal

abbrev pub invariant-loop-turn : goal.invariant-loop-turn
invariant-loop-turn l = Sits l.heap l.seat × Traces (view_of l.seat) × IsIdle (view_of l.seat)
