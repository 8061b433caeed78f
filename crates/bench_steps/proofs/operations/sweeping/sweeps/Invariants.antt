use Rattle.mark_core.specs.declared.kinds.Phase.TheVariants.{Idle}
use Rattle.gc_table.specs.Running.{Alone}
use Rattle.gc_table.specs.Seats.{Sits, view_of}
use Rattle.bench_steps.proofs.operations.sweeping.sweeps.Given as goal

abbrev pub invariant-loop-round : goal.invariant-loop-round
invariant-loop-round l = Sits l.heap l.seat × Alone Idle (view_of l.seat)
