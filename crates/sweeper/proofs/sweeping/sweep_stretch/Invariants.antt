use Rattle.std.specs.Prelude.{◌≤◌, IsTrue}
use Rattle.gc_table.specs.Seats.{Sits, view_of}
use Rattle.gc_table.specs.Log.{Only}
use Rattle.gc_table.specs.Running.{Ran}
use Rattle.sweeper.specs.Blocks.{SweepsOn}
use Rattle.sweeper.specs.Sweepers.{is_sweeping, sweeps}
use Rattle.sweeper.proofs.sweeping.sweep_stretch.Given as goal

abbrev pub invariant-loop-block : goal.invariant-loop-block
invariant-loop-block l = record {
  sits : Sits l.heap l.seat;
  sweeps : IsTrue (sweeps (view_of l.seat));
  ran : Ran (view_of l.fn.seat) (view_of l.seat);
  only : Only is_sweeping (view_of l.fn.seat) (view_of l.seat);
  low : l.first ≤ l.block;
  swept : SweepsOn l.first l.block l.until l.freed (view_of l.fn.seat) (view_of l.seat);
}
