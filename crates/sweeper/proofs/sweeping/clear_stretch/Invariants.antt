use Rattle.std.specs.Prelude.{◌≤◌, IsTrue}
use Rattle.mark_core.specs.declared.kinds.Phase.TheVariants.{Clear}
use Rattle.gc_table.specs.Seats.{Sits, view_of}
use Rattle.gc_table.specs.Log.{Only}
use Rattle.gc_table.specs.Running.{Ran}
use Rattle.sweeper.specs.Blocks.{ClearsOn}
use Rattle.sweeper.specs.Sweepers.{is_clearing, stopped_in}
use Rattle.sweeper.proofs.sweeping.clear_stretch.Given as goal

abbrev pub invariant-loop-block : goal.invariant-loop-block
invariant-loop-block l = record {
  sits : Sits l.heap l.seat;
  clears : IsTrue (stopped_in Clear (view_of l.seat));
  ran : Ran (view_of l.fn.seat) (view_of l.seat);
  only : Only is_clearing (view_of l.fn.seat) (view_of l.seat);
  low : l.first ≤ l.block;
  cleared : ClearsOn l.first l.block l.until (view_of l.fn.seat) (view_of l.seat);
}
