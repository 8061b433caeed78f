-- What reading a world's numbers does.
use Rattle.std.specs.Prelude.{◌≡◌}
use Rattle.mark_core.specs.Numbers.{free_count, last_count}
use Rattle.mark_core.specs.declared.kinds.Step.TheVariants.{ReadStat}
use Rattle.gc_table.specs.Seats.{Found}
use Rattle.gc_table.specs.declared.seat.Heap.{Heap}
use Rattle.gc_table.specs.declared.view.View.{View}
use Rattle.managed_heap.specs.declared.numbers.Statistics.{Statistics}

-- the number of free cells was read, and then the number of those that the last cycle marked
pub record ReadsStatistics (s : Statistics) (h : Heap) (v w : View) : Type 0 where
  pub cells : s.cells ≡ h.shape.cells
  pub between : View
  pub free : Found (ReadStat free_count) s.free v between
  pub marked : Found (ReadStat last_count) s.marked between w
