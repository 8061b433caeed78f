-- What holds of what threads do to a heap.
use Rattle.std.specs.Prelude.{ℕ, ◌+◌, ◌<◌, List, length, IsTrue}
use Rattle.mark_core.specs.Closed.{IsReachableIn, is_published}
use Rattle.mark_core.specs.declared.kinds.Event.{Event}
use Rattle.mark_core.specs.declared.kinds.Shape.{Shape}
use Rattle.gc_table.specs.Ends.{IsEnd}
use Rattle.gc_table.specs.Laws.{IsRunOf}
use Rattle.gc_table.specs.declared.seat.HeapSeat.{HeapSeat}
use Rattle.gc_table.specs.declared.words.Words.{Words}
use Rattle.gc_table.specs.Runs.{core_after}

-- whatever threads did with the seats of a heap that was closed, it is one run of the core, and no event of it frees a cell that is reachable just before it
abbrev pub ThreadsFreeNone : Type 0
ThreadsFreeNone = (sh : Shape) (seats : List HeapSeat) (w : Words) → IsEnd sh seats w
    → (es : List Event) × IsRunOf sh seats w es × ((k x : ℕ) → k < length es → IsReachableIn (core_after sh 1 es k) x
    → IsTrue (is_published (core_after sh 1 es k) x) → IsTrue (is_published (core_after sh 1 es (k + 1)) x))
