-- What threads do to a heap whose objects they share: they act on one plain heap.
use Rattle.std.specs.Prelude.{ℕ, ◌≡◌, List, take, Some, slice_get}
use Rattle.mark_core.specs.Steps.{start_core}
use Rattle.mark_core.specs.declared.kinds.Event.{Event}
use Rattle.mark_core.specs.declared.kinds.Shape.{Shape}
use Rattle.gc_table.specs.Ends.{IsEnd}
use Rattle.gc_table.specs.Laws.{IsRunOf}
use Rattle.gc_table.specs.declared.seat.HeapSeat.{HeapSeat}
use Rattle.gc_table.specs.declared.words.Words.{Words}
use Rattle.gc_table.specs.Agreement.{AgreesWith}
use Rattle.gc_table.specs.AgreementLaws.{TellsOf, world_run}
use Rattle.gc_table.specs.RunWorlds.{World, start_world}
use Rattle.gc_table.specs.Runs.{core_after}

-- the plain heap of all sections after the first k events
abbrev pub heap_after_events : Shape → List Event → ℕ → World
heap_after_events sh es k = world_run (take k es) (start_core sh 1) (start_world sh)

-- whatever threads did with the seats of a heap that was closed, it is one run of the core; after each of its events the words agree with one plain heap that
-- forgets nothing; and each event of each thread, which its seat's log has with the word that it found, found what this heap had just before it
abbrev pub ThreadsShareOneHeap : Type 0
ThreadsShareOneHeap = (sh : Shape) (seats : List HeapSeat) (w : Words) → IsEnd sh seats w
    → (es : List Event) × IsRunOf sh seats w es × ((k : ℕ) → AgreesWith (core_after sh 1 es k) (heap_after_events sh es k))
    × ((k : ℕ) (e : Event) → slice_get es k ≡ Some e → TellsOf (core_after sh 1 es k) (heap_after_events sh es k) (slice_get (core_after sh 1 es k).seats e.seat) e.step)
