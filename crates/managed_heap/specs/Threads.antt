-- What the threads of a closed world did.
use Rattle.std.specs.Prelude.{ℕ, ◌≡◌, ◌≤◌, ◌<◌, ◌+◌, List, [], IsTrue, IsFalse, Some, length, slice_get}
use Rattle.std.specs.Arc.{arc_value}
use Rattle.mark_core.specs.Closed.{IsReachableIn, is_published}
use Rattle.mark_core.specs.declared.kinds.Event.{Event}
use Rattle.mark_core.specs.declared.kinds.Shape.{Shape}
use Rattle.gc_table.specs.Laws.{IsRunOf}
use Rattle.gc_table.specs.Past.{log_of}
use Rattle.gc_table.specs.Seats.{view_of}
use Rattle.gc_table.specs.declared.seat.HeapSeat.{HeapSeat}
use Rattle.gc_table.specs.declared.view.Meaning.{Meaning}
use Rattle.gc_table.specs.declared.words.Words.{Words}
use Rattle.gc_table.specs.Runs.{core_after}
use Rattle.seat_turns.specs.declared.background.Tracer.{Tracer}
use Rattle.heap_laws.specs.Ends.{WordsAre}
use Rattle.managed_heap.specs.Calls.{heap_of}
use Rattle.managed_heap.specs.Closing.{IsWorldEnd, all_seats}
use Rattle.managed_heap.specs.declared.mutator.Mutator.{Mutator}
use Rattle.managed_heap.specs.declared.world.World.{World}

-- these events are what the seats did, each seat's in their order, and nobody else did anything
pub record IsWhole (sh : Shape) (seats : List HeapSeat) (w : Words) (es : List Event) : Type 0 where
  pub run : IsRunOf sh seats w es
  pub no_others : (i : ℕ) → length seats ≤ i → log_of sh es i ≡ []
  -- none of them freed a cell that was reachable just before it
  pub frees_none : (k x : ℕ) → k < length es → IsReachableIn (core_after sh 1 es k) x → IsTrue (is_published (core_after sh 1 es k) x) → IsTrue (is_published (core_after sh 1 es (k + 1)) x)

-- whatever the threads of a closed world did, it is such a run
abbrev pub ThreadsRun : Type 0
ThreadsRun = (world : World) (mutators : List Mutator) (tracers : List Tracer) (w : Words) → (end : IsWorldEnd world mutators tracers w) → (es : List Event) × IsWhole (arc_value world.heap).shape (all_seats world end.rest tracers) w es

-- the words are plain heaps, of which each mutator's section has the one that its calls made
pub record EndsAsHeaps (sh : Shape) (mutators : List Mutator) (seats : List HeapSeat) (w : Words) : Type 0 where
  pub words : WordsAre sh seats w
  pub heaps : (i k : ℕ) (m : Mutator) → slice_get mutators i ≡ Some m → (view_of m.seat).state.section ≡ Some k → (meaning : Meaning) × (slice_get words.meanings k ≡ Some meaning) × (meaning.heap ≡ heap_of m)

-- the words of a closed world, whose objects aren't shared, are those
abbrev pub WordsStand : Type 0
WordsStand = (world : World) (mutators : List Mutator) (tracers : List Tracer) (w : Words) → (end : IsWorldEnd world mutators tracers w) → IsFalse (arc_value world.heap).shape.sharing
    → EndsAsHeaps (arc_value world.heap).shape mutators (all_seats world end.rest tracers) w
