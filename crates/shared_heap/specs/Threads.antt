-- What the threads of a closed world did.
use Rattle.std.specs.Prelude.{ℕ, ◌≡◌, ◌≤◌, ◌<◌, ◌+◌, List, [], Some, IsTrue, length, slice_get}
use Rattle.std.specs.Arc.{arc_value}
use Rattle.plain_heap.specs.Paths.{Name}
use Rattle.mark_core.specs.Closed.{IsReachableIn, is_published}
use Rattle.mark_core.specs.declared.kinds.Event.{Event}
use Rattle.mark_core.specs.declared.kinds.Shape.{Shape}
use Rattle.gc_table.specs.Laws.{IsRunOf}
use Rattle.gc_table.specs.Log.{all_steps}
use Rattle.gc_table.specs.Past.{log_of}
use Rattle.gc_table.specs.Seats.{view_of}
use Rattle.gc_table.specs.declared.seat.HeapSeat.{HeapSeat}
use Rattle.gc_table.specs.declared.words.Words.{Words}
use Rattle.gc_table.specs.Agreement.{AgreesWith}
use Rattle.gc_table.specs.AgreementLaws.{TellsOf}
use Rattle.gc_table.specs.Rooted.{FindsSome, IsKept}
use Rattle.gc_table.specs.Runs.{core_after}
use Rattle.gc_table.specs.Sharing.{heap_after_events}
use Rattle.seat_turns.specs.Sharing.{spares_heap}
use Rattle.seat_turns.specs.declared.background.Tracer.{Tracer}
use Rattle.shared_heap.specs.Closing.{IsSharedEnd, all_seats}
use Rattle.shared_heap.specs.declared.mutator.SharedMutator.{SharedMutator}
use Rattle.shared_heap.specs.declared.world.SharedWorld.{SharedWorld}

-- these events are what the seats did, and nobody else did anything
pub record IsWhole (sh : Shape) (seats : List HeapSeat) (w : Words) (es : List Event) : Type 0 where
  pub run : IsRunOf sh seats w es
  pub no_others : (i : ℕ) → length seats ≤ i → log_of sh es i ≡ []
  -- after each event the words agree with one plain heap
  pub agrees : (k : ℕ) → AgreesWith (core_after sh 1 es k) (heap_after_events sh es k)
  -- and each found what this heap had just before it
  pub tells : (k : ℕ) (e : Event) → slice_get es k ≡ Some e → TellsOf (core_after sh 1 es k) (heap_after_events sh es k) (slice_get (core_after sh 1 es k).seats e.seat) e.step
  -- there is one root: once the season has moved on the variable that is read for it refers to this object
  pub root : Name
  pub kept : (k : ℕ) → IsKept sh es 0 root k
  -- a seat past the sections', which is a tracer's, took no step that the plain heap sees
  pub tracers : (i : ℕ) (s : HeapSeat) → sh.sections ≤ i → slice_get seats i ≡ Some s → IsTrue (all_steps spares_heap (view_of s).log)
  -- so no thread that asked for it found nil
  pub found : (i : ℕ) (s : HeapSeat) → slice_get seats i ≡ Some s → FindsSome 0 (view_of s).log
  -- no event freed a cell that was reachable just before it
  pub frees_none : (k x : ℕ) → k < length es → IsReachableIn (core_after sh 1 es k) x → IsTrue (is_published (core_after sh 1 es k) x) → IsTrue (is_published (core_after sh 1 es (k + 1)) x)

-- whatever the threads of a closed world did, it is such a run
abbrev pub ThreadsRun : Type 0
ThreadsRun = (world : SharedWorld) (mutators : List SharedMutator) (tracers : List Tracer) (w : Words) → (end : IsSharedEnd world mutators tracers w) → (es : List Event) × IsWhole (arc_value world.heap).shape (all_seats world end.rest tracers) w es
