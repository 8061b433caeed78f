-- What the logs of the threads of a closed world tell of its root: a counter, or a lock.
use Rattle.std.specs.Prelude.{ℕ, ◌≡◌, ◌+◌, ◌-◌, ◌==◌, if◌then◌else◌, List, [], ◌∷◌, false, Option, None, Some, IsTrue, length, slice_get, slice_index_or, take}
use Rattle.std.specs.Arc.{arc_value}
use Rattle.mark_core.specs.declared.kinds.Event.{Event}
use Rattle.gc_table.specs.Log.{all_steps}
use Rattle.gc_table.specs.Past.{log_of}
use Rattle.gc_table.specs.Seats.{view_of}
use Rattle.gc_table.specs.declared.view.Entry.{Entry}
use Rattle.gc_table.specs.declared.words.Words.{Words}
use Rattle.gc_table.specs.RunWorlds.{WorldObject, object_of}
use Rattle.gc_table.specs.Sharing.{heap_after_events}
use Rattle.gc_table.specs.Single.{is_inside, leaves_values, made_count, raises, takes_turns, won_count}
use Rattle.seat_turns.specs.declared.background.Tracer.{Tracer}
use Rattle.shared_heap.specs.Closing.{IsSharedEnd, all_seats}
use Rattle.shared_heap.specs.Threads.{IsWhole}
use Rattle.shared_heap.specs.declared.mutator.SharedMutator.{SharedMutator}
use Rattle.shared_heap.specs.declared.world.SharedWorld.{SharedWorld}

-- these events make no object, and change no value but by exchanges
pub record OnlyExchanges (fields : ℕ) (es : List Entry) : Type 0 where
  pub made : made_count fields es ≡ 0
  pub values : IsTrue (all_steps (leaves_values fields) es)

-- the log of each of these mutators is so
abbrev pub EachLog : (List Entry → Type 0) → List SharedMutator → Type 0
EachLog P ms = (i : ℕ) (m : SharedMutator) → slice_get ms i ≡ Some m → P (view_of m.seat).log

-- how many exchanges of values the logs of these mutators have that were won
abbrev pub won_by : List SharedMutator → ℕ
won_by [] = 0
won_by (m ∷ ms) = won_count (view_of m.seat).log + won_by ms

-- if the mutators of a closed world made no object and changed values only by exchanges of a number for the next, the root's value at the end is the number of exchanges that their logs say were won
abbrev pub CounterClosed : Type 0
CounterClosed =
    (world : SharedWorld) (mutators : List SharedMutator) (tracers : List Tracer) (w : Words) (end : IsSharedEnd world mutators tracers w) (es : List Event)
    (whole : IsWhole (arc_value world.heap).shape (all_seats world end.rest tracers) w es)
    → EachLog (OnlyExchanges (arc_value world.heap).shape.fields) mutators → EachLog (λ l. IsTrue (all_steps raises l)) mutators
    → (root : WorldObject) → object_of (heap_after_events (arc_value world.heap).shape es (length es)) whole.root ≡ Some root → root.value ≡ won_by mutators

-- the value of the object to which this word refers
abbrev pub value_at : List ℕ → ℕ → Option ℕ
value_at values word = if word == 0 then None else slice_get values (word - 1)

-- the value of the root, as the words have it
abbrev pub root_value_of : Words → Option ℕ
root_value_of w = value_at w.values.items (slice_index_or w.roots.items 0 0)

-- so is the value that the words of the closed world have there
abbrev pub CounterRead : Type 0
CounterRead =
    (world : SharedWorld) (mutators : List SharedMutator) (tracers : List Tracer) (w : Words) → IsSharedEnd world mutators tracers w
    → EachLog (OnlyExchanges (arc_value world.heap).shape.fields) mutators → EachLog (λ l. IsTrue (all_steps raises l)) mutators → (n : ℕ) → root_value_of w ≡ Some n → n ≡ won_by mutators

-- if they made no object, and each that was outside only tried to exchange 0 for 1, and each that came in only 1 for 0, no two are inside, after whatever number of events
abbrev pub LockClosed : Type 0
LockClosed =
    (world : SharedWorld) (mutators : List SharedMutator) (tracers : List Tracer) (w : Words) (end : IsSharedEnd world mutators tracers w) (es : List Event)
    (whole : IsWhole (arc_value world.heap).shape (all_seats world end.rest tracers) w es)
    → EachLog (OnlyExchanges (arc_value world.heap).shape.fields) mutators → EachLog (λ l. IsTrue (takes_turns false l)) mutators
    → (k i j : ℕ) → IsTrue (is_inside false (log_of (arc_value world.heap).shape (take k es) i)) → IsTrue (is_inside false (log_of (arc_value world.heap).shape (take k es) j)) → i ≡ j
