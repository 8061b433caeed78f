-- What is so of a closed world in which two threads shared a queue.
use Rattle.std.specs.Prelude.{ℕ, ◌≡◌, ◌≤◌, List, [], ◌∷◌, ◌++◌, None, length}
use Rattle.std.specs.Arc.{arc_value}
use Rattle.plain_heap.specs.Paths.{Name}
use Rattle.mark_core.specs.declared.kinds.Event.{Event}
use Rattle.mark_core.specs.declared.kinds.Shape.{Shape}
use Rattle.gc_table.specs.AgreementLaws.{HasReference}
use Rattle.gc_table.specs.Past.{log_of}
use Rattle.gc_table.specs.Seats.{view_of}
use Rattle.gc_table.specs.declared.words.Words.{Words}
use Rattle.queue_laws.specs.LentQueues.{core_past, heap_past}
use Rattle.queue_laws.specs.Orders.{IsInOrder, Was}
use Rattle.queue_laws.specs.Queues.{Queue, by_seat, heap_at, puts, takes}
use Rattle.shared_heap.specs.Closing.{IsSharedEnd, all_seats}
use Rattle.shared_heap.specs.Threads.{IsWhole}
use Rattle.shared_heap.specs.declared.mutator.SharedMutator.{SharedMutator}
use Rattle.shared_heap.specs.declared.world.SharedWorld.{SharedWorld}
use Rattle.example_structures.specs.Queues.{Moves}
use Rattle.example_queues.specs.Fifo.{IsFifo, numbers_of}

-- after the first of these events the object of this name is a queue: first in, first out, after each number of the rest
pub record IsFirstInFirstOut (sh : Shape) (past rest : List Event) (name : Name) : Type 0 where
  pub queue : Queue
  pub object : queue.object ≡ name
  pub order : (k : ℕ) → k ≤ length rest → IsInOrder queue (core_past sh past) (heap_past sh past) rest k
  -- and whoever finds nothing behind a node that was the first finds the queue empty
  pub empty : (k : ℕ) → k ≤ length rest → (node : Name) → Was (core_past sh past) (heap_past sh past) rest k name 0 node → HasReference (heap_at (core_past sh past) (heap_past sh past) rest k) node 0 None
      → length (takes queue (core_past sh past) (heap_past sh past) rest k) ≡ length (puts queue (core_past sh past) (heap_past sh past) rest k)

-- from what it had done by then on, the mutator of seat i put these numbers in and took as many out, which are those: they are those of its nodes in the queue's order
pub record WorkedSince (sh : Shape) (past rest : List Event) (q : Queue) (i : ℕ) (puts_in takes_out : List ℕ) (m : SharedMutator) : Type 0 where
  pub before : SharedMutator
  pub log : (view_of before.seat).log ≡ log_of sh past i
  pub each : length takes_out ≡ length puts_in
  pub moves : Moves 0 (length puts_in) (length takes_out) before m
  pub put : numbers_of (by_seat i (puts q (core_past sh past) (heap_past sh past) rest (length rest))) ≡ puts_in
  pub taken : numbers_of (by_seat i (takes q (core_past sh past) (heap_past sh past) rest (length rest))) ≡ takes_out

-- the words are the end of one run of three mutators and nobody else; at some moment the queue was laid out, and from then on the first two used it: they put the first
-- two lists of numbers in, and took the other two out, first in, first out
pub record IsQueued (put_first put_second taken_first taken_second : List ℕ) (w : Words) : Type 0 where
  pub fifo : IsFifo put_first put_second taken_first taken_second
  -- each took as many as it put in: so nothing is left
  pub all : fifo.left ≡ []
  pub world : SharedWorld
  pub first : SharedMutator
  pub second : SharedMutator
  pub maker : SharedMutator
  pub ended : IsSharedEnd world (first ∷ second ∷ maker ∷ []) [] w
  pub past : List Event
  pub rest : List Event
  pub whole : IsWhole (arc_value world.heap).shape (all_seats world ended.rest []) w (past ++ rest)
  pub order : IsFirstInFirstOut (arc_value world.heap).shape past rest whole.root
  pub first_worked : WorkedSince (arc_value world.heap).shape past rest order.queue 1 put_first taken_first first
  pub second_worked : WorkedSince (arc_value world.heap).shape past rest order.queue 2 put_second taken_second second
