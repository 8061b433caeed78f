-- What is so of a world in which two threads took a lock.
use Rattle.std.specs.Prelude.{ℕ, ◌≡◌, ◌+◌, List, [], ◌∷◌, false, IsTrue, take}
use Rattle.std.specs.Arc.{arc_value}
use Rattle.mark_core.specs.declared.kinds.Event.{Event}
use Rattle.gc_table.specs.Past.{log_of}
use Rattle.gc_table.specs.Seats.{view_of}
use Rattle.gc_table.specs.declared.words.Words.{Words}
use Rattle.gc_table.specs.Single.{is_inside, won_count}
use Rattle.shared_heap.specs.Closing.{IsSharedEnd, all_seats}
use Rattle.shared_heap.specs.Threads.{IsWhole}
use Rattle.shared_heap.specs.declared.mutator.SharedMutator.{SharedMutator}
use Rattle.shared_heap.specs.declared.world.SharedWorld.{SharedWorld}

-- the words are the end of one run of two mutators and nobody else, each of which took the lock this many times and left it as often; no two had it at once, after whatever number of its events
pub record IsAlone (n : ℕ) (w : Words) : Type 0 where
  pub world : SharedWorld
  pub first : SharedMutator
  pub second : SharedMutator
  pub ended : IsSharedEnd world (first ∷ second ∷ []) [] w
  pub past : List Event
  pub whole : IsWhole (arc_value world.heap).shape (all_seats world ended.rest []) w past
  pub visits : (won_count (view_of first.seat).log ≡ n + n) × (won_count (view_of second.seat).log ≡ n + n)
  pub alone : (k i j : ℕ) → IsTrue (is_inside false (log_of (arc_value world.heap).shape (take k past) i)) → IsTrue (is_inside false (log_of (arc_value world.heap).shape (take k past) j)) → i ≡ j
