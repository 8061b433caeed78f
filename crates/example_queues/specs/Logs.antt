-- What each mutator adds to its log. The queue is the root, to which variable 0 of each refers.
use Rattle.std.specs.Prelude.{ℕ, ◌≡◌, List, Bool, Option, IsTrue, length}
use Rattle.std.specs.Arc.{arc_value}
use Rattle.gc_table.specs.Log.{all_steps}
use Rattle.gc_table.specs.Seats.{state_of}
use Rattle.gc_table.specs.declared.view.Entry.{Entry}
use Rattle.heap_laws.specs.Lent.{holds_lent}
use Rattle.queue_laws.specs.LentQueues.{LaysOut, keeps_objects}
use Rattle.shared_heap.specs.Calls.{field_count_of}
use Rattle.shared_heap.specs.Logs.{Adds}
use Rattle.shared_heap.specs.declared.mutator.Place.TheVariants.{Outside}
use Rattle.shared_heap.specs.declared.mutator.SharedMutator.{SharedMutator}
use Rattle.example_structures.specs.Carrying.{Carries}
use Rattle.example_structures.specs.Fitting.{AddsFitting, hands}
use Rattle.example_structures.specs.Queues.{Moves}

-- these events let variable 0 refer to what section 0 lends, and change no object
pub record ComesToRoot (es : List Entry) : Type 0 where
  pub lent : (r : Option ℕ) (b : Bool) → IsTrue (holds_lent 0 0 r b es)
  pub keeps : IsTrue (all_steps keeps_objects es)

-- so did the mutator; and its log tells what its variables refer to
pub record Comes (x y : SharedMutator) : Type 0 where
  pub adds : Adds ComesToRoot x y
  pub told : AddsFitting 1 x y
  pub number : (state_of y.seat).number ≡ (state_of x.seat).number

-- the mutator had the root before it made anything, then both its fields became a node that it made; it is outside
pub record LaysRoot (x y : SharedMutator) : Type 0 where
  pub adds : Adds (λ es. LaysOut (field_count_of x) 0 (hands 0) es) x y
  pub outside : y.place ≡ Outside
  pub number : (state_of y.seat).number ≡ (state_of x.seat).number

-- the mutator changed no object; it is outside
pub record LetsGo (x y : SharedMutator) : Type 0 where
  pub adds : Adds (λ es. IsTrue (all_steps keeps_objects es)) x y
  pub outside : y.place ≡ Outside

-- the mutator put these numbers in and took as many out, which are those; and all that it did fits a queue
pub record Works (puts takes : List ℕ) (x y : SharedMutator) : Type 0 where
  pub each : length takes ≡ length puts
  pub moves : Moves 0 (length puts) (length takes) x y
  pub fits : AddsFitting 0 x y
  pub numbers : Carries 0 puts takes x y
  pub world : arc_value y.heap ≡ arc_value x.heap
