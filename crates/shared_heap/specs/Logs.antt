-- What the thread of a mutator adds to its log, from one of its calls to another. By it a program of several threads is told.
use Rattle.std.specs.Prelude.{ℕ, ◌≡◌, ◌++◌, List, Bool, true, false, IsTrue}
use Rattle.std.specs.Arc.{arc_value}
use Rattle.mark_core.specs.declared.kinds.Step.{Step}
use Rattle.mark_core.specs.declared.kinds.Step.TheVariants.{ExchangeValue, StoreNew, StoreValue}
use Rattle.gc_table.specs.Log.{all_steps}
use Rattle.gc_table.specs.Seats.{view_of}
use Rattle.gc_table.specs.declared.view.Entry.{Entry}
use Rattle.gc_table.specs.Single.{is_inside, raises, takes_turns, won_count}
use Rattle.shared_heap.specs.Calls.{field_count_of}
use Rattle.shared_heap.specs.Counting.{OnlyExchanges}
use Rattle.shared_heap.specs.declared.mutator.SharedMutator.{SharedMutator}

-- from the one to the other the mutator added events to its log of which this is so; its heap is the same
pub record Adds (P : List Entry → Type 0) (x y : SharedMutator) : Type 0 where
  pub heap : arc_value y.heap ≡ arc_value x.heap
  pub more : List Entry
  pub log : (view_of y.seat).log ≡ (view_of x.seat).log ++ more
  pub are : P more

-- the step stores no word of a new object, and stores or exchanges no value
abbrev pub is_quiet : Step → Bool
is_quiet (StoreNew c part word) = false
is_quiet (StoreValue v n) = false
is_quiet (ExchangeValue v m n) = false
is_quiet step = true

-- the mutator made no object and changed no value
abbrev pub AddsQuiet : SharedMutator → SharedMutator → Type 0
AddsQuiet = Adds (λ es. IsTrue (all_steps is_quiet es))

-- these events make no object and change values only by exchanges of a number for the next, of which this many were won
pub record Raises (fields n : ℕ) (es : List Entry) : Type 0 where
  pub only : OnlyExchanges fields es
  pub raises : IsTrue (all_steps raises es)
  pub won : won_count es ≡ n

-- so did the mutator
abbrev pub AddsRaises : ℕ → SharedMutator → SharedMutator → Type 0
AddsRaises n x y = Adds (Raises (field_count_of x) n) x y

-- these events make no object and change values only by exchanges, of 0 for 1 while the seat is outside the lock, and of 1 for 0 while it is inside; this many were
-- won. Before them it was inside or not, and after them it is or not
pub record Locks (fields : ℕ) (was is : Bool) (n : ℕ) (es : List Entry) : Type 0 where
  pub only : OnlyExchanges fields es
  pub turns : IsTrue (takes_turns was es)
  pub inside : is_inside was es ≡ is
  pub won : won_count es ≡ n

-- so did the mutator
abbrev pub AddsLocks : Bool → Bool → ℕ → SharedMutator → SharedMutator → Type 0
AddsLocks was is n x y = Adds (Locks (field_count_of x) was is n) x y
