-- What some of a trace's events did, and what is in hand between two steps.
use Rattle.std.specs.Prelude.{ℕ, ◌≡◌, List, ◌++◌, Bool, Option, Some, None, IsTrue, IsFalse}
use Rattle.mark_core.specs.Numbers.{deferred_pool_number}
use Rattle.mark_core.specs.Seats.{is_the, work_in_hand}
use Rattle.mark_core.specs.declared.kinds.Shape.{Shape}
use Rattle.gc_table.specs.declared.view.Entry.{Entry}
use Rattle.gc_table.specs.declared.view.View.{View}
use Rattle.packet_pools.specs.Seeking.{NoInput, input_pools, only_moves, was_got_from}
use Rattle.packet_pools.specs.Counts.{count_of, dirties}
use Rattle.gc_table.specs.Log.{events}
use Rattle.gc_table.specs.Running.{after_all}
use Rattle.tracer.specs.declared.packets.Packets.{Packets}
use Rattle.tracer.specs.Hands.{HasNoCell}
use Rattle.tracer.specs.Deferral.{waits, pops_waiting, defers}
use Rattle.tracer.specs.Tally.{pops, count_by, only_traces}

-- packet o, if there is one, had a deferred cell before these events, and q has one afterwards; this many cells were popped, deferred, and left to their cards
pub record Did (o q : Option ℕ) (popped deferrals lost : ℕ) (v : View) (es : List Entry) : Type 0 where
  pub waiting : (p : ℕ) → waits p v es (is_the o p) ≡ is_the q p
  pub kept : (p : ℕ) → IsFalse (pops_waiting p v es (is_the o p))
  pub undeferred : (p : ℕ) → IsFalse (was_got_from deferred_pool_number p es)
  pub done : count_of pops es ≡ popped
  pub deferred : count_by defers v es ≡ deferrals
  pub dirtied : count_of dirties es ≡ lost
  pub steps : IsTrue (only_traces es)

-- this cell was popped, and is all that is in hand
pub record HasPopped (cell : ℕ) (seen : Bool) (v : View) : Type 0 where
  pub popped : v.state.popped ≡ Some (cell, seen)
  pub others : IsFalse (work_in_hand v.shape.fields (record v.state { popped = None }))
  pub block : v.state.block ≡ None

-- no packet was taken, and nothing changed
pub record NothingTaken (sh : Shape) (x y : Packets) (v w : View) : Type 0 where
  pub packets : y ≡ x
  pub state : w.state ≡ v.state
  pub none : NoInput sh (events v w)
  pub moves : IsTrue (only_moves input_pools (events v w))

-- no packet was taken, and none in hand had a cell to trace
pub record NothingFound (sh : Shape) (x y : Packets) (v w : View) : Type 0 where
  pub taken : NothingTaken sh x y v w
  pub input : x.input.length ≡ 0
  pub output : HasNoCell x.output

-- the seat searched in vain at the end, while neither the input nor the output had a cell
pub record SearchedInVain (sh : Shape) (x : Packets) (v w : View) : Type 0 where
  pub before : List Entry
  pub search : List Entry
  pub all : events v w ≡ before ++ search
  pub none : NoInput sh search
  pub moves : IsTrue (only_moves input_pools search)
  pub state : (after_all before v).state ≡ w.state
  pub still : (o : Option ℕ) (p : ℕ) → waits p (after_all before v) search (is_the o p) ≡ is_the o p
  pub input : x.input.length ≡ 0
  pub output : HasNoCell x.output
