-- Threads that fill the two words of the root, and read them, while their world is open.
use Rattle.std.specs.Prelude.{ℕ, ◌≡◌, List, ◌++◌, IsFalse, IsTrue}
use mathlib.Core.Option.{some}
use lib.ListN.{get_elem?}
use Rattle.atomic_table.specs.Table.{State}
use Rattle.plain_heap.specs.declared.operation.Op.{Op}
use Rattle.mark_core.specs.declared.kinds.Shape.{Shape}
use Rattle.gc_table.specs.Lending.{stores_once}
use Rattle.gc_table.specs.Seen.{OneHistory, seats_of}
use Rattle.gc_table.specs.declared.view.Entry.{Entry}
use Rattle.gc_table.specs.declared.view.TokenState.{TokenState}
use Rattle.gc_table.specs.declared.view.View.{View}
use Rattle.example_orders.specs.Orders.{Contradict, OnlyFills}

-- the log is the beginning of one that takes nothing back
abbrev pub FillsSoFar : List Entry → Type 0
FillsSoFar log = (more : List Entry) × OnlyFills (log ++ more)

-- all seats are there; that of section 0 stored once at most in its variable 0, and no log takes anything back
abbrev pub AllFill : State (Unit {0}) TokenState → Type 0
AllFill s = (i : ℕ) (v : View) → get_elem? (seats_of s.views) i ≡ some v → IsFalse v.state.spent × (i ≡ 0 → IsTrue (stores_once 0 v.log)) × FillsSoFar v.log

-- at each moment of an open world of such threads, whichever two logs one takes, they don't contradict each other
abbrev pub OrdersOpen : Type 0
OrdersOpen =
    (sh : Shape) (plan : List (List Op)) (s : State (Unit {0}) TokenState) → OneHistory sh plan s → AllFill s
    → (i j : ℕ) (v w : View) → get_elem? (seats_of s.views) i ≡ some v → get_elem? (seats_of s.views) j ≡ some w → Contradict v.log w.log → ⊥
