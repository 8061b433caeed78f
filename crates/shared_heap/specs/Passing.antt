-- A safe point of a mutator of a shared world, and the way to a new object.
use Rattle.std.specs.Prelude.{ℕ, ◌≤◌, ◌⊎◌, length, false}
use Rattle.mark_core.specs.declared.kinds.Shape.{Shape}
use Rattle.gc_table.specs.Rule.{KnowsFull}
use Rattle.gc_table.specs.Seats.{view_of}
use Rattle.gc_table.specs.declared.seat.Heap.{Heap}
use Rattle.gc_table.specs.declared.seat.HeapSeat.{HeapSeat}
use Rattle.gc_table.specs.declared.view.View.{View}
use Rattle.seat_turns.specs.Coming.{EntersFull, EntersTurn, FlushesFirst, MakesNoneAtTurn, MakesSharedAtTurn}
use Rattle.seat_turns.specs.Sharing.{MakesShared}
use Rattle.seat_turns.specs.Standing.{HoldsTurn, IsMutatorOutside, plain_of}
use Rattle.seat_turns.specs.declared.refused.Refused.{Refused}
use Rattle.seat_turns.specs.declared.refused.Refused.TheVariants as refusals
use Rattle.seat_steps.specs.Causes.{PassesBy, PassesFreely}
use Rattle.seat_steps.specs.declared.came.Came.TheVariants as cames

-- the seat found a stop, stored the roots that lagged and left, and this was done then
pub record LeavesFirst (R : View → View → Type 0) (v w : View) : Type 0 where
  pub left : View
  pub leaves : PassesBy cames.Stopped v left
  pub later : R left w

-- a safe point: nothing hindered the seat, which only looked; or it found a stop, left, and came in again
abbrev pub Passes : View → View → Type 0
Passes v w = PassesFreely v w ⊎ LeavesFirst EntersTurn v w

-- the heap was found full, by the look, or on the way in again
abbrev pub FindsFull : View → View → Type 0
FindsFull v w = PassesBy cames.Full v w ⊎ LeavesFirst EntersFull v w

-- a safe point, and then this
pub record PassesFirst (R : View → View → Type 0) (v w : View) : Type 0 where
  pub passed : View
  pub passes : Passes v passed
  pub later : R passed w

-- an object with value n was made, to which variable u refers: of a cell of the cache; or the roots that lagged were stored, and a cell was looked for
abbrev pub MakesOn : Shape → ℕ → ℕ → View → View → Type 0
MakesOn sh u n v w = MakesShared u n v w ⊎ FlushesFirst (MakesSharedAtTurn sh u n) v w

-- so after a safe point
abbrev pub MakesAfter : Shape → ℕ → ℕ → View → View → Type 0
MakesAfter sh u n v w = PassesFirst (MakesOn sh u n) v w

-- why none was made
abbrev pub MakesNoneAfter : Refused → Shape → View → View → Type 0
MakesNoneAfter e sh v w = FindsFull v w ⊎ PassesFirst (FlushesFirst (MakesNoneAtTurn e false sh)) v w

-- where the mutator is then: outside, as the heap is full; or at its turn, as its section has made all its objects
abbrev pub IsLeftSo : Refused → Heap → HeapSeat → Type 0
IsLeftSo refusals.Full h s = IsMutatorOutside h s × KnowsFull (view_of s)
IsLeftSo refusals.Spent h s = HoldsTurn h s × (h.shape.objects ≤ length (plain_of s).objects)
IsLeftSo e h s = ⊥
