-- A seat of a heap.
use Rattle.std.specs.Prelude.{ℕ, ◌≡◌, List, [], IsTrue, IsFalse}
use Rattle.plain_heap.specs.declared.operation.Op.{Op}
use Rattle.plain_heap.specs.PlainStep.{heap_after}
use Rattle.gc_table.specs.PlainSteps.{Asks}
use Rattle.gc_table.specs.Sections.{seen_by, start_section}
use Rattle.mark_core.specs.Seats.{is_bare}
use Rattle.mark_core.specs.Start.{start_seat}
use Rattle.mark_core.specs.declared.kinds.Shape.{Shape}
use Rattle.mark_core.specs.Effects.{written}
use Rattle.mark_core.specs.declared.kinds.Event.{Event}
use Rattle.mark_core.specs.declared.kinds.Step.{Step}
use Rattle.mark_core.specs.declared.seat.SeatState.{SeatState}
use Rattle.gc_table.specs.Log.{events}
use Rattle.gc_table.specs.declared.view.Entry.{Entry}
use Rattle.gc_table.specs.Taking.{after, Finds}
use Rattle.gc_table.specs.declared.view.View.{View}
use Rattle.gc_table.specs.declared.seat.Heap.{Heap}
use Rattle.gc_table.specs.declared.seat.HeapSeat.{HeapSeat}

-- what the seat knows
abbrev pub view_of : HeapSeat → View
view_of s = s.token.me.0.view

-- what the seat has seen of what happened
abbrev pub seen_of : HeapSeat → List Event
seen_of s = s.token.me.0.seen

-- the seat's record
abbrev pub state_of : HeapSeat → SeatState
state_of s = (view_of s).state

-- what a call made of the seat, told by what the seat knew before it and knows after it
abbrev pub Across : (View → View → Type 0) → HeapSeat → HeapSeat → Type 0
Across R s t = R (view_of s) (view_of t)

-- what the seat did from the one to the other
abbrev pub did : HeapSeat → HeapSeat → List Entry
did s t = events (view_of s) (view_of t)

-- the seat is one of the heap's
abbrev pub Sits : Heap → HeapSeat → Type 0
Sits h s = (s.token.table_id ≡ h.table.shared.table_id) × (s.token.me.0.view.shape ≡ h.shape)

-- one step was taken, which found this word
abbrev pub Found : Step → ℕ → View → View → Type 0
Found step n v w = (w ≡ after step n v) × Finds step n v

-- one step was taken
abbrev pub Took : Step → View → View → Type 0
Took step v w = (n : ℕ) × Found step n v w

-- one step was taken, and of the word that it found this is true
abbrev pub Answered : Step → (ℕ → Type 0) → View → View → Type 0
Answered step P v w = (n : ℕ) × (w ≡ after step n v) × Finds step n v × P n

-- one step was taken, which stored its word whatever was there
abbrev pub Stored : Step → View → View → Type 0
Stored step v w = w ≡ after step (written v.shape v.state step 0) v

-- the seat i has done nothing yet
pub record IsFresh (sh : Shape) (plan : List (List Op)) (i : ℕ) (v : View) : Type 0 where
  pub shape : v.shape ≡ sh
  pub state : v.state ≡ start_seat sh i
  pub log : v.log ≡ []
  pub known : v.known ≡ []
  pub floors : v.floors ≡ []
  pub plan_is : v.plan ≡ plan
  pub own : v.own ≡ start_section sh i
  pub joined : v.joined ≡ []
  pub logs : v.logs ≡ []

-- the seat is outside the world, its stop and its help
abbrev pub IsOutside : View → Type 0
IsOutside v = IsTrue (is_bare v.state)

-- the store was one plain step: each that could be meant by it
abbrev pub IsPlainStep : Step → View → View → Type 0
IsPlainStep step v w =
    IsFalse v.shape.sharing → (op : Op) → Asks v.state v.own.meaning (seen_by v.shape v.plan v.state) step op → w.own.meaning.heap ≡ heap_after v.own.meaning.heap (seen_by v.shape v.plan v.state) op
