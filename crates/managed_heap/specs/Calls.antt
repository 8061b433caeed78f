-- What a mutator's calls do, told over its plain heap.
use Rattle.std.specs.Prelude.{ℕ, ◌≡◌, ◌≤◌, ◌<◌, length, None, IsTrue}
use Rattle.std.specs.Arc.{arc_value}
use Rattle.mark_core.specs.Numbers.{section_variables}
use Rattle.plain_heap.specs.declared.operation.Op.{Op}
use Rattle.plain_heap.specs.PlainHeap.{Heap as PlainHeap}
use Rattle.plain_heap.specs.PlainStep.{IsInRange}
use Rattle.gc_table.specs.Rule.{KnowsFull}
use Rattle.gc_table.specs.Seats.{Across, did, view_of}
use Rattle.gc_table.specs.declared.seat.HeapSeat.{HeapSeat}
use Rattle.gc_table.specs.declared.view.View.{View}
use Rattle.gc_cycle.specs.Cycles.{collects}
use Rattle.seat_turns.specs.Coming.{EntersTurn, LeavesTurn}
use Rattle.seat_turns.specs.Plain.{Steps, value_in}
use Rattle.seat_turns.specs.Standing.{plain_of}
use Rattle.managed_heap.specs.declared.mutator.Mutator.{Mutator}
use Rattle.managed_heap.specs.declared.mutator.Place.{Place}
use Rattle.managed_heap.specs.declared.mutator.Place.TheVariants.{Inside, Outside}
use Rattle.seat_turns.specs.declared.refused.Refused.{Refused}
use Rattle.seat_turns.specs.declared.refused.Refused.TheVariants as refusals

-- the plain heap of a mutator: its objects by their numbers, and what each variable refers to
abbrev pub heap_of : Mutator → PlainHeap
heap_of m = plain_of m.seat

-- how many references an object has
abbrev pub field_count_of : Mutator → ℕ
field_count_of m = (arc_value m.heap).shape.fields

-- how many objects it makes at most
abbrev pub object_limit_of : Mutator → ℕ
object_limit_of m = (arc_value m.heap).shape.objects

-- the heap was found full, for good
abbrev pub IsFull : Mutator → Type 0
IsFull m = KnowsFull (view_of m.seat)

-- neither the objects nor the variables changed, and the mutator is of the same world
pub record IsSame (x y : Mutator) : Type 0 where
  pub heap : heap_of y ≡ heap_of x
  pub world : arc_value y.heap ≡ arc_value x.heap
  pub name_is : y.name ≡ x.name
  pub stops : y.in_stops ≡ x.in_stops

-- one operation was done by a mutator inside the world, and nothing else
pub record MutatorDoes (op : Op) (x y : Mutator) : Type 0 where
  pub range : IsInRange (field_count_of x) op
  pub was : x.place ≡ Inside
  pub inside : y.place ≡ Inside
  pub steps : Steps op (heap_of x) (heap_of y)
  pub world : arc_value y.heap ≡ arc_value x.heap
  pub name_is : y.name ≡ x.name
  pub stops : y.in_stops ≡ x.in_stops

-- why an operation isn't done: a number is out of range, or the mutator is outside
abbrev pub Refuses : Refused → Op → Mutator → Type 0
Refuses refusals.OutOfRange op x = IsInRange (field_count_of x) op → ⊥
Refuses refusals.Outside op x = x.place ≡ Outside
Refuses e op x = ⊥

-- the operation wasn't done, and nothing changed
pub record MutatorRefused (e : Refused) (op : Op) (x y : Mutator) : Type 0 where
  pub why : Refuses e op x
  pub same : IsSame x y
  pub seat : y.seat ≡ x.seat
  pub place : y.place ≡ x.place

-- why none was made: besides, the heap is full, and the mutator outside, or it has made all objects that have numbers
abbrev pub MakesNone : Refused → Op → Mutator → Mutator → Type 0
MakesNone refusals.OutOfRange op x y = (IsInRange (field_count_of x) op → ⊥) × (y.place ≡ x.place)
MakesNone refusals.Outside op x y = (x.place ≡ Outside) × (y.place ≡ Outside)
MakesNone refusals.Full op x y = IsFull y × (x.place ≡ Inside) × (y.place ≡ Outside)
MakesNone refusals.Spent op x y = (object_limit_of x ≤ length (heap_of x).objects) × (x.place ≡ Inside) × (y.place ≡ Inside)
MakesNone refusals.Nil op x y = ⊥

-- a call that was refused did nothing if a number is out of range or the mutator was outside, and else what R says
abbrev pub RefusedBy : (Refused → View → View → Type 0) → Refused → Mutator → Mutator → Type 0
RefusedBy R refusals.OutOfRange x y = y.seat ≡ x.seat
RefusedBy R refusals.Outside x y = y.seat ≡ x.seat
RefusedBy R e x y = Across (R e) x.seat y.seat

-- the mutator was inside the world and is, and nothing changed
pub record HasPassed (x y : Mutator) : Type 0 where
  pub was : x.place ≡ Inside
  pub inside : y.place ≡ Inside
  pub same : IsSame x y

-- the mutator collected: in a stop of its own a drain began in which no cell was marked, and after it the cycle ended
abbrev pub MutatorCollected : Mutator → Mutator → Type 0
MutatorCollected x y = IsTrue (collects (did x.seat y.seat))

-- the mutator was outside, or found the heap full and is outside now; nothing changed
abbrev pub StaysOut : Refused → Mutator → Mutator → Type 0
StaysOut refusals.Outside x y = (x.place ≡ Outside) × (y.place ≡ Outside) × IsSame x y
StaysOut refusals.Full x y = IsFull y × (x.place ≡ Inside) × (y.place ≡ Outside) × IsSame x y
StaysOut e x y = ⊥

-- the seat went in and to its turn; or nothing was done, if it was inside already
abbrev pub EntersFrom : Place → HeapSeat → HeapSeat → Type 0
EntersFrom Outside s t = Across EntersTurn s t
EntersFrom Inside s t = t ≡ s

-- the mutator entered, or was inside already; nothing changed
pub record MutatorEntered (x y : Mutator) : Type 0 where
  pub inside : y.place ≡ Inside
  pub enters : EntersFrom x.place x.seat y.seat
  pub same : IsSame x y

-- the mutator didn't enter, since the heap is full; nothing changed
abbrev pub CantEnter : Refused → Mutator → Mutator → Type 0
CantEnter refusals.Full x y = IsFull y × (x.place ≡ Outside) × (y.place ≡ Outside) × IsSame x y
CantEnter e x y = ⊥

-- the seat gave up its cache and left; or nothing was done, if it was outside already
abbrev pub LeavesFrom : Place → HeapSeat → HeapSeat → Type 0
LeavesFrom Outside s t = t ≡ s
LeavesFrom Inside s t = Across LeavesTurn s t

-- the mutator is outside; nothing changed
pub record MutatorLeft (x y : Mutator) : Type 0 where
  pub outside : y.place ≡ Outside
  pub leaves : LeavesFrom x.place x.seat y.seat
  pub same : IsSame x y

-- why no value is read: besides, the variable refers to nothing
abbrev pub ReadsNone : Refused → ℕ → Mutator → Type 0
ReadsNone refusals.OutOfRange v x = v < section_variables → ⊥
ReadsNone refusals.Outside v x = x.place ≡ Outside
ReadsNone refusals.Nil v x = (v < section_variables) × (x.place ≡ Inside) × (value_in (heap_of x) v ≡ None)
ReadsNone e v x = ⊥
