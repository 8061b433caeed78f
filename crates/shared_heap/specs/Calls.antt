-- What a call of a mutator whose world shares its objects does. A call is described by its events: the steps that it added to the log of its seat, with what each found.
use Rattle.std.specs.Prelude.{ℕ, ◌≡◌, ◌≤◌, ◌<◌, ◌-◌, IsTrue}
use Rattle.std.specs.Arc.{arc_value}
use Rattle.mark_core.specs.Numbers.{section_variables}
use Rattle.mark_core.specs.Steps.MutatorSteps.{seat_variable as word_in}
use Rattle.mark_core.specs.declared.kinds.Step.TheVariants.{ReadValue}
use Rattle.plain_heap.specs.PlainStep.{IsInRange}
use Rattle.plain_heap.specs.declared.operation.Op.{Op}
use Rattle.plain_heap.specs.declared.operation.Op.TheVariants as ops
use Rattle.gc_table.specs.Rule.{KnowsFull}
use Rattle.gc_table.specs.Seats.{Across, Found, did, state_of, view_of}
use Rattle.gc_table.specs.declared.seat.HeapSeat.{HeapSeat}
use Rattle.gc_table.specs.declared.view.View.{View}
use Rattle.gc_cycle.specs.Cycles.{collects}
use Rattle.mutator_ops.specs.Sharing.{LendsFound}
use Rattle.seat_turns.specs.Coming.{EntersTurn, FlushesFirst, LeavesTurn}
use Rattle.seat_turns.specs.Sharing.{LeavesHeap}
use Rattle.seat_turns.specs.declared.refused.Refused.{Refused}
use Rattle.seat_turns.specs.declared.refused.Refused.TheVariants as refusals
use Rattle.shared_heap.specs.declared.mutator.Place.{Place}
use Rattle.shared_heap.specs.declared.mutator.Place.TheVariants.{Inside, Outside}
use Rattle.shared_heap.specs.declared.mutator.SharedMutator.{SharedMutator}

-- how many references an object has
abbrev pub field_count_of : SharedMutator → ℕ
field_count_of m = (arc_value m.heap).shape.fields

-- how many objects it makes at most
abbrev pub object_limit_of : SharedMutator → ℕ
object_limit_of m = (arc_value m.heap).shape.objects

-- the call went so, from what the seat knew before to what it knows after: its numbers were in range; the mutator was inside and is
pub record SharerActs (range : Type 0) (P : View → View → Type 0) (x y : SharedMutator) : Type 0 where
  pub in_range : range
  pub was : x.place ≡ Inside
  pub inside : y.place ≡ Inside
  pub does : Across P x.seat y.seat
  pub world : arc_value y.heap ≡ arc_value x.heap
  pub name_is : y.name ≡ x.name

-- an operation went so
abbrev pub SharerDoes : (View → View → Type 0) → Op → SharedMutator → SharedMutator → Type 0
SharerDoes P op x y = SharerActs (IsInRange (field_count_of x) op) P x y

-- why a call isn't done: a number is out of range, or the mutator is outside
abbrev pub CantAct : Refused → Type 0 → SharedMutator → Type 0
CantAct refusals.OutOfRange range x = range → ⊥
CantAct refusals.Outside range x = x.place ≡ Outside
CantAct e range x = ⊥

-- the numbers of the operation are in range, and the mutator is inside
abbrev pub MayAsk : Op → SharedMutator → Type 0
MayAsk op x = IsInRange (field_count_of x) op × (x.place ≡ Inside)

-- why an operation isn't done
abbrev pub Refuses : Refused → Op → SharedMutator → Type 0
Refuses e op x = CantAct e (IsInRange (field_count_of x) op) x

-- a call that was refused did nothing if a number is out of range or the mutator was outside, and else what R says
abbrev pub RefusedBy : (View → View → Type 0) → Refused → SharedMutator → SharedMutator → Type 0
RefusedBy R refusals.OutOfRange x y = y ≡ x
RefusedBy R refusals.Outside x y = y ≡ x
RefusedBy R e x y = Across R x.seat y.seat

-- the call wasn't done: no step was taken
pub record ActRefused (e : Refused) (range : Type 0) (x y : SharedMutator) : Type 0 where
  pub why : CantAct e range x
  pub same : y ≡ x

-- the operation wasn't done: no step was taken
abbrev pub SharerRefused : Refused → Op → SharedMutator → SharedMutator → Type 0
SharerRefused e op x y = ActRefused e (IsInRange (field_count_of x) op) x y

-- no step was taken that a plain heap sees; the variables are as they were, and the mutator is of the same world
pub record IsSame (x y : SharedMutator) : Type 0 where
  pub leaves : Across LeavesHeap x.seat y.seat
  pub world : arc_value y.heap ≡ arc_value x.heap
  pub name_is : y.name ≡ x.name

-- the heap was found full, for good
abbrev pub IsFull : SharedMutator → Type 0
IsFull m = KnowsFull (view_of m.seat)

-- the seat went in and to its turn; or nothing was done, if it was inside already
abbrev pub EntersFrom : Place → HeapSeat → HeapSeat → Type 0
EntersFrom Outside s t = Across EntersTurn s t
EntersFrom Inside s t = t ≡ s

-- the mutator entered, or was inside already
pub record SharerEntered (x y : SharedMutator) : Type 0 where
  pub inside : y.place ≡ Inside
  pub enters : EntersFrom x.place x.seat y.seat
  pub same : IsSame x y

-- the mutator didn't enter, since the heap is full
abbrev pub CantEnter : Refused → SharedMutator → SharedMutator → Type 0
CantEnter refusals.Full x y = IsFull y × (x.place ≡ Outside) × (y.place ≡ Outside) × IsSame x y
CantEnter e x y = ⊥

-- the seat stored the roots that lagged, gave up its cache and left; or nothing was done, if it was outside already
abbrev pub LeavesFrom : Place → HeapSeat → HeapSeat → Type 0
LeavesFrom Outside s t = t ≡ s
LeavesFrom Inside s t = Across (FlushesFirst LeavesTurn) s t

-- the mutator is outside
pub record SharerLeft (x y : SharedMutator) : Type 0 where
  pub outside : y.place ≡ Outside
  pub leaves : LeavesFrom x.place x.seat y.seat
  pub same : IsSame x y

-- the mutator was inside the world and is
pub record HasPassed (x y : SharedMutator) : Type 0 where
  pub was : x.place ≡ Inside
  pub inside : y.place ≡ Inside
  pub same : IsSame x y

-- the mutator was outside, or found the heap full and is outside now
abbrev pub StaysOut : Refused → SharedMutator → SharedMutator → Type 0
StaysOut refusals.Outside x y = (x.place ≡ Outside) × (y ≡ x)
StaysOut refusals.Full x y = IsFull y × (x.place ≡ Inside) × (y.place ≡ Outside) × IsSame x y
StaysOut e x y = ⊥

-- the mutator collected: in a stop of its own a drain began in which no cell was marked, and after it the cycle ended
abbrev pub SharerCollected : SharedMutator → SharedMutator → Type 0
SharerCollected x y = IsTrue (collects (did x.seat y.seat))

-- why none was made: besides, the heap is full, and the mutator outside, or it has made all objects that have numbers
abbrev pub MakesNone : Refused → Op → SharedMutator → SharedMutator → Type 0
MakesNone refusals.OutOfRange op x y = (IsInRange (field_count_of x) op → ⊥) × (y ≡ x)
MakesNone refusals.Outside op x y = (x.place ≡ Outside) × (y ≡ x)
MakesNone refusals.Full op x y = IsFull y × (x.place ≡ Inside) × (y.place ≡ Outside) × IsSame x y
MakesNone refusals.Spent op x y = (object_limit_of x ≤ (state_of y.seat).made) × (x.place ≡ Inside) × (y.place ≡ Inside) × IsSame x y
MakesNone refusals.Nil op x y = ⊥

-- one read found this value in variable v's object
abbrev pub FindsValue : ℕ → ℕ → View → View → Type 0
FindsValue v n x y = (0 < word_in x.state v) × Found (ReadValue (word_in x.state v - 1)) n x y

-- why no value is read: besides, the variable refers to nothing
abbrev pub ReadsNone : Refused → ℕ → SharedMutator → SharedMutator → Type 0
ReadsNone refusals.OutOfRange v x y = (v < section_variables → ⊥) × (y ≡ x)
ReadsNone refusals.Outside v x y = (x.place ≡ Outside) × (y ≡ x)
ReadsNone refusals.Nil v x y = (v < section_variables) × (x.place ≡ Inside) × (y.place ≡ Inside) × (word_in (state_of x.seat) v ≡ 0) × IsSame x y
ReadsNone e v x y = ⊥

-- why the root isn't had: besides, the variable of section 0 was read, and found nil
abbrev pub HasNoRoot : Refused → ℕ → SharedMutator → SharedMutator → Type 0
HasNoRoot refusals.Nil w x y = SharerDoes (LendsFound w 0) (ops.Cat w 0) x y × (word_in (state_of y.seat) w ≡ 0)
HasNoRoot e w x y = SharerRefused e (ops.Cat w 0) x y
