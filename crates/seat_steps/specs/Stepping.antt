-- What a mutator is told that doesn't wait.
use Rattle.std.specs.Prelude.{ℕ, ◌+◌, ◌≡◌, ◌≤◌, ◌<◌, length, Bool, true, false, IsTrue}
use Rattle.std.specs.Arc.{arc_value}
use Rattle.mark_core.specs.Numbers.{section_variables}
use Rattle.plain_heap.specs.PlainHeap.{Heap as PlainHeap}
use Rattle.plain_heap.specs.PlainStep.{IsInRange}
use Rattle.plain_heap.specs.declared.operation.Op.{Op}
use Rattle.plain_heap.specs.declared.operation.Op.TheVariants as ops
use Rattle.gc_table.specs.Seats.{Across, view_of}
use Rattle.mutator_ops.specs.Few.{AtMost, most_steps}
use Rattle.seat_turns.specs.Coming.{FlushesFirst, LeavesTurn}
use Rattle.seat_turns.specs.Sharing.{LeavesHeap}
use Rattle.seat_turns.specs.Standing.{flush_steps, plain_of}
use Rattle.seat_steps.specs.Doing.{Does, FindsNone, FindsSome}
use Rattle.seat_steps.specs.Causes.{EntersBy, EntersFreely, MakesBy, MakesFreely, PassesBy, PassesFreely}
use Rattle.seat_steps.specs.declared.came.Came.{Came}
use Rattle.seat_steps.specs.declared.came.Came.TheVariants as cames
use Rattle.seat_steps.specs.declared.stepper.Stage.{Stage}
use Rattle.seat_steps.specs.declared.stepper.Stage.TheVariants.{Inside, Outside}
use Rattle.seat_steps.specs.declared.stepper.Stepper.{Stepper}

-- the plain heap of a stepper
abbrev pub heap_of_stepper : Stepper → PlainHeap
heap_of_stepper m = plain_of m.seat

-- how many references an object has
abbrev pub fields_in : Stepper → ℕ
fields_in m = (arc_value m.heap).shape.fields

-- the mutators of its world share their objects
abbrev pub shares : Stepper → Bool
shares m = (arc_value m.heap).shape.sharing

-- the stepper is between two steps of a collection of its own
abbrev pub is_collecting : Stage → Bool
is_collecting Inside = false
is_collecting Outside = false
is_collecting stage = true

-- what its last collection was to be, and what that has counted, is as it was
pub record KeepsCycle (x y : Stepper) : Type 0 where
  pub precise : y.precise ≡ x.precise
  pub exact : y.exact ≡ x.exact
  pub again : y.again ≡ x.again
  pub shared : y.shared ≡ x.shared
  pub freed : y.freed ≡ x.freed
  pub traced : y.traced ≡ x.traced
  pub cleaned : y.cleaned ≡ x.cleaned
  pub rescanned : y.rescanned ≡ x.rescanned
  pub counted : y.counted ≡ x.counted
  pub next : y.next ≡ x.next

-- neither the objects nor the variables changed, no step was taken that a plain heap sees, and the stepper is of the same world and tells of the same collection
pub record KeepsHeap (x y : Stepper) : Type 0 where
  pub heap : heap_of_stepper y ≡ heap_of_stepper x
  pub leaves : Across LeavesHeap x.seat y.seat
  pub world : arc_value y.heap ≡ arc_value x.heap
  pub name_is : y.name ≡ x.name
  pub stops : y.in_stops ≡ x.in_stops
  pub cycle : KeepsCycle x y

-- its search for a free cell stands where it stood
pub record KeepsPlace (x y : Stepper) : Type 0 where
  pub block : y.block ≡ x.block
  pub seen : y.seen ≡ x.seen

-- and it has counted what it paid as before
pub record KeepsSearch (x y : Stepper) : Type 0 where
  pub paid_is : y.paid ≡ x.paid
  pub block : y.block ≡ x.block
  pub seen : y.seen ≡ x.seen

-- all is kept but what it tells of its collection
pub record KeepsRest (x y : Stepper) : Type 0 where
  pub heap : heap_of_stepper y ≡ heap_of_stepper x
  pub leaves : Across LeavesHeap x.seat y.seat
  pub world : arc_value y.heap ≡ arc_value x.heap
  pub name_is : y.name ≡ x.name
  pub stops : y.in_stops ≡ x.in_stops
  pub search : KeepsSearch x y

-- all of it is kept
pub record KeepsAll (x y : Stepper) : Type 0 where
  pub heap : heap_of_stepper y ≡ heap_of_stepper x
  pub leaves : Across LeavesHeap x.seat y.seat
  pub world : arc_value y.heap ≡ arc_value x.heap
  pub name_is : y.name ≡ x.name
  pub stops : y.in_stops ≡ x.in_stops
  pub search : KeepsSearch x y
  pub cycle : KeepsCycle x y

-- one operation was done by a stepper inside the world, and nothing else
pub record StepperDoes (op : Op) (x y : Stepper) : Type 0 where
  pub range : IsInRange (fields_in x) op
  pub was : x.stage ≡ Inside
  pub inside : y.stage ≡ Inside
  pub does : Does op (arc_value x.heap) x.seat y.seat
  pub world : arc_value y.heap ≡ arc_value x.heap
  pub name_is : y.name ≡ x.name
  pub stops : y.in_stops ≡ x.in_stops
  pub cycle : KeepsCycle x y

-- the call took this many steps at most as the operation may
abbrev pub TakesFew : Op → Stepper → Stepper → Type 0
TakesFew op x y = Across (AtMost (most_steps (fields_in x) op)) x.seat y.seat

-- what an operation came to: it was done, or the stepper is as it was
abbrev pub Operates : Came → Op → Stepper → Stepper → Type 0
Operates cames.Done op x y = StepperDoes op x y × TakesFew op x y × KeepsSearch x y
Operates cames.OutOfRange op x y = (IsInRange (fields_in x) op → ⊥) × (y ≡ x)
Operates cames.Outside op x y = (x.stage ≡ Outside) × (y ≡ x)
Operates cames.Collecting op x y = IsTrue (is_collecting x.stage) × (y ≡ x)
Operates c op x y = ⊥

-- what making an object came to: besides, no cell was free, or the stepper is spent, or it left, as a stop is under way or the heap is full
abbrev pub StepperMakes : Came → Op → Stepper → Stepper → Type 0
StepperMakes cames.Done op x y = StepperDoes op x y × Across MakesFreely x.seat y.seat × KeepsPlace x y
StepperMakes cames.OutOfRange op x y = (IsInRange (fields_in x) op → ⊥) × (y ≡ x)
StepperMakes cames.Outside op x y = (x.stage ≡ Outside) × (y ≡ x)
StepperMakes cames.Collecting op x y = IsTrue (is_collecting x.stage) × (y ≡ x)
StepperMakes cames.NoCell op x y = Across (MakesBy cames.NoCell) x.seat y.seat × (x.stage ≡ Inside) × (y.stage ≡ Inside) × KeepsHeap x y × KeepsPlace x y
StepperMakes cames.Spent op x y = ((arc_value x.heap).shape.objects ≤ length (heap_of_stepper x).objects) × (x.stage ≡ Inside) × (y ≡ x)
StepperMakes cames.Stopped op x y = Across (MakesBy cames.Stopped) x.seat y.seat × (x.stage ≡ Inside) × (y.stage ≡ Outside) × KeepsHeap x y × KeepsPlace x y
StepperMakes cames.Full op x y = Across (MakesBy cames.Full) x.seat y.seat × (x.stage ≡ Inside) × (y.stage ≡ Outside) × KeepsHeap x y × KeepsPlace x y
StepperMakes c op x y = ⊥

-- what entering did, by where the stepper was
abbrev pub EntersFrom : Stage → Stepper → Stepper → Type 0
EntersFrom Inside x y = y ≡ x
EntersFrom Outside x y = Across EntersFreely x.seat y.seat
EntersFrom stage x y = ⊥

-- what entering came to
abbrev pub Entered : Came → Stepper → Stepper → Type 0
Entered cames.Done x y = EntersFrom x.stage x y × (y.stage ≡ Inside) × KeepsAll x y
Entered cames.Stopped x y = Across (EntersBy cames.Stopped) x.seat y.seat × (x.stage ≡ Outside) × (y.stage ≡ Outside) × KeepsAll x y
Entered cames.Full x y = Across (EntersBy cames.Full) x.seat y.seat × (x.stage ≡ Outside) × (y.stage ≡ Outside) × KeepsAll x y
Entered cames.Collecting x y = IsTrue (is_collecting x.stage) × (y ≡ x)
Entered c x y = ⊥

-- what leaving did, by where the stepper was
abbrev pub LeavesFrom : Stage → Stepper → Stepper → Type 0
LeavesFrom Inside x y = Across (FlushesFirst LeavesTurn) x.seat y.seat × Across (AtMost (flush_steps (view_of x.seat) + 5)) x.seat y.seat
LeavesFrom Outside x y = y ≡ x
LeavesFrom stage x y = ⊥

-- what leaving came to
abbrev pub Left : Came → Stepper → Stepper → Type 0
Left cames.Done x y = LeavesFrom x.stage x y × (y.stage ≡ Outside) × KeepsAll x y
Left cames.Collecting x y = IsTrue (is_collecting x.stage) × (y ≡ x)
Left c x y = ⊥

-- what a safe point came to
abbrev pub Passed : Came → Stepper → Stepper → Type 0
Passed cames.Done x y = Across PassesFreely x.seat y.seat × (x.stage ≡ Inside) × (y.stage ≡ Inside) × KeepsAll x y
Passed cames.Stopped x y = Across (PassesBy cames.Stopped) x.seat y.seat × (x.stage ≡ Inside) × (y.stage ≡ Outside) × KeepsAll x y
Passed cames.Outside x y = (x.stage ≡ Outside) × (y ≡ x)
Passed cames.Full x y = Across (PassesBy cames.Full) x.seat y.seat × (x.stage ≡ Inside) × (y.stage ≡ Outside) × KeepsAll x y
Passed cames.Collecting x y = IsTrue (is_collecting x.stage) × (y ≡ x)
Passed c x y = ⊥

-- the stepper was inside the world and is, and it is the same world
pub record StaysInside (x y : Stepper) : Type 0 where
  pub was : x.stage ≡ Inside
  pub inside : y.stage ≡ Inside
  pub world : arc_value y.heap ≡ arc_value x.heap
  pub name_is : y.name ≡ x.name
  pub stops : y.in_stops ≡ x.in_stops
  pub search : KeepsSearch x y
  pub cycle : KeepsCycle x y

-- what reading a value came to: it was read, or what is to hold it is as it was
abbrev pub ReadsValue : Came → ℕ → Stepper → Stepper → ℕ → ℕ → Type 0
ReadsValue cames.Done v x y before after = FindsSome v after (arc_value x.heap) x.seat y.seat × TakesFew (ops.Say v) x y × (v < section_variables) × StaysInside x y
ReadsValue cames.Nil v x y before after = FindsNone v (arc_value x.heap) x.seat y.seat × TakesFew (ops.Say v) x y × (v < section_variables) × StaysInside x y × (after ≡ before)
ReadsValue cames.OutOfRange v x y before after = (v < section_variables → ⊥) × (y ≡ x) × (after ≡ before)
ReadsValue cames.Outside v x y before after = (x.stage ≡ Outside) × (y ≡ x) × (after ≡ before)
ReadsValue cames.Collecting v x y before after = IsTrue (is_collecting x.stage) × (y ≡ x) × (after ≡ before)
ReadsValue c v x y before after = ⊥
