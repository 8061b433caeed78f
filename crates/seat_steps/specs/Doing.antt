-- What one operation of a mutator at its turn does: in a heap where each section has objects of its own, and in one whose objects are shared.
use Rattle.std.specs.Prelude.{ℕ, ◌≡◌, ◌<◌, ◌-◌, ◌%◌, Bool, true, false, None, Some, IsFalse, IsTrue}
use Rattle.mark_core.specs.Steps.MutatorSteps.{seat_variable as word_in}
use Rattle.mark_core.specs.declared.kinds.Step.TheVariants.{ReadValue}
use Rattle.plain_heap.specs.PlainHeap.{variable}
use Rattle.plain_heap.specs.declared.object.Ref.TheVariants.{Nil}
use Rattle.plain_heap.specs.declared.operation.Op.{Op}
use Rattle.plain_heap.specs.declared.operation.Op.TheVariants as ops
use Rattle.gc_table.specs.Log.{events, steps_of}
use Rattle.gc_table.specs.Running.{Ran}
use Rattle.gc_table.specs.Seats.{Across, Found, state_of, view_of}
use Rattle.gc_table.specs.declared.seat.Heap.{Heap}
use Rattle.gc_table.specs.declared.seat.HeapSeat.{HeapSeat}
use Rattle.gc_table.specs.declared.view.View.{View}
use Rattle.mutator_ops.specs.Listing.{creating_steps}
use Rattle.mutator_ops.specs.Sharing.{LendsFound, SetsField, SetsVariable, TakesSteps, putting_steps}
use Rattle.seat_turns.specs.Operating.{TakesSteps as OwnSteps}
use Rattle.seat_turns.specs.Plain.{Steps, value_in}
use Rattle.seat_turns.specs.Sharing.{FollowsField, LeavesHeap, MakesShared, MakesSharedAfter}
use Rattle.seat_turns.specs.Standing.{plain_of}

-- what an operation does in a heap whose objects are shared: exactly these steps, and what they found
abbrev pub DoesShared : Op → View → View → Type 0
DoesShared (ops.New u n) v w = MakesSharedAfter u n v w
DoesShared (ops.Let u x) v w = SetsVariable u (word_in v.state x) v w
DoesShared (ops.Nil u) v w = SetsVariable u 0 v w
DoesShared (ops.Set u i x) v w = SetsField u i x v w
DoesShared (ops.Get u x i) v w = FollowsField u x i v w
DoesShared (ops.Put u n) v w = TakesSteps (putting_steps v.state u n) v w
DoesShared (ops.Cat u c) v w = LendsFound u c v w
DoesShared op v w = ⊥

-- an object was made in some cell, by exactly these steps
abbrev pub CreatesOwn : ℕ → ℕ → View → View → Type 0
CreatesOwn u n v w = (cell : ℕ) × (steps_of (events v w) ≡ creating_steps v.shape.fields v.state u n cell)

-- the seat came to a free cell, of which the plain heap sees nothing, and then made an object in it
pub record MakesOwnAfter (u n : ℕ) (v w : View) : Type 0 where
  pub came : View
  pub leaves : LeavesHeap v came
  pub ran : Ran came w
  pub creates : CreatesOwn u n came w

-- which steps an operation takes in a heap where each section has objects of its own
abbrev pub TakesOwn : Op → View → View → Type 0
TakesOwn (ops.New u n) v w = MakesOwnAfter u n v w
TakesOwn op v w = OwnSteps op v w

-- one operation was done: if objects aren't shared, that one of the section's plain heap, and by exactly its steps; if they are, by these steps
pub record Does (op : Op) (h : Heap) (x y : HeapSeat) : Type 0 where
  pub own : IsFalse h.shape.sharing → Steps op (plain_of x) (plain_of y)
  pub takes : IsFalse h.shape.sharing → Across (TakesOwn op) x y
  pub shared : IsTrue h.shape.sharing → Across (DoesShared op) x y

-- an object was made in a cell that the seat had: if objects aren't shared, in the section's plain heap; if they are, by the steps that make one
pub record MakesNow (u n : ℕ) (h : Heap) (x y : HeapSeat) : Type 0 where
  pub own : IsFalse h.shape.sharing → Steps (ops.New u n) (plain_of x) (plain_of y)
  pub takes : IsFalse h.shape.sharing → Across (CreatesOwn u n) x y
  pub shared : IsTrue h.shape.sharing → Across (MakesShared u n) x y

-- one read found this value in variable u's object
abbrev pub FindsValue : ℕ → ℕ → View → View → Type 0
FindsValue u n v w = (0 < word_in v.state u) × Found (ReadValue (word_in v.state u - 1)) n v w

-- the value of variable u's object is n: if objects aren't shared, that in the plain heap, which is as before, by one read; if they are, what one read found,
-- of which the answer has 32 bits
pub record FindsSome (u n : ℕ) (h : Heap) (x y : HeapSeat) : Type 0 where
  pub own : IsFalse h.shape.sharing → (value_in (plain_of x) u ≡ Some n) × (plain_of y ≡ plain_of x) × Across (OwnSteps (ops.Say u)) x y
  pub shared : IsTrue h.shape.sharing → (found : ℕ) × (n ≡ found % 4294967296) × Across (FindsValue u found) x y

-- the variable has no object, and no step was taken
pub record FindsNone (u : ℕ) (h : Heap) (x y : HeapSeat) : Type 0 where
  pub own : IsFalse h.shape.sharing → (value_in (plain_of x) u ≡ None) × (plain_of y ≡ plain_of x) × Across (OwnSteps (ops.Say u)) x y
  pub shared : IsTrue h.shape.sharing → (word_in (state_of x) u ≡ 0) × (view_of y ≡ view_of x)

-- variable u refers to nothing: by the plain heap if objects aren't shared, and by its word if they are
abbrev pub RefersToNothing : Bool → ℕ → HeapSeat → Type 0
RefersToNothing false u s = variable (plain_of s) u ≡ Nil
RefersToNothing true u s = word_in (state_of s) u ≡ 0

-- two variables refer to one object, or both to nothing
abbrev pub RefersToOne : Bool → ℕ → ℕ → HeapSeat → Type 0
RefersToOne false u x s = variable (plain_of s) u ≡ variable (plain_of s) x
RefersToOne true u x s = word_in (state_of s) u ≡ word_in (state_of s) x
