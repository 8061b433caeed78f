-- What a command does.
use Rattle.std.specs.Prelude.{ℕ, ◌≡◌, ◌≤◌, ◌+◌, not, if◌then◌else◌, List, [], ◌∷◌, Bool, true, false, Option}
use Rattle.mark_core.specs.declared.kinds.Step.{Step}
use Rattle.mark_core.specs.declared.kinds.Step.TheVariants.{ReadOwn, ReadValue, ReadIdent, ReadCat, StoreField, StoreValue, StoreRoot, StoreNew, DirtyCard, CheckCard, HoldRoot}
use Rattle.plain_heap.specs.declared.operation.Op.{Op}
use Rattle.plain_heap.specs.declared.operation.Op.TheVariants as ops
use Rattle.plain_heap.specs.PlainHeap.{Heap}
use Rattle.plain_heap.specs.PlainStep.{heap_after}
use Rattle.gc_table.specs.PlainSteps.{with_got}
use Rattle.gc_table.specs.Sections.{seen_by}
use Rattle.gc_table.specs.declared.view.View.{View}
use Rattle.gc_table.specs.Log.{Only, events, steps_of}
use Rattle.gc_table.specs.Running.{Ran}

-- what a seat sees of the catalogue
abbrev pub seen : View → Option Heap
seen v = seen_by v.shape v.plan v.state

-- the plain heap with this count of dropped stores. The words don't tell how many stores were dropped, so whoever plays a section counts them
abbrev pub with_dropped : ℕ → Heap → Heap
with_dropped d heap = record heap { dropped = d }

-- the steps that a command may take
abbrev pub belongs : Op → Step → Bool
belongs (ops.New v n) (StoreNew c part word) = true
belongs (ops.New v n) (StoreRoot u r) = true
belongs (ops.Let v w) (StoreRoot u r) = true
belongs (ops.Nil v) (StoreRoot u r) = true
belongs (ops.Set v i w) (ReadIdent c) = true
belongs (ops.Set v i w) (StoreField u j o) = true
belongs (ops.Set v i w) (CheckCard card) = true
belongs (ops.Set v i w) (DirtyCard card) = true
belongs (ops.Get v w i) (ReadOwn c j) = true
belongs (ops.Get v w i) (StoreRoot u r) = true
belongs (ops.Cat v c) (ReadCat u) = true
belongs (ops.Cat v c) (StoreRoot u r) = true
belongs (ops.Put v n) (ReadIdent c) = true
belongs (ops.Put v n) (StoreValue u m) = true
belongs (ops.Say v) (ReadValue c) = true
belongs (ops.Sum v i limit) (ReadValue c) = true
belongs (ops.Sum v i limit) (ReadOwn c j) = true
belongs (ops.Sum v i limit) (StoreRoot u r) = true
belongs op step = false

-- the step is a store that the plain heap sees
abbrev pub stores_plainly : Step → Bool
stores_plainly (StoreField u i o) = true
stores_plainly (StoreValue u n) = true
stores_plainly (StoreRoot u r) = true
stores_plainly (HoldRoot u r) = true
stores_plainly step = false

-- the step is no store that the plain heap sees
abbrev pub spares_plain : Step → Bool
spares_plain step = not (stores_plainly step)

-- how many of these steps the plain heap sees
abbrev pub plain_steps : List Step → ℕ
plain_steps [] = 0
plain_steps (x ∷ xs) = (if stores_plainly x then 1 else 0) + plain_steps xs

-- the plain heap sees at most one step of the call, so no other thread sees half of the command
abbrev pub IsOneStep : View → View → Type 0
IsOneStep v w = plain_steps (steps_of (events v w)) ≤ 1

-- the plain heap after a command which dropped this many stores, whatever was dropped before
abbrev pub IsStepped : Op → ℕ → View → View → Type 0
IsStepped op dropped v w = (d : ℕ) → with_dropped (d + dropped) w.own.meaning.heap ≡ heap_after (with_dropped d v.own.meaning.heap) (seen v) op

-- a command that makes no object was done, which dropped this many stores: in the record it changes only the variables, and in the section only the plain heap
pub record Does (op : Op) (dropped : ℕ) (v w : View) : Type 0 where
  pub ran : Ran v w
  pub only : Only (belongs op) v w
  pub once : IsOneStep v w
  pub heap : IsStepped op dropped v w
  -- the count in the view isn't the count of dropped stores: no command changes it
  pub undropped : w.own.meaning.heap.dropped ≡ v.own.meaning.heap.dropped
  pub state : w.state ≡ record v.state { env = w.state.env }
  pub own : w.own ≡ record v.own { meaning = w.own.meaning; history = w.own.history; settled = w.own.settled }

-- the seat has read by steps of this sort, and nothing but its register is another
pub record HasRead (p : Step → Bool) (v w : View) : Type 0 where
  pub ran : Ran v w
  pub only : Only p v w
  pub spares : Only spares_plain v w
  pub shape : w.shape ≡ v.shape
  pub plan : w.plan ≡ v.plan
  pub state : w.state ≡ record v.state { got = w.state.got }
  pub own : w.own ≡ record v.own { meaning = with_got w.own.meaning.got v.own.meaning }

-- the identity of an object is read
abbrev pub reads_ident : Step → Bool
reads_ident (ReadIdent c) = true
reads_ident step = false

-- the seat looked whose object a variable holds, and nothing changed
pub record Looks (v w : View) : Type 0 where
  pub ran : Ran v w
  pub only : Only reads_ident v w
  pub state : w.state ≡ v.state
  pub own : w.own ≡ v.own
