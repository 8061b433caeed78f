-- Where objects lie, as long as they are in use, and that reachable ones are.
use Rattle.std.specs.Prelude.{ℕ, ◌≡◌, ◌+◌, ◌<◌, ◌≤◌, Bool, List, None, Some, IsTrue, IsFalse, slice_get, length}
use Rattle.plain_heap.specs.Paths.{Name}
use Rattle.mark_core.specs.Cells.{in_use}
use Rattle.mark_core.specs.Closed.{IsReachableIn}
use Rattle.mark_core.specs.Laws.{IsCore}
use Rattle.mark_core.specs.Layout.{words_of}
use Rattle.mark_core.specs.Numbers.{section_variables}
use Rattle.mark_core.specs.Steps.{Core, after_event, failing_part}
use Rattle.mark_core.specs.Steps.MutatorSteps.{seat_variable}
use Rattle.mark_core.specs.Views.{makers}
use Rattle.mark_core.specs.declared.kinds.Event.{Event}
use Rattle.mark_core.specs.declared.kinds.Shape.{Shape}
use Rattle.mark_core.specs.declared.seat.SeatState.{SeatState}
use Rattle.gc_table.specs.AgreementLaws.{IsCellFor, IsReached}
use Rattle.gc_table.specs.RunWorlds.{name_at, variable_of}
use Rattle.gc_table.specs.Runs.{core_after}
use Rattle.gc_table.specs.Sharing.{heap_after_events}
use Rattle.heap_laws.specs.Moments.{IsHistory}

-- a cell is in use: it is published, or made and not yet published
abbrev pub is_used : Core → ℕ → Bool
is_used c x = in_use (words_of c.shape c.words).allocs (makers c.seats) x

-- cell x is in use, and has the object of this name
abbrev pub HasObject : Core → Name → ℕ → Type 0
HasObject c name x = IsTrue (is_used c x) × (name_at (words_of c.shape c.words).identities x ≡ name)

-- the seat of a section, which has a word for each of its variables
pub record IsSeatOf (c : Core) (i : ℕ) (s : SeatState) : Type 0 where
  pub there : slice_get c.seats i ≡ Some s
  pub live : IsFalse s.spent
  pub inside : i < c.shape.sections

-- an object keeps its cell
pub record ObjectsKeepCells : Type 0 where
  -- one that paths lead to after k events and after l has one and the same cell then
  pub reached : (sh : Shape) (es : List Event) → IsHistory sh es → (k l : ℕ) (name : Name) → IsReached (heap_after_events sh es k) name → IsReached (heap_after_events sh es l) name
      → (x : ℕ) × IsCellFor (core_after sh 1 es k) (heap_after_events sh es k) name x × IsCellFor (core_after sh 1 es l) (heap_after_events sh es l) name x
  -- no object is ever in two cells
  pub one : (sh : Shape) (es : List Event) → IsHistory sh es → (k l : ℕ) (name : Name) (x y : ℕ) → HasObject (core_after sh 1 es k) name x → HasObject (core_after sh 1 es l) name y → x ≡ y
  -- what is in a cell after k events and after l is there all the time between
  pub stays : (sh : Shape) (es : List Event) → IsHistory sh es → (k m l : ℕ) (name : Name) (x : ℕ) → k ≤ m → m ≤ l → HasObject (core_after sh 1 es k) name x → HasObject (core_after sh 1 es l) name x → HasObject (core_after sh 1 es m) name x
  -- and no other object is
  pub alone : (sh : Shape) (es : List Event) → IsHistory sh es → (k m l : ℕ) (name other : Name) (x : ℕ) → k ≤ m → m ≤ l → HasObject (core_after sh 1 es k) name x → HasObject (core_after sh 1 es l) name x → HasObject (core_after sh 1 es m) other x → other ≡ name
  -- the words of variables that refer to one object are the same, whichever seats have them, and whenever
  pub variables : (sh : Shape) (es : List Event) → IsHistory sh es → (k l i j v u : ℕ) (name : Name) (s t : SeatState) → IsSeatOf (core_after sh 1 es k) i s → IsSeatOf (core_after sh 1 es l) j t → v < section_variables → u < section_variables
      → variable_of (heap_after_events sh es k) i v ≡ Some name → variable_of (heap_after_events sh es l) j u ≡ Some name → seat_variable s v ≡ seat_variable t u

-- a cell to which a path leads is in use, be it published or not, and no event frees it
pub record NoneInUseFreed : Type 0 where
  pub event : (c : Core) (e : Event) (x : ℕ) → IsCore c → failing_part c e ≡ None → IsReachableIn c x → IsTrue (is_used c x) × IsTrue (is_used (after_event c e) x)
  pub history : (sh : Shape) (es : List Event) → IsHistory sh es → (k x : ℕ) → k < length es → IsReachableIn (core_after sh 1 es k) x → IsTrue (is_used (core_after sh 1 es k) x) × IsTrue (is_used (core_after sh 1 es (k + 1)) x)
