-- The one object to which a variable of section 0 refers, if the seat of that section stores there once.
use Rattle.std.specs.Prelude.{ℕ, ◌≡◌, ◌⊎◌, ◌<◌, ◌==◌, if◌then◌else◌, not, List, [], ◌∷◌, Bool, true, None, Some, IsTrue, slice_get}
use Rattle.plain_heap.specs.Paths.{Name}
use Rattle.mark_core.specs.Numbers.{section_variables}
use Rattle.mark_core.specs.declared.kinds.Event.{Event}
use Rattle.mark_core.specs.declared.kinds.Shape.{Shape}
use Rattle.mark_core.specs.declared.kinds.Step.{Step}
use Rattle.mark_core.specs.declared.kinds.Step.TheVariants.{StoreRoot, HoldRoot}
use Rattle.gc_table.specs.Laws.{IsRunOf}
use Rattle.gc_table.specs.Log.{all_steps}
use Rattle.gc_table.specs.Seats.{view_of}
use Rattle.gc_table.specs.declared.seat.HeapSeat.{HeapSeat}
use Rattle.gc_table.specs.declared.view.Entry.{Entry}
use Rattle.gc_table.specs.declared.words.Words.{Words}
use Rattle.gc_table.specs.RunWorlds.{variable_of}
use Rattle.gc_table.specs.Sharing.{heap_after_events}

-- the step leaves variable v of its seat's section
abbrev pub leaves_variable : ℕ → Step → Bool
leaves_variable v (StoreRoot u r) = not (u == v)
leaves_variable v (HoldRoot u r) = not (u == v)
leaves_variable v step = true

-- at most one of these events stores in variable v
abbrev pub stores_once : ℕ → List Entry → Bool
stores_once v [] = true
stores_once v (e ∷ es) = if leaves_variable v e.step then stores_once v es else all_steps (leaves_variable v) es

-- after k events of the run variable v of section 0 refers to nothing, or to this object
abbrev pub RefersTo : Shape → List Event → ℕ → Name → ℕ → Type 0
RefersTo sh es v name k = (variable_of (heap_after_events sh es k) 0 v ≡ None) ⊎ (variable_of (heap_after_events sh es k) 0 v ≡ Some name)

-- if the log of section 0's seat has at most one store in variable v, there is one object to which this variable refers in the whole run, whoever reads it,
-- or nothing as long as that store wasn't taken
abbrev pub OneObjectLent : Type 0
OneObjectLent =
    (sh : Shape) (seats : List HeapSeat) (w : Words) (es : List Event) → IsRunOf sh seats w es → (zero : HeapSeat) → slice_get seats 0 ≡ Some zero → (v : ℕ) → v < section_variables
    → IsTrue (stores_once v (view_of zero).log) → (name : Name) × ((k : ℕ) → RefersTo sh es v name k)
