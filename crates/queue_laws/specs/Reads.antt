-- What a seat's log tells of two of its variables: that one has what was read in a field of the other's object.
use Rattle.std.specs.Prelude.{ℕ, ◌≡◌, ◌≢◌, ◌+◌, ◌<◌, ◌≤◌, ◌==◌, ◌&&◌, if◌then◌else◌, not, List, [], ◌∷◌, Bool, false, Option, None, Some, IsTrue, length, slice_get, take}
use Rattle.plain_heap.specs.Paths.{Name}
use Rattle.mark_core.specs.Bits.{reference_in}
use Rattle.mark_core.specs.Numbers.{section_variables}
use Rattle.mark_core.specs.Steps.{Core}
use Rattle.mark_core.specs.Steps.MutatorSteps.{seat_variable}
use Rattle.mark_core.specs.declared.kinds.Event.{Event}
use Rattle.mark_core.specs.declared.kinds.Step.{Step}
use Rattle.mark_core.specs.declared.kinds.Step.TheVariants.{ReadOwn, ReadCat, ReadSlot, ReadWeak, StoreRoot, StoreSlot, HoldRoot}
use Rattle.mark_core.specs.declared.seat.SeatState.{SeatState}
use Rattle.gc_table.specs.Past.{log_from}
use Rattle.gc_table.specs.RunWorlds.{World, variable_of}
use Rattle.gc_table.specs.declared.view.Entry.{Entry}
use Rattle.heap_laws.specs.Lent.{is_lent}
use Rattle.heap_laws.specs.Named.{IsRunOn}
use Rattle.queue_laws.specs.Orders.{Was}
use Rattle.queue_laws.specs.Queues.{heap_at}

-- the word of variable v; the reference in the register, if it was read in field f of v's object; and whether variable u has one that was, and v is as it was then
pub record Reading : Type 0 where
  pub word : ℕ
  pub loaded : Option ℕ
  pub held : Bool

-- variable x is assigned reference r
abbrev pub assigned : ℕ → ℕ → Reading → ℕ → ℕ → Reading
assigned v u known x r = record { word = if x == v then reference_in r else known.word; loaded = None; held = if x == v then false else if x == u then is_lent known.loaded r else known.held }

-- the same after a step that found this word
abbrev pub reading_after : ℕ → ℕ → ℕ → Reading → Step → ℕ → Reading
reading_after v u f known (ReadOwn c i) found = record known { loaded = if (known.word == c + 1) && ((i == f) && not (found == 0)) then Some found else None }
reading_after v u f known (ReadCat x) found = record known { loaded = None }
reading_after v u f known (ReadSlot x) found = record known { loaded = None }
reading_after v u f known (ReadWeak c) found = record known { loaded = None }
reading_after v u f known (StoreSlot x r) found = record known { loaded = None }
reading_after v u f known (StoreRoot x r) found = assigned v u known x r
reading_after v u f known (HoldRoot x r) found = assigned v u known x r
reading_after v u f known step found = known

-- the same after these entries
abbrev pub readings : ℕ → ℕ → ℕ → Reading → List Entry → Reading
readings v u f known [] = known
readings v u f known (e ∷ es) = readings v u f (reading_after v u f known e.step e.found) es

-- what is known of a seat at the start: the word of variable v
abbrev pub starting : SeatState → ℕ → Reading
starting s v = record { word = seat_variable s v; loaded = None; held = false }

-- as long as a seat's log says that variable u has what was read in field f of the object of its variable v, both refer to objects, and field f of v's referred to u's before
abbrev pub ReadByLog : Type 0
ReadByLog =
    (c : Core) (world : World) (es : List Event) → IsRunOn c world es → (i v u f : ℕ) (s : SeatState) → slice_get c.seats i ≡ Some s → v < section_variables → u < section_variables → v ≢ u → (k : ℕ) → k ≤ length es
    → IsTrue (readings v u f (starting s v) (log_from i c (take k es))).held
    → (from : Name) × (to : Name) × (variable_of (heap_at c world es k) i v ≡ Some from) × (variable_of (heap_at c world es k) i u ≡ Some to) × Was c world es k from f to
