-- What a seat's log tells of an object that the seat made, and hasn't put into a field by an exchange since.
use Rattle.std.specs.Prelude.{ℕ, ◌≡◌, ◌+◌, ◌<◌, ◌≤◌, ◌==◌, ◌&&◌, not, if◌then◌else◌, nat_le, List, [], ◌∷◌, ◌++◌, Bool, true, false, Option, None, Some, IsTrue, length, slice_get, take}
use Rattle.plain_heap.specs.Paths.{Name}
use Rattle.mark_core.specs.Numbers.{section_variables}
use Rattle.mark_core.specs.Steps.{Core}
use Rattle.mark_core.specs.declared.kinds.Event.{Event}
use Rattle.mark_core.specs.declared.kinds.Step.{Step}
use Rattle.mark_core.specs.declared.kinds.Step.TheVariants.{ExchangeField, StoreNew, StoreRoot, HoldRoot}
use Rattle.mark_core.specs.declared.seat.SeatState.{SeatState}
use Rattle.gc_table.specs.Past.{log_from}
use Rattle.gc_table.specs.RunWorlds.{World, object_of, variable_of}
use Rattle.gc_table.specs.declared.view.Entry.{Entry}
use Rattle.heap_laws.specs.Lent.{is_lent}
use Rattle.heap_laws.specs.Pairs.{is_source}
use Rattle.heap_laws.specs.Named.{IsRunOn}
use Rattle.queue_laws.specs.Queues.{heap_at}

-- an exchange by which what variable o refers to comes behind an object, if nil was expected
abbrev pub gives : ℕ → Step → ℕ → Bool
gives o (ExchangeField v f x y) found = (f == 0) && (is_source y (Some o) && (found == 0))
gives o step found = false

-- the reference to the object that the last step made, if it made one; and whether variable o has an object that the seat made, and that it gave to no other since
pub record Making : Type 0 where
  pub newest : Option ℕ
  pub fresh : Bool

-- the same after a step that found this word, if objects have so many fields
abbrev pub making_after : ℕ → ℕ → Making → Step → ℕ → Making
making_after fields o known (StoreNew c part word) found = record { newest = if nat_le part fields then None else Some (c + 1); fresh = known.fresh }
making_after fields o known (StoreRoot x r) found = record { newest = None; fresh = if x == o then is_lent known.newest r else known.fresh }
making_after fields o known (HoldRoot x r) found = record { newest = None; fresh = if x == o then is_lent known.newest r else known.fresh }
making_after fields o known (ExchangeField v f x y) found = record { newest = None; fresh = known.fresh && not (gives o (ExchangeField v f x y) found) }
making_after fields o known step found = record { newest = None; fresh = known.fresh }

-- the same after these entries
abbrev pub makings : ℕ → ℕ → Making → List Entry → Making
makings fields o known [] = known
makings fields o known (e ∷ es) = makings fields o (making_after fields o known e.step e.found) es

-- nothing is known at the start
abbrev pub nothing_made : Making
nothing_made = record { newest = None; fresh = false }

-- none of these entries gives it
abbrev pub gives_none : ℕ → List Entry → Bool
gives_none o [] = true
gives_none o (e ∷ es) = not (gives o e.step e.found) && gives_none o es

-- after so many of the first k events there was no object of this name yet, and seat i has given it to no other since
pub record IsNew (c : Core) (world : World) (es : List Event) (i o k : ℕ) (name : Name) : Type 0 where
  pub moment : ℕ
  pub before : moment ≤ k
  pub none : object_of (heap_at c world es moment) name ≡ None
  pub since : List Entry
  pub log : log_from i c (take k es) ≡ log_from i c (take moment es) ++ since
  pub quiet : IsTrue (gives_none o since)

-- as long as a seat's log says so, variable o has an object of the seat's section that is new
abbrev pub MadeByLog : Type 0
MadeByLog =
    (c : Core) (world : World) (es : List Event) → IsRunOn c world es → (i o : ℕ) (s : SeatState) → slice_get c.seats i ≡ Some s → o < section_variables → (k : ℕ) → k ≤ length es → IsTrue (makings c.shape.fields o nothing_made (log_from i c (take k es))).fresh
    → (name : Name) × (variable_of (heap_at c world es k) i o ≡ Some name) × (name.section ≡ i) × IsNew c world es i o k name
