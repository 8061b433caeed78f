-- What a seat's log tells of its variables: which of them refer to the object that section 0 lends in one of its own.
use Rattle.std.specs.Prelude.{ℕ, ◌≡◌, ◌<◌, ◌==◌, ◌&&◌, if◌then◌else◌, not, List, [], ◌∷◌, Bool, false, Option, None, Some, IsTrue, take}
use Rattle.plain_heap.specs.Paths.{Name}
use Rattle.mark_core.specs.Bits.{reference_in}
use Rattle.mark_core.specs.Numbers.{section_variables}
use Rattle.mark_core.specs.declared.kinds.Event.{Event}
use Rattle.mark_core.specs.declared.kinds.Shape.{Shape}
use Rattle.mark_core.specs.declared.kinds.Step.{Step}
use Rattle.mark_core.specs.declared.kinds.Step.TheVariants.{ReadOwn, ReadCat, ReadSlot, ReadWeak, StoreRoot, StoreSlot, HoldRoot}
use Rattle.gc_table.specs.Lending.{RefersTo}
use Rattle.gc_table.specs.Past.{log_of}
use Rattle.gc_table.specs.RunWorlds.{variable_of}
use Rattle.gc_table.specs.Sharing.{heap_after_events}
use Rattle.gc_table.specs.declared.view.Entry.{Entry}
use Rattle.heap_laws.specs.Moments.{IsHistory}

-- the reference in the register, if it was read from variable u of section 0, by the step and the word that it found
abbrev pub read_by : ℕ → Option ℕ → Step → ℕ → Option ℕ
read_by u r (ReadCat v) found = if (v == u) && not (reference_in found == 0) then Some (reference_in found) else None
read_by u r (ReadOwn c i) found = None
read_by u r (ReadSlot k) found = None
read_by u r (ReadWeak c) found = None
read_by u r (StoreRoot v x) found = None
read_by u r (HoldRoot v x) found = None
read_by u r (StoreSlot k x) found = None
read_by u r step found = r

-- this reference is the register's, if that was lent
abbrev pub is_lent : Option ℕ → ℕ → Bool
is_lent None x = false
is_lent (Some r) x = r == x

-- whether variable v refers to the object after a step, given whether it did before
abbrev pub lent_after : ℕ → Option ℕ → Bool → Step → Bool
lent_after v r b (StoreRoot w x) = if w == v then is_lent r x else b
lent_after v r b (HoldRoot w x) = if w == v then is_lent r x else b
lent_after v r b step = b

-- whether it does after these entries
abbrev pub holds_lent : ℕ → ℕ → Option ℕ → Bool → List Entry → Bool
holds_lent u v r b [] = b
holds_lent u v r b (e ∷ es) = holds_lent u v (read_by u r e.step e.found) (lent_after v r b e.step) es

-- if variable u of section 0 refers to nothing, or to this object, in a whole history, each variable into which a seat put what it read there refers to the object, as long as its log says so
abbrev pub LentByLog : Type 0
LentByLog =
    (sh : Shape) (es : List Event) → IsHistory sh es → (u : ℕ) (name : Name) → u < section_variables → ((k : ℕ) → RefersTo sh es u name k) → (i v k : ℕ) → v < section_variables
    → IsTrue (holds_lent u v None false (log_of sh (take k es) i)) → variable_of (heap_after_events sh es k) i v ≡ Some name
