-- What the words of a closed heap are, if it doesn't share objects: the plain heaps of its seats.
use Rattle.std.specs.Prelude.{ℕ, ◌≡◌, ◌⊎◌, ◌+◌, ◌*◌, ◌<◌, List, length, Some, IsFalse, slice_get, slice_index}
use Rattle.mark_core.specs.Numbers.{section_variables}
use Rattle.mark_core.specs.declared.kinds.Shape.{Shape}
use Rattle.plain_heap.specs.Paths.{Name, IsReachable}
use Rattle.plain_heap.specs.PlainHeap.{variable}
use Rattle.gc_table.specs.Ends.{IsEnd}
use Rattle.gc_table.specs.Seats.{view_of}
use Rattle.gc_table.specs.StandsFor.{HoldsObject, WordAgrees, heaps_of, name_at, object_count}
use Rattle.gc_table.specs.declared.seat.HeapSeat.{HeapSeat}
use Rattle.gc_table.specs.declared.view.Meaning.{Meaning}
use Rattle.gc_table.specs.declared.words.Words.{Words}

-- the seat of section k, if there is one, was handed in as the heap was closed: the roots of one that wasn't may lag behind its variables
abbrev pub IsHandedIn : List HeapSeat → ℕ → Type 0
IsHandedIn seats k = (k < length seats) ⊎ ((s : HeapSeat) × (slice_get seats 0 ≡ Some s) × ((view_of s).opened ≡ length seats))

-- the words are plain heaps, one for each section
pub record WordsAre (sh : Shape) (seats : List HeapSeat) (w : Words) : Type 0 where
  pub meanings : List Meaning
  pub sections : length meanings ≡ sh.sections
  -- that of a seat's section is what the seat's calls made of it
  pub own : (i : ℕ) (s : HeapSeat) (k : ℕ) → slice_get seats i ≡ Some s → (view_of s).state.section ≡ Some k → slice_get meanings k ≡ Some (view_of s).own.meaning
  -- the word that the seat has as a variable refers to what the plain heap's does, and is the root of one that was handed in
  pub roots : (k : ℕ) (m : Meaning) → slice_get meanings k ≡ Some m → (v : ℕ) → v < section_variables
      → (word : ℕ) × WordAgrees w.idents.items (object_count meanings) k word (variable m.heap v) × (IsHandedIn seats k → word ≡ slice_index w.roots.items (k * section_variables + v))
  -- each object that a path reaches has a cell with its value and its references
  pub objects : (name : Name) → IsReachable (heaps_of meanings) name
      → (x : ℕ) × (name_at w.idents.items x ≡ name) × ((m : Meaning) × (slice_get meanings name.section ≡ Some m) × HoldsObject sh w.idents.items w.values.items w.fields.items (object_count meanings) m x)

-- whatever threads did with a heap that doesn't share objects, its words at the end are these
abbrev pub EndsStand : Type 0
EndsStand = (sh : Shape) (seats : List HeapSeat) (w : Words) → IsEnd sh seats w → IsFalse sh.sharing → WordsAre sh seats w
