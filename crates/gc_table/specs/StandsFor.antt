-- What the words and the records of seats stand for: a plain heap for each section.
use Rattle.std.specs.Prelude.{ℕ, ◌≡◌, ◌⊎◌, ◌+◌, ◌-◌, ◌*◌, ◌<◌, ◌≤◌, List, length, map, Option, Some, None, IfSome, IsTrue, IsFalse, slice_get, slice_index, slice_index_or}
use Rattle.std.specs.List.{range_with_len}
use Rattle.mark_core.specs.Shapes.{EachCell, EachField}
use Rattle.mark_core.specs.Layout.{Words, words_of}
use Rattle.mark_core.specs.Seats.{has_making, makes, last_made}
use Rattle.mark_core.specs.Views.{makers}
use Rattle.mark_core.specs.Cells.{in_use, field}
use Rattle.mark_core.specs.Variables.{roots_now}
use Rattle.mark_core.specs.Rules.HeapRules.{section_of_cell, number_of_cell}
use Rattle.mark_core.specs.Steps.{Core}
use Rattle.mark_core.specs.declared.kinds.Shape.{Shape}
use Rattle.mark_core.specs.declared.seat.SeatState.{SeatState}
use Rattle.plain_heap.specs.declared.object.Ref.{Ref}
use Rattle.plain_heap.specs.declared.object.Ref.TheVariants as refs
use Rattle.plain_heap.specs.declared.object.Object.{Object}
use Rattle.plain_heap.specs.PlainHeap.{Heap, empty_heap, variable}
use Rattle.plain_heap.specs.Paths.{Name, Names}
use Rattle.gc_table.specs.declared.view.Meaning.{Meaning}
use Rattle.mark_core.specs.Numbers.{section_variables, value_bound, section_span}

-- the plain heaps, in the order of the sections
abbrev pub heaps_of : List Meaning → List Heap
heaps_of ms = map (λ (m : Meaning). m.heap) ms

-- the name of the object in cell c
abbrev pub name_at : List ℕ → ℕ → Name
name_at identities c = record { section = section_of_cell identities c; number = number_of_cell identities c }

-- how many objects there are, if there is a heap
abbrev pub objects_in : Option Meaning → ℕ
objects_in None = 0
objects_in (Some m) = length m.heap.objects

-- how many objects section w has made
abbrev pub object_count : List Meaning → ℕ → ℕ
object_count ms w = objects_in (slice_get ms w)

-- a word agrees with a reference of a section: both are nil, or the reference names the object in the word's cell, and there is such an object
abbrev pub WordAgrees : List ℕ → (ℕ → ℕ) → ℕ → ℕ → Ref → Type 0
WordAgrees identities counts section word ref =
    ((word ≡ 0) × (ref ≡ refs.Nil)) ⊎ ((0 < word) × Names section ref (name_at identities (word - 1)) × (number_of_cell identities (word - 1) < counts (section_of_cell identities (word - 1))))

-- the words of cell c agree with its object
pub record HoldsObject (sh : Shape) (identities values fields : List ℕ) (counts : ℕ → ℕ) (m : Meaning) (c : ℕ) : Type 0 where
  pub object : Object
  pub there : slice_get m.heap.objects (number_of_cell identities c) ≡ Some object
  pub room : length object.refs ≡ 16
  pub value : slice_index values c ≡ object.value
  pub each_field : EachField sh (λ i. WordAgrees identities counts (section_of_cell identities c) (field sh fields c i) (slice_index_or object.refs i refs.Nil))
  -- an object has room for more references than it may have
  pub rest : (i : ℕ) → sh.fields ≤ i → slice_index_or object.refs i refs.Nil ≡ refs.Nil

-- cell c was made for the next object of its section, which isn't there yet, and its fields are nil
pub record IsForNextObject (sh : Shape) (identities values fields : List ℕ) (m : Meaning) (c : ℕ) : Type 0 where
  pub number : number_of_cell identities c ≡ length m.heap.objects
  pub value : slice_index values c ≡ m.value
  pub nil : EachField sh (λ i. field sh fields c i ≡ 0)

-- cell c has an object of its section, or is made for the next one
abbrev pub IsCellOf : Shape → List ℕ → List ℕ → List ℕ → (ℕ → ℕ) → Meaning → ℕ → Type 0
IsCellOf sh identities values fields counts m c = HoldsObject sh identities values fields counts m c ⊎ IsForNextObject sh identities values fields m c

-- what the seat of section w has at hand
pub record SeatStands (sh : Shape) (identities values : List ℕ) (counts : ℕ → ℕ) (w : ℕ) (s : SeatState) (m : Meaning) : Type 0 where
  pub got : WordAgrees identities counts w s.got m.got
  -- each cell that was made has an object, but for the one made last
  pub made : (length m.heap.objects ≡ s.made) ⊎ ((length m.heap.objects + 1 ≡ s.made) × IsFalse (has_making s.cache))
  pub making : (c part : ℕ) → IsTrue (makes s.cache c part) → sh.fields < part → slice_index values c ≡ m.value
  pub last : IfSome (last_made s.cache) (λ c. (slice_index identities c + 1 ≡ w * section_span + s.made) × (0 < s.made))

-- the value of each object fits a value
abbrev pub ValuesFit : Heap → Type 0
ValuesFit heap = (n : ℕ) (object : Object) → slice_get heap.objects n ≡ Some object → object.value < value_bound

-- what is true of each section's meaning by itself
abbrev pub IsSection : Shape → ℕ → Meaning → Type 0
IsSection sh w m = (m.heap.section ≡ w) × (length m.heap.variables ≡ section_variables) × (m.heap.fields ≡ sh.fields) × (m.value < value_bound) × ValuesFit m.heap

-- the words, the cells in use and the seats agree with what they mean, for each section
pub record Stands (sh : Shape) (roots identities values fields : List ℕ) (used : ℕ → Type 0) (seats : List SeatState) (ms : List Meaning) : Type 0 where
  pub sections : length ms ≡ sh.sections
  pub numbered : (w : ℕ) (m : Meaning) → slice_get ms w ≡ Some m → IsSection sh w m
  -- each root, as the seats have it, agrees with its variable
  pub roots_agree : (w : ℕ) (m : Meaning) → slice_get ms w ≡ Some m → (v : ℕ) → v < section_variables → WordAgrees identities (object_count ms) w (slice_index roots (w * section_variables + v)) (variable m.heap v)
  -- a plain heap has no slots: those of its words stay nil
  pub slots_nil : (k : ℕ) → slice_index roots (sh.sections * section_variables + k) ≡ 0
  -- each cell in use belongs to a section
  pub cells_agree : EachCell sh (λ c. used c → (m : Meaning) × (slice_get ms (section_of_cell identities c) ≡ Some m) × IsCellOf sh identities values fields (object_count ms) m c)
  pub seats_agree : (w : ℕ) (s : SeatState) (m : Meaning) → slice_get seats w ≡ Some s → slice_get ms w ≡ Some m → IsFalse s.spent → SeatStands sh identities values (object_count ms) w s m
  -- a section without a seat has done nothing
  pub unseated : (w : ℕ) (m : Meaning) → length seats ≤ w → slice_get ms w ≡ Some m → (m.got ≡ refs.Nil) × (length m.heap.objects ≡ 0)

-- these words and seats agree with what they mean
abbrev pub StandsIn : Shape → Words → List SeatState → List Meaning → Type 0
StandsIn sh w seats ms = Stands sh (roots_now w.roots seats) w.identities w.values w.fields (λ c. IsTrue (in_use w.allocs (makers seats) c)) seats ms

-- the words and seats of this state agree with what they mean
abbrev pub StandsFor : Core → List Meaning → Type 0
StandsFor c ms = StandsIn c.shape (words_of c.shape c.words) c.seats ms

-- a section that has done nothing
abbrev pub start_meaning : Shape → ℕ → Meaning
start_meaning sh w = record { heap = empty_heap sh.fields w; got = refs.Nil; value = 0 }

-- all sections at the start
abbrev pub start_meanings : Shape → List Meaning
start_meanings sh = map (start_meaning sh) (range_with_len 0 sh.sections)
