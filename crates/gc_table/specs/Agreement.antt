-- The words and the records of seats agree with one heap of all sections.
use Rattle.std.specs.Prelude.{ℕ, ◌≡◌, ◌+◌, ◌*◌, ◌<◌, ◌≤◌, List, length, None, Some, IsTrue, IsFalse, IfSome, slice_get, slice_index}
use Rattle.mark_core.specs.Shapes.{EachCell, EachField}
use Rattle.mark_core.specs.Layout.{Words, words_of}
use Rattle.mark_core.specs.Numbers.{section_variables, section_span}
use Rattle.mark_core.specs.Seats.{makes, last_made}
use Rattle.mark_core.specs.Views.{makers}
use Rattle.mark_core.specs.Cells.{in_use, field}
use Rattle.mark_core.specs.Variables.{roots_now}
use Rattle.mark_core.specs.Steps.{Core}
use Rattle.mark_core.specs.declared.kinds.Shape.{Shape}
use Rattle.mark_core.specs.declared.seat.SeatState.{SeatState}
use Rattle.gc_table.specs.RunWorlds.{World, WorldObject, section_of, variable_of, object_of, reference_of, name_at, referred}

-- cell c has the words of the object of its name
pub record HoldsObject (sh : Shape) (identities values fields : List ℕ) (world : World) (c : ℕ) : Type 0 where
  pub object : WorldObject
  pub there : object_of world (name_at identities c) ≡ Some object
  pub room : length object.refs ≡ sh.fields
  pub value : slice_index values c ≡ object.value
  pub each_field : EachField sh (λ i. referred identities (field sh fields c i) ≡ reference_of object i)

-- what the seat of section w has at hand
pub record SeatAgrees (sh : Shape) (identities values : List ℕ) (world : World) (w : ℕ) (s : SeatState) : Type 0 where
  pub register : referred identities s.got ≡ (section_of world w).register
  pub made : length (section_of world w).objects ≡ s.made
  -- once the value of a new cell is stored it stays until the object is made
  pub making : (c part : ℕ) → IsTrue (makes s.cache c part) → sh.fields < part → slice_index values c ≡ (section_of world w).coming
  -- the cell made last has the section's last object
  pub last : IfSome (last_made s.cache) (λ c. (slice_index identities c + 1 ≡ w * section_span + s.made) × (0 < s.made))

-- the words, the cells in use and the seats agree with the heap
pub record Agrees (sh : Shape) (roots identities values fields : List ℕ) (used : ℕ → Type 0) (seats : List SeatState) (world : World) : Type 0 where
  pub sections : length world ≡ sh.sections
  pub variables : (w : ℕ) → w < sh.sections → length (section_of world w).variables ≡ section_variables + sh.slots
  pub roots_agree : (w v : ℕ) → w < sh.sections → v < section_variables → referred identities (slice_index roots (w * section_variables + v)) ≡ variable_of world w v
  pub slots_agree : (w k : ℕ) → w < sh.sections → k < sh.slots → referred identities (slice_index roots (sh.sections * section_variables + (w * sh.slots + k))) ≡ variable_of world w (section_variables + k)
  pub cells_agree : EachCell sh (λ c. used c → HoldsObject sh identities values fields world c)
  pub seats_agree : (w : ℕ) (s : SeatState) → slice_get seats w ≡ Some s → w < sh.sections → IsFalse s.spent → SeatAgrees sh identities values world w s
  -- a section without a seat has done nothing
  pub unseated : (w : ℕ) → length seats ≤ w → w < sh.sections → ((section_of world w).register ≡ None) × (length (section_of world w).objects ≡ 0)

-- these words and seats agree with the heap
abbrev pub AgreesIn : Shape → Words → List SeatState → World → Type 0
AgreesIn sh w seats world = Agrees sh (roots_now w.roots seats) w.identities w.values w.fields (λ c. IsTrue (in_use w.allocs (makers seats) c)) seats world

-- the words and seats of this state agree with the heap
abbrev pub AgreesWith : Core → World → Type 0
AgreesWith c world = AgreesIn c.shape (words_of c.shape c.words) c.seats world
