-- What is true of the sections besides what their words mean: where objects lie, how far each section is, the plan, and a heap that is full.
use Rattle.std.specs.Prelude.{ℕ, zero, suc, ◌≡◌, ◌+◌, ◌%◌, ◌<◌, ◌≤◌, if◌then◌else◌, nat_lt, List, [], ◌∷◌, length, drop, Some, IsTrue, IsFalse, IfSome, slice_get, slice_index}
use Rattle.std.specs.List.{All}
use Rattle.mark_core.specs.Shapes.{EachCell}
use Rattle.mark_core.specs.Layout.{Words, words_of}
use Rattle.mark_core.specs.Bits.{cell_bit}
use Rattle.mark_core.specs.Seats.{has_turn}
use Rattle.mark_core.specs.Views.{makers}
use Rattle.mark_core.specs.Cells.{in_use, IsReachableCell}
use Rattle.mark_core.specs.Variables.{roots_now}
use Rattle.mark_core.specs.Rules.HeapRules.{section_of_cell, number_of_cell}
use Rattle.mark_core.specs.declared.kinds.Shape.{Shape}
use Rattle.mark_core.specs.declared.kinds.Phase.TheVariants.{Full}
use Rattle.mark_core.specs.declared.seat.SeatState.{SeatState}
use Rattle.plain_heap.specs.declared.operation.Op.{Op}
use Rattle.plain_heap.specs.PlainHeap.{Heap, empty_heap}
use Rattle.plain_heap.specs.Paths.{IsReachable as IsReached}
use Rattle.gc_table.specs.declared.view.Place.{Place}
use Rattle.gc_table.specs.declared.view.PlainStep.{PlainStep}
use Rattle.gc_table.specs.declared.view.SectionState.{SectionState}
use Rattle.gc_table.specs.Sections.{planned, start_section}
use Rattle.gc_table.specs.TableState.{TableState, section_at}

-- a fact of each section
abbrev pub EachSection : List SectionState → (ℕ → SectionState → Type 0) → Type 0
EachSection xs P = (w : ℕ) (x : SectionState) → slice_get xs w ≡ Some x → P w x

-- the place of object n is cell c
abbrev pub LiesAt : SectionState → ℕ → ℕ → Type 0
LiesAt x n c = (p : Place) × (slice_get x.places n ≡ Some p) × (p.cell ≡ c)

-- where the objects that have cells lie
pub record Placed (sh : Shape) (identities : List ℕ) (used : ℕ → Type 0) (seats : List SeatState) (xs : List SectionState) : Type 0 where
  -- a cell in use is the place of the object that its identity names
  pub at_place : EachCell sh (λ c. used c → (x : SectionState) × (slice_get xs (section_of_cell identities c) ≡ Some x) × LiesAt x (number_of_cell identities c) c)
  -- there is a place for each cell that a seat made
  pub counted : EachSection xs (λ w x. (s : SeatState) → slice_get seats w ≡ Some s → IsFalse s.spent → length x.places ≡ s.made)
  pub unseated : EachSection xs (λ w x. length seats ≤ w → x.places ≡ [])
  pub below : EachSection xs (λ w x. (n : ℕ) (p : Place) → slice_get x.places n ≡ Some p → p.cell < sh.cells)

-- how many commands each section has done, as it stored last
abbrev pub Positioned : List ℕ → List SectionState → Type 0
Positioned positions xs = EachSection xs (λ w x. slice_index positions w ≡ x.position)

-- the catalogue's turn, and then the warehouses'
pub record Seasons (sh : Shape) (plan : List (List Op)) (season : ℕ) (xs : List SectionState) : Type 0 where
  -- only the catalogue's seat moves the season on
  pub moved : season ≡ (section_at xs 0).seasons
  -- while the warehouses have their turn, the catalogue is what its plan says
  pub planned_there : season % 2 ≡ 1 → (section_at xs 0).meaning.heap ≡ planned sh plan season

-- the heap after the turns before this season
abbrev pub heap_before : ℕ → Heap → List PlainStep → Heap
heap_before season heap [] = heap
heap_before season heap (t ∷ ts) = heap_before season (if nat_lt t.season season then t.heap else heap) ts

-- when sections stored and made objects
pub record Turns (sh : Shape) (season : ℕ) (xs : List SectionState) : Type 0 where
  -- each plain step was in a turn of its section
  pub turns_past : EachSection xs (λ w x. (n : ℕ) (t : PlainStep) → slice_get x.history n ≡ Some t → (t.season ≤ season) × IsTrue (has_turn (Some w) (Some t.season)))
  pub places_past : EachSection xs (λ w x. (n : ℕ) (p : Place) → slice_get x.places n ≡ Some p → (p.season ≤ season) × IsTrue (has_turn (Some w) (Some p.season)))
  -- the last one left the plain heap as it is
  pub last : EachSection xs (λ w x. x.meaning.heap ≡ heap_before (season + 1) (empty_heap sh.fields w) x.history)

-- the plain heap of each section, counted from w, after its turns before a season
abbrev pub heaps_before : Shape → ℕ → ℕ → List SectionState → List Heap
heaps_before sh season w [] = []
heaps_before sh season w (x ∷ xs) = heap_before season (empty_heap sh.fields w) x.history ∷ heaps_before sh season (w + 1) xs

-- the plain heaps that reach objects of section w, just before its seat made an object in this place
abbrev pub heaps_beside : Shape → List (List Op) → List SectionState → ℕ → Place → List Heap
heaps_beside sh plan xs zero p = p.heap ∷ heaps_before sh p.season 1 (drop 1 xs)
heaps_beside sh plan xs (suc w) p = planned sh plan p.season ∷ p.heap ∷ []

-- no object was made in a cell where an older object of its section lay that was reachable just before
abbrev pub AreApart : Shape → List (List Op) → List SectionState → Type 0
AreApart sh plan xs =
    EachSection xs (λ w x. (n m : ℕ) (p o : Place) → m < n → slice_get x.places n ≡ Some p → slice_get x.places m ≡ Some o → IsReached (heaps_beside sh plan xs w p) (record { section = w; number = m }) → p.cell ≡ o.cell → ⊥)

-- a heap that was found full stays so
pub record Fullness (sh : Shape) (w : Words) (seats : List SeatState) (xs : List SectionState) : Type 0 where
  -- the section that is named is the one that found it full
  pub found_by : EachSection xs (λ k x. IsTrue x.full → (w.phase ≡ 5) × (w.named ≡ k))
  pub found : w.phase ≡ 5 → (k : ℕ) × (x : SectionState) × (slice_get xs k ≡ Some x) × IsTrue x.full
  pub published : w.phase ≡ 5 → EachCell sh (λ c. IsTrue (cell_bit w.allocs c))
  pub reached : w.phase ≡ 5 → EachCell sh (IsReachableCell sh (roots_now w.roots seats) w.fields)
  -- no seat stores any more: each that is active has read Full, or no phase
  pub seen : w.phase ≡ 5 → All (λ (s : SeatState). IsTrue s.active → IfSome s.phase_seen (λ p. p ≡ Full)) seats

-- after an exact cycle in the catalogue's turn each cell in use is reachable, until the catalogue's seat stores again
abbrev pub IsSettled : Shape → Words → List SeatState → SectionState → Type 0
IsSettled sh w seats x = IsTrue x.settled → (x.seasons % 2 ≡ 0) × EachCell sh (λ c. IsTrue (in_use w.allocs (makers seats) c) → IsReachableCell sh (roots_now w.roots seats) w.fields c)

-- all of these
pub record Tells (sh : Shape) (w : Words) (seats : List SeatState) (plan : List (List Op)) (xs : List SectionState) : Type 0 where
  -- a section that has had no seat has done nothing
  pub unseated : EachSection xs (λ k x. length seats ≤ k → x ≡ start_section sh k)
  pub placed : Placed sh w.identities (λ c. IsTrue (in_use w.allocs (makers seats) c)) seats xs
  pub positioned : Positioned w.positions xs
  pub seasons : Seasons sh plan w.season xs
  pub turns : Turns sh w.season xs
  pub apart : IsFalse sh.sharing → AreApart sh plan xs
  pub fullness : Fullness sh w seats xs
  pub settled : IsSettled sh w seats (section_at xs 0)

-- what is told of the sections is true in this state
abbrev pub IsTold : TableState → Type 0
IsTold x = Tells x.core.shape (words_of x.core.shape x.core.words) x.core.seats x.plan x.sections
