-- Weak references: what is known of an object by its identity and its cell, whether or not anything leads to it.
use Rattle.std.specs.Prelude.{ℕ, ◌≡◌, ◌≢◌, ◌⊎◌, ◌+◌, ◌/◌, ◌%◌, ◌<◌, List, length, IsTrue, IsFalse, None, Some, slice_get, slice_index}
use Rattle.std.specs.List.{All, list_any}
use Rattle.mark_core.specs.Shapes.{EachCell}
use Rattle.mark_core.specs.Layout.{Words, words_of}
use Rattle.mark_core.specs.Bits.{cell_bit}
use Rattle.mark_core.specs.Seats.{is_the, used_in}
use Rattle.mark_core.specs.Views.{makers}
use Rattle.mark_core.specs.Cells.{in_use, used_by}
use Rattle.mark_core.specs.Closed.{IsReachableIn, is_published}
use Rattle.mark_core.specs.Steps.MutatorSteps.{knows_cell, weak_reference}
use Rattle.mark_core.specs.Steps.{Core, failing_part, after_event, run_of}
use Rattle.mark_core.specs.Laws.{IsCore, AllNumbersFit}
use Rattle.mark_core.specs.Cards.{block_cells}
use Rattle.mark_core.specs.Numbers.{section_span}
use Rattle.mark_core.specs.declared.kinds.Shape.{Shape}
use Rattle.mark_core.specs.declared.kinds.Event.{Event}
use Rattle.mark_core.specs.declared.kinds.Step.TheVariants.{ReadIdent, ReadWeak}
use Rattle.mark_core.specs.declared.seat.SeatState.{SeatState}

-- the seat gives this identity no more
abbrev pub HasGiven : ℕ → SeatState → Type 0
HasGiven id s = IsFalse s.spent → IsTrue (is_the s.section (id / section_span)) → id % section_span < s.made

-- nobody gives this identity any more, and each cell in use that has it has the property P
pub record IsOnly (sh : Shape) (w : Words) (seats : List SeatState) (id : ℕ) (P : ℕ → Type 0) : Type 0 where
  pub given : All (HasGiven id) seats
  pub seated : id / section_span < sh.sections → id / section_span < length seats
  pub only : EachCell sh (λ x. IsTrue (in_use w.allocs (makers seats) x) → slice_index w.identities x ≡ id → P x)

-- an object of this identity was made; it is in cell x, or gone
abbrev pub IsAt : Core → ℕ → ℕ → Type 0
IsAt c id x = IsOnly c.shape (words_of c.shape c.words) c.seats id (λ y. y ≡ x)

-- it is in cell x and published, or gone
abbrev pub IsWeak : Core → ℕ → ℕ → Type 0
IsWeak c id x = IsOnly c.shape (words_of c.shape c.words) c.seats id (λ y. (y ≡ x) × IsTrue (cell_bit (words_of c.shape c.words).allocs y))

-- it is gone
abbrev pub IsGone : Core → ℕ → Type 0
IsGone c id = IsOnly c.shape (words_of c.shape c.words) c.seats id (λ y. ⊥)

-- whoever knows a cell in use by its identity knows where this object is, and whether it is published
pub record WeakIsMade : Type 0 where
  pub used : (c : Core) (x : ℕ) → IsCore c → IsTrue (in_use (words_of c.shape c.words).allocs (makers c.seats) x) → IsAt c (slice_index (words_of c.shape c.words).identities x) x
  pub published : (c : Core) (x : ℕ) → IsCore c → IsTrue (is_published c x) → IsWeak c (slice_index (words_of c.shape c.words).identities x) x

-- what a run keeps, if its numbers fit words
abbrev pub RunsKeep : (Core → Type 0) → Type 0
RunsKeep R = (c : Core) (events : List Event) → IsCore c → AllNumbersFit events → R c → R (run_of events c)

-- all this stays, whatever anyone does: no object comes to another cell, and none comes back
pub record WeakStays : Type 0 where
  pub places : (id x : ℕ) → RunsKeep (λ c. IsAt c id x)
  pub weak : (id x : ℕ) → RunsKeep (λ c. IsWeak c id x)
  pub gone : (id : ℕ) → RunsKeep (λ c. IsGone c id)

-- no path leads to an object that is gone, in whatever cell
abbrev pub GoneIsUnreachable : Type 0
GoneIsUnreachable = (c : Core) (id x : ℕ) → IsCore c → IsGone c id → IsReachableIn c x → slice_index (words_of c.shape c.words).identities x ≡ id → ⊥

-- a seat that finds no object in cell x may conclude of this identity that it is gone: it was published there, or it is of the seat's own section
abbrev pub MayConclude : Core → SeatState → ℕ → ℕ → Type 0
MayConclude c s id x = IsWeak c id x ⊎ (IsAt c id x × IsTrue (is_the s.section (id / section_span)))

-- what a seat finds in cell x, of which r is what its register is given
pub record FindsWeak (c : Core) (s : SeatState) (x r : ℕ) : Type 0 where
  -- nil, or a cell in use
  pub found : (r ≡ 0) ⊎ ((r ≡ x + 1) × IsTrue (in_use (words_of c.shape c.words).allocs (makers c.seats) x))
  pub none : r ≡ 0 → (id : ℕ) → MayConclude c s id x → IsGone c id
  -- a cell that the seat knows and is given no reference to: another seat made it, and hasn't published it
  pub unpublished : r ≡ 0 → IsTrue (knows_cell s x) → IsTrue (list_any (used_by x) (makers c.seats)) × IsFalse (used_in s.cache x)
  -- if another object is there, this one is gone
  pub another : (id : ℕ) → IsAt c id x → (slice_index (words_of c.shape c.words).identities x ≡ id → ⊥) → IsGone c id

-- whoever is allowed to read cell x finds an object there that isn't freed, or that there is none
abbrev pub WeakReadsTell : Type 0
WeakReadsTell =
    (c : Core) (i : ℕ) (s : SeatState) (x : ℕ) → IsCore c → slice_get c.seats i ≡ Some s → failing_part c (record { seat = i; step = ReadWeak x }) ≡ None
    → FindsWeak c s x (weak_reference s x (slice_index (words_of c.shape c.words).allocs (x / block_cells)))

-- a seat that asks for a cell and finds it published, and then finds the identity of its object, knows where this object is for good, whatever others do between
abbrev pub WeakIsTold : Type 0
WeakIsTold =
    (c : Core) (i x : ℕ) (events : List Event) → IsCore c → failing_part c (record { seat = i; step = ReadWeak x }) ≡ None → IsTrue (is_published c x) → AllNumbersFit events → All (λ (e : Event). i ≢ e.seat) events
    → let d = run_of events (after_event c (record { seat = i; step = ReadWeak x })) in
    failing_part d (record { seat = i; step = ReadIdent x }) ≡ None
    → IsWeak d (slice_index (words_of d.shape d.words).identities x) x
