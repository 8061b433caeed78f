-- What no path leads to as a cycle begins: it isn't marked in this cycle, and is free at its end.
use Rattle.std.specs.Prelude.{ℕ, ◌≡◌, ◌+◌, ◌/◌, List, [], ◌∷◌, ◌++◌, Option, Some, None, Bool, true, false, IsTrue, IsFalse, slice_get, slice_index}
use Rattle.std.specs.List.{All}
use Rattle.mark_core.specs.Layout.{words_of}
use Rattle.mark_core.specs.Bits.{cell_bit}
use Rattle.mark_core.specs.Cards.{block_cells}
use Rattle.mark_core.specs.Seats.{is_phase, last_made}
use Rattle.mark_core.specs.Views.{makers}
use Rattle.mark_core.specs.Cells.{in_use, IsRoot, IsReachableCell}
use Rattle.mark_core.specs.Steps.MutatorSteps.{weak_reference}
use Rattle.mark_core.specs.Steps.{Core, failing_part, after_event, run_of}
use Rattle.mark_core.specs.Laws.{IsCore, AllNumbersFit}
use Rattle.mark_core.specs.Weak.{IsGone}
use Rattle.mark_core.specs.declared.kinds.Event.{Event}
use Rattle.mark_core.specs.declared.kinds.Phase.TheVariants.{Idle}
use Rattle.mark_core.specs.declared.kinds.Step.{Step}
use Rattle.mark_core.specs.declared.kinds.Step.TheVariants.{ReadWeak, StorePhase}
use Rattle.mark_core.specs.declared.seat.SeatState.{SeatState}

-- a cell is in use: it is published, or made and not yet published
abbrev pub is_used : Core → ℕ → Bool
is_used c x = in_use (words_of c.shape c.words).allocs (makers c.seats) x

-- a cell is marked
abbrev pub is_marked : Core → ℕ → Bool
is_marked c x = cell_bit (words_of c.shape c.words).marks x

-- the reference to the cell, or nil
abbrev pub reference_to : Option ℕ → ℕ
reference_to None = 0
reference_to (Some x) = x + 1

-- what a seat may store without reading a word: its register, the cell that it made last, and its variables
abbrev pub references_of : SeatState → List ℕ
references_of s = s.got ∷ reference_to (last_made s.cache) ∷ s.env

-- what all seats may store
abbrev pub held_references : List SeatState → List ℕ
held_references [] = []
held_references (s ∷ ss) = references_of s ++ held_references ss

-- a path leads to cell x from a root, from what a seat has, or from one of these references
abbrev pub IsReachedFrom : Core → List ℕ → ℕ → Type 0
IsReachedFrom c found x = IsReachableCell c.shape ((words_of c.shape c.words).roots ++ (held_references c.seats ++ found)) (words_of c.shape c.words).fields x

-- a cell in use to which no path leads, be it from one of these references
pub record IsGarbage (c : Core) (found : List ℕ) (x : ℕ) : Type 0 where
  pub used : IsTrue (is_used c x)
  pub unreached : IsReachedFrom c found x → ⊥

-- the reference that a weak read finds; other steps find none
abbrev pub weak_found : Core → Option SeatState → Step → ℕ
weak_found c None step = 0
weak_found c (Some s) (ReadWeak x) = weak_reference s x (slice_index (words_of c.shape c.words).allocs (x / block_cells))
weak_found c (Some s) step = 0

-- what an event finds weakly is nil, or one of these references
abbrev pub FindsOneOf : List ℕ → Core → Event → Type 0
FindsOneOf found c e = (y : ℕ) → weak_found c (slice_get c.seats e.seat) e.step ≡ y + 1 → IsRoot found y

-- what the events of a run find weakly, each in its turn
abbrev pub FindOnly : List ℕ → List Event → Core → Type 0
FindOnly found [] c = Unit {0}
FindOnly found (e ∷ es) c = failing_part c e ≡ None → FindsOneOf found c e × FindOnly found es (after_event c e)

-- the step moves the phase back to Idle
abbrev pub ends_cycle : Step → Bool
ends_cycle (StorePhase Idle) = true
ends_cycle step = false

-- events that come while a cycle hasn't begun or hasn't ended: from Idle on, up to the next move to Idle; weak reads find only these references
pub record IsCycle (c : Core) (found : List ℕ) (es : List Event) : Type 0 where
  pub core : IsCore c
  pub idle : IsTrue (is_phase (words_of c.shape c.words).phase Idle)
  pub fit : AllNumbersFit es
  pub goes_on : All (λ (e : Event). IsFalse (ends_cycle e.step)) es
  pub finds : FindOnly found es c

-- the identity of the object in a cell
abbrev pub identity_in : Core → ℕ → ℕ
identity_in c x = slice_index (words_of c.shape c.words).identities x

-- whatever threads do: what was garbage in Idle isn't marked until the cycle ends; by the move that ends it the cell isn't in use any more, and its object is gone
pub record GarbageGoes : Type 0 where
  pub white : (c : Core) (found : List ℕ) (es : List Event) (x : ℕ) → IsCycle c found es → IsGarbage c found x → IsFalse (is_marked (run_of es c) x)
  pub freed : (c : Core) (found : List ℕ) (es : List Event) (e : Event) (x : ℕ) → IsCycle c found es → IsGarbage c found x → IsTrue (ends_cycle e.step)
      → failing_part (run_of es c) e ≡ None → IsFalse (is_used (after_event (run_of es c) e) x)
  pub gone : (c : Core) (found : List ℕ) (es : List Event) (e : Event) (x : ℕ) → IsCycle c found es → IsGarbage c found x → IsTrue (ends_cycle e.step)
      → failing_part (run_of es c) e ≡ None → IsGone (after_event (run_of es c) e) (identity_in c x)
