-- What is claimed of the plain heaps for which the words stand, as statements for proofs to meet.
use Rattle.std.specs.Prelude.{ℕ, ◌<◌, ◌≤◌, ◌≡◌, List, [], None, Some, IsTrue, IsFalse, length, slice_get, slice_set, take}
use Rattle.mark_core.specs.Shapes.{IsShape}
use Rattle.mark_core.specs.Steps.{Core, failing_part, after_event, first_refused, run_of, start_core}
use Rattle.mark_core.specs.Layout.{words_of}
use Rattle.mark_core.specs.Views.{makers}
use Rattle.mark_core.specs.Cells.{in_use}
use Rattle.mark_core.specs.Rules.HeapRules.{section_of_cell}
use Rattle.mark_core.specs.Closed.{IsReachableIn}
use Rattle.mark_core.specs.Laws.{IsCore, NumbersFit}
use Rattle.gc_table.specs.TableState.{TableState, state_after, start_state, AskedIn}
use Rattle.gc_table.specs.Rule.{IsState}
use Rattle.mark_core.specs.declared.kinds.Shape.{Shape}
use Rattle.mark_core.specs.declared.kinds.Event.{Event}
use Rattle.mark_core.specs.declared.kinds.Step.{Step}
use Rattle.mark_core.specs.declared.seat.SeatState.{SeatState}
use Rattle.plain_heap.specs.declared.operation.Op.{Op}
use Rattle.plain_heap.specs.Paths.{Name, IsReachable}
use Rattle.gc_table.specs.StandsFor.{StandsFor, HoldsObject, IsForNextObject, heaps_of, name_at, object_count, start_meanings}
use Rattle.gc_table.specs.declared.view.Meaning.{Meaning}
use Rattle.plain_heap.specs.PlainStep.{IsInRange}
use Rattle.gc_table.specs.Ends.{AreWords, IsEnd, IsResting}
use Rattle.gc_table.specs.Past.{log_of}
use Rattle.gc_table.specs.Seen.{Begins}
use Rattle.gc_table.specs.Seats.{seen_of, view_of}
use Rattle.gc_table.specs.declared.seat.HeapSeat.{HeapSeat}
use Rattle.gc_table.specs.declared.words.Words.{Words}
use Rattle.gc_table.specs.PlainSteps.{meaning_after, meanings_after, catalogue_seen, AsksIn, changes_heap}
use Rattle.mark_core.specs.Numbers.{most_seats}

-- the state in which nothing has happened meets the rule
abbrev pub StartMeetsRule : Type 0
StartMeetsRule = (sh : Shape) (plan : List (List Op)) (n : ℕ) → IsShape sh → 1 ≤ n → n ≤ most_seats → IsState (start_state sh plan n)

-- each event that is allowed, and whose step meets what is asked besides, keeps it
abbrev pub EventsKeepRule : Type 0
EventsKeepRule =
    (x : TableState) (e : Event) (s : SeatState) → IsState x → slice_get x.core.seats e.seat ≡ Some s → failing_part x.core e ≡ None → NumbersFit e.step → AskedIn x s e.step → IsState (state_after x e)

-- the state in which nothing has happened stands for empty heaps
abbrev pub StartStands : Type 0
StartStands = (sh : Shape) (n : ℕ) → IsShape sh → StandsFor (start_core sh n) (start_meanings sh)

-- each event that is allowed, and whose step meets what is asked besides, keeps it: the words stand for the heaps after the step
abbrev pub EventsKeepStands : Type 0
EventsKeepStands =
    (c : Core) (e : Event) (s : SeatState) (op : Op) (ms : List Meaning) → IsFalse c.shape.sharing → IsCore c → StandsFor c ms → slice_get c.seats e.seat ≡ Some s → AsksIn s ms e.step op → failing_part c e ≡ None
    → StandsFor (after_event c e) (meanings_after c.shape s e.step op ms)

-- the plain step of a store is one of a script: its variables, fields and values are in range
abbrev pub PlainStepsAreInRange : Type 0
PlainStepsAreInRange =
    (c : Core) (e : Event) (s : SeatState) (op : Op) (ms : List Meaning) → IsCore c → StandsFor c ms → slice_get c.seats e.seat ≡ Some s → AsksIn s ms e.step op → failing_part c e ≡ None → IsTrue (changes_heap e.step)
    → IsInRange c.shape.fields op

-- a step of a section's seat changes only the meaning of this section, by what it was and what the section sees of the catalogue
abbrev pub OneMeaningChanges : Type 0
OneMeaningChanges =
    (sh : Shape) (s : SeatState) (step : Step) (op : Op) (ms : List Meaning) (w : ℕ) (m : Meaning) → s.section ≡ Some w → slice_get ms w ≡ Some m → meanings_after sh s step op ms ≡ slice_set ms w (meaning_after sh s (catalogue_seen ms w) step op m)

-- at most one cell of a section is made for the next object
abbrev pub OneCellIsNext : Type 0
OneCellIsNext =
    (c : Core) (m : Meaning) (x y : ℕ) → let w = words_of c.shape c.words in IsCore c → IsTrue (in_use w.allocs (makers c.seats) x) → IsTrue (in_use w.allocs (makers c.seats) y)
    → section_of_cell w.identities x ≡ section_of_cell w.identities y → IsForNextObject c.shape w.identities w.values w.fields m x → IsForNextObject c.shape w.identities w.values w.fields m y → x ≡ y

-- cell x holds the object of this name
abbrev pub IsCellOfObject : Core → List Meaning → Name → ℕ → Type 0
IsCellOfObject c ms name x =
    let w = words_of c.shape c.words in
    IsTrue (in_use w.allocs (makers c.seats) x) × (name_at w.identities x ≡ name)
    × ((m : Meaning) × (slice_get ms name.section ≡ Some m) × HoldsObject c.shape w.identities w.values w.fields (object_count ms) m x)

-- each reachable object has a cell, and this cell is reachable
abbrev pub ReachableObjectsHaveCells : Type 0
ReachableObjectsHaveCells =
    (c : Core) (ms : List Meaning) → IsCore c → StandsFor c ms → (name : Name) → IsReachable (heaps_of ms) name → (x : ℕ) × IsCellOfObject c ms name x × IsReachableIn c x

-- a reachable cell holds an object, and this object is reachable; so no cell that is made for the next object is reachable
abbrev pub ReachableCellsHaveObjects : Type 0
ReachableCellsHaveObjects =
    (c : Core) (ms : List Meaning) → IsCore c → StandsFor c ms → (x : ℕ) → IsReachableIn c x
    → IsCellOfObject c ms (name_at (words_of c.shape c.words).identities x) x × IsReachable (heaps_of ms) (name_at (words_of c.shape c.words).identities x)

-- these events are one interleaving of what the seats did: a run of the core from the start, on which each state is sound, and which ends in these words
pub record IsRunOf (sh : Shape) (seats : List HeapSeat) (w : Words) (es : List Event) : Type 0 where
  pub allowed : first_refused 0 es (start_core sh 1) ≡ None
  -- the log of each seat is its part of the run, each step with the word that it found there, or stored
  pub parts : (i : ℕ) (s : HeapSeat) → slice_get seats i ≡ Some s → (view_of s).log ≡ log_of sh es i
  -- if all seats of the heap are among these, nobody else has a part
  pub no_others : (s : HeapSeat) → slice_get seats 0 ≡ Some s → (view_of s).opened ≡ length seats → (i : ℕ) → length seats ≤ i → log_of sh es i ≡ []
  -- it goes on from what each seat had seen while the heap was open
  pub since : (i : ℕ) (s : HeapSeat) → slice_get seats i ≡ Some s → Begins (seen_of s) es
  pub sound : (n : ℕ) → IsCore (run_of (take n es) (start_core sh 1))
  pub ends : AreWords sh (run_of es (start_core sh 1)).words w
  -- in the end no seat with a section is at work, of those that were handed in
  pub resting : (j : ℕ) (r : SeatState) (k : ℕ) → j < length seats → slice_get (run_of es (start_core sh 1)).seats j ≡ Some r → r.section ≡ Some k → IsResting seats r

-- whatever threads did with the seats of a heap that was closed, there is such a run
abbrev pub ClosedHeapsRan : Type 0
ClosedHeapsRan = (sh : Shape) (seats : List HeapSeat) (w : Words) → IsEnd sh seats w → (es : List Event) × IsRunOf sh seats w es
