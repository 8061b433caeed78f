-- What the seats of an open heap did, as one run.
use Rattle.std.specs.Prelude.{ℕ, ◌≡◌, ◌≢◌, ◌≤◌, List, [], ◌∷◌, ◌++◌, None, Some, IsFalse, Contains, length, slice_get}
use mathlib.Core.Option.{some}
use lib.ListN.{get_elem?}
use Rattle.atomic_table.specs.Table.{State}
use Rattle.plain_heap.specs.declared.operation.Op.{Op}
use Rattle.mark_core.specs.Steps.{first_refused, start_core}
use Rattle.mark_core.specs.Laws.{IsCore}
use Rattle.mark_core.specs.declared.kinds.Event.{Event}
use Rattle.mark_core.specs.declared.kinds.Shape.{Shape}
use Rattle.mark_core.specs.declared.kinds.Step.{Step}
use Rattle.gc_table.specs.declared.seat.HeapSeat.{HeapSeat}
use Rattle.gc_table.specs.declared.view.Entry.{Entry}
use Rattle.gc_table.specs.declared.view.TokenState.{TokenState}
use Rattle.gc_table.specs.Agreement.{AgreesWith}
use Rattle.gc_table.specs.AgreementLaws.{TellsOf}
use Rattle.gc_table.specs.Past.{log_of}
use Rattle.gc_table.specs.Runs.{core_after}
use Rattle.gc_table.specs.Seats.{seen_of, view_of}
use Rattle.gc_table.specs.Seen.{Begins, OneHistory, Saw, seats_of}
use Rattle.gc_table.specs.Sharing.{heap_after_events}

-- these events, each allowed in its turn, are one run of the core; after each of them the words agree with one plain heap of all sections, and each found what this heap had just before
pub record IsOpenRun (sh : Shape) (es : List Event) : Type 0 where
  pub allowed : first_refused 0 es (start_core sh 1) ≡ None
  pub sound : (k : ℕ) → IsCore (core_after sh 1 es k)
  pub agrees : (k : ℕ) → AgreesWith (core_after sh 1 es k) (heap_after_events sh es k)
  pub tells : (k : ℕ) (e : Event) → slice_get es k ≡ Some e → TellsOf (core_after sh 1 es k) (heap_after_events sh es k) (slice_get (core_after sh 1 es k).seats e.seat) e.step

-- the first list of entries begins the second
abbrev pub LogBegins : List Entry → List Entry → Type 0
LogBegins l m = (more : List Entry) × (m ≡ l ++ more)

-- what a seat of an open heap has seen is such a run, and the seat's whole log is its part of it
abbrev pub SeatsSeeRuns : Type 0
SeatsSeeRuns = (s : HeapSeat) → ∥ IsOpenRun (view_of s).shape (seen_of s) × ((view_of s).log ≡ log_of (view_of s).shape (seen_of s) (view_of s).state.number) ∥₁

-- a step that a seat takes after another finds its word where a history led that goes on from the other's
abbrev pub StepsFollow : Type 0
StepsFollow =
    (k l m : TokenState) (first second : Step) (a b : ℕ) (p : Saw first a k l) (q : Saw second b l m) → Begins (p.0.past ++ record { seat = p.0.index; step = first } ∷ []) q.0.past

-- token i is that of a seat that takes steps
abbrev pub IsSeatAt : State (Unit {0}) TokenState → ℕ → TokenState → Type 0
IsSeatAt s i k = (get_elem? s.views i ≡ some k) × IsFalse k.stamp × IsFalse k.view.state.spent

-- of all seats of the table these events are one run
pub record IsRunOfAll (sh : Shape) (s : State (Unit {0}) TokenState) (es : List Event) : Type 0 where
  pub run : IsOpenRun sh es
  -- the log of each seat is its part, and no two seats have one part
  pub parts : (i : ℕ) (k : TokenState) → IsSeatAt s i k → k.view.log ≡ log_of sh es k.view.state.number
  pub apart : (i j : ℕ) (k l : TokenState) → IsSeatAt s i k → IsSeatAt s j l → j ≢ i → l.view.state.number ≢ k.view.state.number
  -- so are the logs of the seats that it took in
  pub joined : (i : ℕ) (k : TokenState) → IsSeatAt s i k → (n : ℕ) (l : List Entry) → Contains k.view.logs (n, l) → l ≡ log_of sh es n
  -- nobody else has a part
  pub no_others : (n : ℕ) → length (seats_of s.views) ≤ n → log_of sh es n ≡ []
  -- it goes on from all that seats and stamps have seen
  pub since : (i : ℕ) (k : TokenState) → get_elem? s.views i ≡ some k → Begins k.seen es

-- at any moment at which the rule of the table holds, all that has happened is such a run
abbrev pub SeatsShareRun : Type 0
SeatsShareRun = (sh : Shape) (plan : List (List Op)) (s : State (Unit {0}) TokenState) (o : OneHistory sh plan s) → IsRunOfAll sh s o.holds.past
