-- The rule of the table. It speaks of a state of the core, made of the words and of the records of all seats, of what each section has come to, and of how each
-- seat's view agrees with them.
use Rattle.std.specs.Prelude.{ℕ, false, ◌≡◌, ◌⊎◌, ◌≤◌, ◌+◌, List, [], ◌∷◌, ◌++◌, if◌then◌else◌, ◌==◌, slice_get, length, IsTrue, IsFalse, Option, None, Some, Contains}
use mathlib.Core.Option.{some}
use lib.ListN.{get_elem?}
use Rattle.atomic_table.specs.Table.{State}
use Rattle.mark_core.specs.Start.{start_seat, spent_seat}
use Rattle.mark_core.specs.Steps.{Core, failing_part}
use Rattle.mark_core.specs.Laws.{IsCore}
use Rattle.mark_core.specs.Swept.{IsSweptCore}
use Rattle.mark_core.specs.Notes.{word_at, steady, keeps_bound}
use Rattle.plain_heap.specs.declared.operation.Op.{Op}
use Rattle.mark_core.specs.declared.kinds.Event.{Event}
use Rattle.mark_core.specs.declared.kinds.Shape.{Shape}
use Rattle.mark_core.specs.declared.seat.SeatState.{SeatState}
use Rattle.gc_table.specs.declared.view.View.{View}
use Rattle.gc_table.specs.declared.view.SectionState.{SectionState}
use Rattle.mark_core.specs.Places.{the_phase}
use Rattle.gc_table.specs.Notes.{Notes, look}
use Rattle.gc_table.specs.Fetching.{Fetched}
use Rattle.gc_table.specs.Stopping.{Unmoved}
use Rattle.gc_table.specs.StandsFor.{StandsFor}
use Rattle.gc_table.specs.Sections.{start_section}
use Rattle.gc_table.specs.TableState.{TableState, meanings_of, state_after, start_state}
use Rattle.gc_table.specs.Told.{IsTold}
use Rattle.gc_table.specs.Past.{LeadTo, IsLogged}
use Rattle.gc_table.specs.declared.view.Entry.{Entry}

-- the record of seat k; a seat that was joined into another has that of a spent seat
abbrev pub record_of : Shape → ℕ → View → SeatState
record_of sh k v = if v.state.spent then spent_seat sh k else v.state

-- the records of all seats, counted from k
abbrev pub records_from : Shape → ℕ → List View → List SeatState
records_from sh k [] = []
records_from sh k (v ∷ vs) = record_of sh k v ∷ records_from sh (k + 1) vs

-- the state of the core that the table shows
abbrev pub core_of : Shape → State (Unit {0}) View → Core
core_of sh s = record { shape = sh; words = s.words; seats = records_from sh 0 s.views }

-- the state that the table shows, with the plan and what the sections have come to
abbrev pub table_state : Shape → List (List Op) → List SectionState → State (Unit {0}) View → TableState
table_state sh plan xs s = record { core = core_of sh s; plan = plan; sections = xs }

-- what holds of the words, of all records and of the sections
pub record IsState (x : TableState) : Type 0 where
  pub core : IsCore x.core
  pub swept : IsSweptCore x.core
  pub sections : length x.sections ≡ x.core.shape.sections
  -- if objects aren't shared, the words of each section stand for a plain heap of its own
  pub stands : IsFalse x.core.shape.sharing → StandsFor x.core (meanings_of x.sections)
  pub told : IsTold x

-- these events, each allowed in its turn, lead from the one state to the other, and each state on the way meets the rule
abbrev pub Leads : List Event → TableState → TableState → Type 0
Leads [] x y = x ≡ y
Leads (e ∷ es) x y = IsState x × (failing_part x.core e ≡ None) × Leads es (state_after x e) y

-- each note may be kept while others step, and is true
abbrev pub Noted : Core → View → Type 0
Noted c v = (at : ℕ × ℕ) (n : ℕ) → look at v.known ≡ Some n → IsTrue (steady v.state at n) × (word_at c.shape c.words at ≡ n)

-- each floor may be kept while others step, and no counter is below
abbrev pub Floored : Core → View → Type 0
Floored c v = (at : ℕ × ℕ) (n : ℕ) → look at v.floors ≡ Some n → IsTrue (keeps_bound v.state at) × (n ≤ word_at c.shape c.words at)

-- the view has each section whose seat was joined into this one, as it is
abbrev pub HasJoined : TableState → View → Type 0
HasJoined x v = (w : ℕ) (y : SectionState) → Contains v.joined (w, y) → (slice_get x.sections w ≡ Some y) × (slice_get x.core.seats w ≡ Some (spent_seat x.core.shape w))

-- what holds of the view of the unspent seat i
pub record Agrees (x : TableState) (i : ℕ) (v : View) : Type 0 where
  pub shape : v.shape ≡ x.core.shape
  pub seat : slice_get x.core.seats i ≡ Some v.state
  pub noted : Noted x.core v
  pub floored : Floored x.core v
  pub fetched : Fetched x.core v
  pub stopped : Unmoved x.core v
  pub plan : v.plan ≡ x.plan
  -- the view has the seat's own section as it is
  pub own : (w : ℕ) → v.state.section ≡ Some w → slice_get x.sections w ≡ Some v.own
  pub joined : HasJoined x v

-- what holds between any two steps
pub record Holds (sh : Shape) (plan : List (List Op)) (s : State (Unit {0}) View) : Type 0 where
  pub sections : List SectionState
  pub whole : IsState (table_state sh plan sections s)
  pub each : (i : ℕ) (v : View) → get_elem? s.views i ≡ some v → IsFalse v.state.spent → Agrees (table_state sh plan sections s) i v
  -- the first seat makes the others
  pub opened : (v : View) → get_elem? s.views 0 ≡ some v → v.opened ≡ length s.views
  -- these events led from the start to the words and records that are there, and each log is its seat's part of them
  pub past : List Event
  pub led : LeadTo sh past (core_of sh s)
  -- they led to what the sections have come to, too
  pub came : Leads past (start_state sh plan 1) (table_state sh plan sections s)
  pub logged : (i : ℕ) (v : View) → get_elem? s.views i ≡ some v → IsFalse v.state.spent → IsLogged sh past (core_of sh s) i v

-- some state that meets the rule agrees with the view
pub record IsPossible (v : View) : Type 0 where
  pub state : TableState
  pub index : ℕ
  pub whole : IsState state
  pub agrees : Agrees state index v
  pub live : IsFalse v.state.spent

-- a seat that has done nothing
abbrev pub newcomer : Shape → List (List Op) → ℕ → View
newcomer sh plan k =
    record { shape = sh; state = start_seat sh k; log = []; known = []; floors = []; opened = 1; plan = plan; own = start_section sh k; joined = []; logs = [] }

-- the first seat makes another
abbrev pub opens : View → View
opens v = record v { opened = v.opened + 1 }

-- the seat that the first seat makes next
abbrev pub opened_by : View → View
opened_by v = newcomer v.shape v.plan v.opened

-- the seat's own section, if it has one
abbrev pub own_entry : Option ℕ → SectionState → List (ℕ × SectionState)
own_entry None x = []
own_entry (Some w) x = (w, x) ∷ []

-- the seat knows that the heap was found full
abbrev pub KnowsFull : View → Type 0
KnowsFull v = look the_phase v.known ≡ Some 5

-- a seat is told of the phase by another that knows that the heap was found full, as the heap stays so
abbrev pub told_full : Option ℕ → Notes → Notes
told_full None notes = notes
told_full (Some n) notes = if n == 5 then (the_phase, Some 5) ∷ notes else notes

-- a seat takes in another: it keeps what the other's section has come to, its log, the sections and logs that the other took in, and that the heap was found
-- full
abbrev pub takes_in : View → View → View
takes_in v w =
    record v {
      known = told_full (look the_phase w.known) v.known;
      joined = v.joined ++ (own_entry w.state.section w.own ++ w.joined);
      logs = v.logs ++ (w.state.number, w.log) ∷ w.logs;
    }

-- no sizes
abbrev pub no_shape : Shape
no_shape = record { cells = 0; packets = 0; entries = 0; sections = 0; fields = 0; objects = 0; sharing = false; slots = 0; stretch = 0 }

-- what is left of a seat that was joined into another
abbrev pub nobody : View
nobody = record (newcomer no_shape [] 0) { state = spent_seat no_shape 0 }

-- the view has this section, by its seat or by one that it took in
abbrev pub HasSection : View → ℕ → SectionState → Type 0
HasSection v w x = ((v.state.section ≡ Some w) × (v.own ≡ x)) ⊎ Contains v.joined (w, x)

-- the view has this log of seat i, which is its seat or one that it took in
abbrev pub HasLog : View → ℕ → List Entry → Type 0
HasLog v i l = ((v.state.number ≡ i) × (v.log ≡ l)) ⊎ Contains v.logs (i, l)

-- the words are those of a state that meets the rule, and the last seat's view has all sections and logs as they are
pub record IsFinal (v : View) (ws : List ℕ) : Type 0 where
  pub state : TableState
  pub whole : IsState state
  pub words : state.core.words ≡ ws
  pub index : ℕ
  pub agrees : Agrees state index v
  pub past : List Event
  pub led : LeadTo state.core.shape past state.core
  pub came : Leads past (start_state state.core.shape state.plan 1) state
  pub logged : IsLogged state.core.shape past state.core index v
  -- the first seat knows how many there are
  pub opened : v.state.number ≡ 0 → v.opened ≡ length state.core.seats
