-- What has happened on a heap: the events of all seats, in the order in which the table did them.
use Rattle.std.specs.Prelude.{ℕ, ◌≡◌, ◌==◌, if◌then◌else◌, List, [], ◌∷◌, ◌++◌, Option, None, Some, slice_get, slice_index, Contains}
use Rattle.std.specs.List.{All}
use Rattle.mark_core.specs.Layout.{address}
use Rattle.mark_core.specs.Effects.{place, written}
use Rattle.mark_core.specs.Laws.{NumbersFit}
use Rattle.mark_core.specs.Start.{spent_seat}
use Rattle.mark_core.specs.Steps.{Core, after_event, first_refused, run_of, start_core}
use Rattle.mark_core.specs.declared.kinds.Event.{Event}
use Rattle.mark_core.specs.declared.kinds.Shape.{Shape}
use Rattle.mark_core.specs.declared.kinds.Step.{Step}
use Rattle.mark_core.specs.declared.seat.SeatState.{SeatState}
use Rattle.gc_table.specs.declared.view.Entry.{Entry}
use Rattle.gc_table.specs.declared.view.View.{View}
use Rattle.gc_table.specs.Entries.{event, is_store, is_logged}

-- the word that an entry tells: the one that a store stores, and otherwise the one that the step finds
abbrev pub word_told : Core → SeatState → Step → ℕ
word_told c s step = if is_store step then written c.shape s step 0 else slice_index c.words (address c.shape (place c.shape s step))

-- what an event adds to the log of its seat, if the seat's record was looked up
abbrev pub entries_of : Core → Option SeatState → Step → List Entry
entries_of c None step = []
entries_of c (Some s) step = if is_logged step then event step (word_told c s step) ∷ [] else []

-- what an event adds to the log of seat i
abbrev pub adds : ℕ → Core → Event → List Entry
adds i c e = if e.seat == i then entries_of c (slice_get c.seats e.seat) e.step else []

-- what these events add to the log of seat i, from this state on
abbrev pub log_from : ℕ → Core → List Event → List Entry
log_from i c [] = []
log_from i c (e ∷ es) = adds i c e ++ log_from i (after_event c e) es

-- the log of seat i, if these events are all that has happened: a single seat, the first, makes the others
abbrev pub log_of : Shape → List Event → ℕ → List Entry
log_of sh es i = log_from i (start_core sh 1) es

-- these events, each allowed in its turn, lead from the start to this state
pub record LeadTo (sh : Shape) (es : List Event) (c : Core) : Type 0 where
  pub allowed : first_refused 0 es (start_core sh 1) ≡ None
  pub fit : All (λ (e : Event). NumbersFit e.step) es
  pub leads : run_of es (start_core sh 1) ≡ c

-- this is the log of seat k, which was joined into another and takes no step any more
abbrev pub IsLogOf : Shape → List Event → Core → ℕ → List Entry → Type 0
IsLogOf sh es c k l = (l ≡ log_of sh es k) × (slice_get c.seats k ≡ Some (spent_seat sh k))

-- the view has the log of its seat i, and those of the seats that it took in, as they are
pub record IsLogged (sh : Shape) (es : List Event) (c : Core) (i : ℕ) (v : View) : Type 0 where
  pub log : v.log ≡ log_of sh es i
  pub logs : (k : ℕ) (l : List Entry) → Contains v.logs (k, l) → IsLogOf sh es c k l
