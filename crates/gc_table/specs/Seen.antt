-- What the tokens of a heap have seen of what happened on it: histories of which one goes on where the other ends.
use Rattle.std.specs.Prelude.{ℕ, false, true, ◌≡◌, ◌⊎◌, zero, suc, List, [], ◌∷◌, ◌++◌, if◌then◌else◌, Contains}
use mathlib.Core.Option.{some}
use lib.ListN.{get_elem?}
use Rattle.atomic_table.specs.Table.{State}
use Rattle.plain_heap.specs.declared.operation.Op.{Op}
use Rattle.mark_core.specs.declared.kinds.Event.{Event}
use Rattle.mark_core.specs.declared.kinds.Shape.{Shape}
use Rattle.mark_core.specs.declared.kinds.Step.{Step}
use Rattle.gc_table.specs.declared.view.TokenState.{TokenState}
use Rattle.gc_table.specs.declared.view.View.{View}
use Rattle.gc_table.specs.Past.{LeadTo, log_of}
use Rattle.gc_table.specs.TableState.{TableState, start_state}
use Rattle.gc_table.specs.Rule.{Holds, IsState, Leads, newcomer, nobody, opened_by, opens, takes_in}
use Rattle.gc_table.specs.Taking.{Finds}

-- the second list begins with the first
abbrev pub Begins : List Event → List Event → Type 0
Begins es fs = (more : List Event) × (fs ≡ es ++ more)

-- these events led from the start to a state that meets the rule, by states that did
pub record IsHistory (sh : Shape) (plan : List (List Op)) (es : List Event) : Type 0 where
  pub state : TableState
  pub whole : IsState state
  pub led : LeadTo sh es state.core
  pub came : Leads es (start_state sh plan 1) state

-- what was seen is a history, and the log is the seat's part of it
pub record Recalls (k : TokenState) : Type 0 where
  pub history : IsHistory k.view.shape k.view.plan k.seen
  pub log : k.view.log ≡ log_of k.view.shape k.seen k.view.state.number

-- the same token with this view, that has seen these events
abbrev pub sees : TokenState → View → List Event → TokenState
sees k v es = record k { view = v; seen = es }

-- the views of the seats, without the stamps
abbrev pub seats_of : List TokenState → List View
seats_of [] = []
seats_of (k ∷ ks) = if k.stamp then seats_of ks else k.view ∷ seats_of ks

-- how many seats stand before token i
abbrev pub rank : List TokenState → ℕ → ℕ
rank [] i = 0
rank (k ∷ ks) zero = 0
rank (k ∷ ks) (suc i) = if k.stamp then rank ks i else suc (rank ks i)

-- the table without the stamps
abbrev pub seats_in : State (Unit {0}) TokenState → State (Unit {0}) View
seats_in s = record { words = s.words; homes = s.homes; views = seats_of s.views }

-- what holds between any two steps: the rule of the seats, and that all that was seen or told is the beginning of what has happened
pub record OneHistory (sh : Shape) (plan : List (List Op)) (s : State (Unit {0}) TokenState) : Type 0 where
  pub holds : Holds sh plan (seats_in s)
  pub seen : (i : ℕ) (k : TokenState) → get_elem? s.views i ≡ some k → Begins k.seen holds.past
  pub heard : (i : ℕ) (k : TokenState) (es : List Event) → get_elem? s.views i ≡ some k → Contains k.heard es → Begins es holds.past

-- the step is the last event that its seat has seen then, and came after all that it had seen before
abbrev pub StepsOn : Step → TokenState → TokenState → Type 0
StepsOn step k l = (past : List Event) × Begins k.seen past × ((i : ℕ) × (l.seen ≡ past ++ record { seat = i; step = step } ∷ []))

-- the same, and it found its word where the events before it had led
abbrev pub Saw : Step → ℕ → TokenState → TokenState → Type 0
Saw step n k l = (f : Finds step n k.view) × Begins k.seen f.past × (l.seen ≡ f.past ++ record { seat = f.index; step = step } ∷ [])

-- at some moment these events were all that had happened, and the rule held
abbrev pub WereAll : Shape → List (List Op) → List Event → Type 0
WereAll sh plan es = (s : State (Unit {0}) TokenState) × (o : OneHistory sh plan s) × (o.holds.past ≡ es)

-- what the seat has seen then is all that has happened; it goes on from what the seat had seen, and from all that it was told
abbrev pub Learns : TokenState → TokenState → Type 0
Learns k l = Begins k.seen l.seen × ((es : List Event) → Contains k.heard es → Begins es l.seen) × WereAll l.view.shape l.view.plan l.seen

-- the seat has seen these events, or was told them
abbrev pub HasSeen : TokenState → List Event → Type 0
HasSeen k es = (k.seen ≡ es) ⊎ Contains k.heard es

-- the token of a seat that has done nothing
abbrev pub newcomer_token : Shape → List (List Op) → ℕ → TokenState
newcomer_token sh plan i = record { view = newcomer sh plan i; seen = []; heard = []; stamp = false }

-- the first seat makes another
abbrev pub opens_in : TokenState → TokenState
opens_in k = record k { view = opens k.view }

abbrev pub opened_in : TokenState → TokenState
opened_in k = record { view = opened_by k.view; seen = []; heard = []; stamp = false }

-- a seat takes in another, and is told what that one had seen
abbrev pub takes_in_token : TokenState → TokenState → TokenState
takes_in_token k l = record k { view = takes_in k.view l.view; heard = l.seen ∷ k.heard }

abbrev pub nobody_token : TokenState
nobody_token = record { view = nobody; seen = []; heard = []; stamp = false }

-- the stamp of a seat or of a stamp
abbrev pub stamped : TokenState → TokenState
stamped k = record k { stamp = true }

-- the same token
abbrev pub same_token : TokenState → TokenState
same_token k = k

-- a seat is told what a stamp has
abbrev pub hears : TokenState → TokenState → TokenState
hears k l = record k { heard = l.seen ∷ k.heard }

-- what is left of a stamp
abbrev pub no_stamp : TokenState
no_stamp = record { view = nobody; seen = []; heard = []; stamp = true }
