-- The turns of a tracer, by its events: what comes after each read of the number of parts that were played.
use Rattle.std.specs.Prelude.{ℕ, ◌≡◌, ◌<◌, ◌==◌, ◌&&◌, ◌||◌, if◌then◌else◌, List, [], ◌∷◌, ◌++◌, not, nat_le, nat_lt, Bool, true, false, Some, IsTrue}
use Rattle.mark_core.specs.Numbers.{done_count}
use Rattle.mark_core.specs.Bits.{has_flag}
use Rattle.mark_core.specs.Effects.{seat_after}
use Rattle.mark_core.specs.Seats.{phase_of, saw}
use Rattle.mark_core.specs.declared.kinds.Phase.{Phase}
use Rattle.mark_core.specs.declared.kinds.Phase.TheVariants.{Marking, Full}
use Rattle.mark_core.specs.declared.kinds.Shape.{Shape}
use Rattle.mark_core.specs.declared.kinds.Step.{Step}
use Rattle.mark_core.specs.declared.kinds.Step.TheVariants.{ReadPhase, EnterStep, LeaveStep, ReadStat}
use Rattle.mark_core.specs.declared.seat.SeatState.{SeatState}
use Rattle.gc_table.specs.declared.view.Entry.{Entry}
use Rattle.gc_table.specs.Entries.{event}
use Rattle.packet_pools.specs.Counts.{count_of}
use Rattle.packet_pools.specs.Seeking.{some_event}
use Rattle.tracer.specs.Moments.{at_some_moment, finds_no_work}
use Rattle.tracer.specs.Tally.{pops}
use Rattle.gc_cycle.specs.Events.{never}
use Rattle.gc_cycle.specs.Sorts.{enters, enters_freely, looks_at_phase, tries_marking}
use Rattle.gc_cycle.specs.Sorts.{reads_phase as sees_phase}
use Rattle.gc_cycle.specs.Statistics.{numbers_changed, tells}
use Rattle.seat_turns.specs.Tending.{turn_quota}

-- a read of the number of parts that were played
abbrev pub is_read_of_done : Step → Bool
is_read_of_done (ReadStat which) = which == done_count
is_read_of_done step = false

-- any other step
abbrev pub leaves_done : Step → Bool
leaves_done step = not (is_read_of_done step)

-- the record after these events
abbrev pub record_after : Shape → SeatState → List Entry → SeatState
record_after sh s [] = s
record_after sh s (e ∷ es) = record_after sh (seat_after sh s e.step e.found) es

-- a read of that number, the seat's record then, and what came after it
pub record Turn : Type 0 where
  pub found : ℕ
  pub state : SeatState
  pub rest : List Entry

-- the events before the first such read
abbrev pub lead : List Entry → List Entry
lead [] = []
lead (e ∷ es) = if is_read_of_done e.step then [] else e ∷ lead es

-- all such reads, of a seat with this record
abbrev pub turns_of : Shape → SeatState → List Entry → List Turn
turns_of sh s [] = []
turns_of sh s (e ∷ es) =
    let t = seat_after sh s e.step e.found in
    if is_read_of_done e.step then record { found = e.found; state = t; rest = lead es } ∷ turns_of sh t es else turns_of sh t es

-- the seat tries to enter
abbrev pub tries_enter : Step → Bool
tries_enter EnterStep = true
tries_enter step = false

-- a read of the phase
abbrev pub is_read_of_phase : Step → Bool
is_read_of_phase ReadPhase = true
is_read_of_phase step = false

-- the first phase that is read is Full
abbrev pub sees_full : List Entry → Bool
sees_full [] = false
sees_full (e ∷ es) = if is_read_of_phase e.step then saw (Some (phase_of e.found)) Full else sees_full es

-- the seat tries to enter, finds no flag, and then reads the phase as Full
abbrev pub enters_full : List Entry → Bool
enters_full [] = false
enters_full (e ∷ es) = if tries_enter e.step then not (has_flag e.found) && sees_full es else enters_full es

-- after this turn nothing more is to be traced: all parts were played, or the heap is full
abbrev pub is_last : ℕ → Turn → Bool
is_last until t = nat_le until t.found || enters_full t.rest

-- the seat leaves
abbrev pub is_leave : Step → Bool
is_leave LeaveStep = true
is_leave step = false

-- the events before the seat leaves
abbrev pub until_leave : List Entry → List Entry
until_leave [] = []
until_leave (e ∷ es) = if is_leave e.step then [] else e ∷ until_leave es

-- as many cells were popped as a turn traces, or fewer, and at some moment nothing was left in hand and there was no packet to read from
abbrev pub seat_traces_on : Shape → SeatState → List Entry → Bool
seat_traces_on sh s es = (count_of pops es == turn_quota) || (nat_lt (count_of pops es) turn_quota && at_some_moment sh (finds_no_work sh) (record { state = s; deferring = [] }) es)

-- each time that the phase was read as Marking, it traced from there on
abbrev pub seat_traces_where_marking : Shape → SeatState → List Entry → Bool
seat_traces_where_marking sh s [] = true
seat_traces_where_marking sh s (e ∷ es) =
    let t = seat_after sh s e.step e.found in (not (sees_phase Marking e.step e.found) || seat_traces_on sh t es) && seat_traces_where_marking sh t es

-- what the seat does from where it entered to where it leaves: it reads the phase, and in Marking it traces
abbrev pub visits : Shape → SeatState → List Entry → Bool
visits sh s es = some_event looks_at_phase es && seat_traces_where_marking sh s es

-- each time that the seat enters while no stop is under way, it reads the phase before it leaves, and in Marking it traces
abbrev pub each_visit : Shape → SeatState → List Entry → Bool
each_visit sh s [] = true
each_visit sh s (e ∷ es) =
    let t = seat_after sh s e.step e.found in (not (enters_freely e.step e.found) || visits sh t (until_leave es)) && each_visit sh t es

-- the number of traced cells is raised by this many
abbrev pub payment : ℕ → List Step
payment n = if n == 0 then [] else tells n ∷ []

-- what was popped was told by one step, and no other number was changed, or set to 0
abbrev pub PaysForPops : List Entry → Type 0
PaysForPops es = numbers_changed es ≡ payment (count_of pops es)

-- each time that the seat enters while no stop is under way, what it pops before it leaves is reported by one step, and no other number is changed
abbrev pub EachPays : List Entry → Type 0
EachPays [] = Unit {0}
EachPays (e ∷ es) = (IsTrue (enters_freely e.step e.found) → PaysForPops (until_leave es)) × EachPays es

-- what is told of all visits: for each time that the seat enters while no stop is under way, what it pops before it leaves
abbrev pub payments : List Entry → List Step
payments [] = []
payments (e ∷ es) = (if enters_freely e.step e.found then payment (count_of pops (until_leave es)) else []) ++ payments es

-- no number was changed or set to 0 but to tell of visits, whatever the seat popped as a helper
abbrev pub PaysAlone : List Entry → Type 0
PaysAlone es = numbers_changed es ≡ payments es

-- no number was changed or set to 0, and no cycle was begun
pub record LeavesNumbers (es : List Entry) : Type 0 where
  pub numbers : numbers_changed es ≡ []
  pub unbegun : IsTrue (never tries_marking es)

-- what a turn does, and whether it is the last: while parts are left to play the seat tries to enter, and it begins no cycle
pub record IsTracerTurn (sh : Shape) (until : ℕ) (last : Bool) (t : Turn) : Type 0 where
  pub tries : t.found < until → IsTrue (some_event enters t.rest)
  pub traces : IsTrue (each_visit sh t.state t.rest)
  pub pays : EachPays t.rest
  pub alone : PaysAlone t.rest
  pub unbegun : IsTrue (never tries_marking t.rest)
  pub ends : last ≡ is_last until t

-- turn t is the last if no turn follows; else it is not, and the rest holds
abbrev pub then_turns : Shape → ℕ → Turn → List Turn → Type 0 → Type 0
then_turns sh until t [] rest = IsTracerTurn sh until true t
then_turns sh until t (u ∷ us) rest = IsTracerTurn sh until false t × rest

-- turns, of which the last in the list is the last, and no other
abbrev pub AreTurns : Shape → ℕ → List Turn → Type 0
AreTurns sh until [] = ⊥
AreTurns sh until (t ∷ ts) = then_turns sh until t ts (AreTurns sh until ts)

-- a tracer, with this record at first, ran until it read that this many parts were played, or that the heap was full, and no longer
pub record HasTakenTurns (sh : Shape) (until : ℕ) (s : SeatState) (es : List Entry) : Type 0 where
  pub first : lead es ≡ []
  pub turns : AreTurns sh until (turns_of sh s es)

-- turns, none of them the last
abbrev pub AllTurns : Shape → ℕ → List Turn → Type 0
AllTurns sh until [] = Unit {0}
AllTurns sh until (t ∷ ts) = IsTracerTurn sh until false t × AllTurns sh until ts

-- no read of the number of parts
abbrev pub ReadsNoParts : List Entry → Type 0
ReadsNoParts es = lead es ≡ es

-- the seat read no number of parts, and did not try to enter
pub record WaitsOutside (es : List Entry) : Type 0 where
  pub quiet : ReadsNoParts es
  pub outside : IsTrue (never enters es)

-- the phase was read
abbrev pub SeesPhase : Phase → List Entry → Type 0
SeesPhase p es = (n : ℕ) × (p ≡ phase_of n) × (es ≡ event ReadPhase n ∷ [])

-- one turn of a seat with this record, and whether it is the last
pub record IsOneTurn (sh : Shape) (until : ℕ) (last : Bool) (s : SeatState) (es : List Entry) : Type 0 where
  pub turn : Turn
  pub first : lead es ≡ []
  pub only : turns_of sh s es ≡ turn ∷ []
  pub is : IsTracerTurn sh until last turn

-- what a seat with this record does inside after it saw that marking is under way: it neither leaves, enters nor reads the phase
pub record TracesInside (sh : Shape) (s : SeatState) (es : List Entry) : Type 0 where
  pub traces : IsTrue (seat_traces_on sh s es)
  pub pays : PaysForPops es
  pub unbegun : IsTrue (never tries_marking es)
  pub stays_in : until_leave es ≡ es
  pub blind : IsTrue (never looks_at_phase es)
  pub waits : WaitsOutside es

-- what a seat that entered does up to where it leaves, and whether it saw that the heap is full
pub record IsVisit (sh : Shape) (full : Bool) (s : SeatState) (es : List Entry) : Type 0 where
  pub sees : IsTrue (visits sh s (until_leave es))
  pub pays : PaysForPops (until_leave es)
  pub alone : numbers_changed es ≡ payment (count_of pops (until_leave es))
  pub unbegun : IsTrue (never tries_marking es)
  pub waits : WaitsOutside es
  pub ends : full ≡ sees_full es
