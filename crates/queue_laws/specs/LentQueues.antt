-- A queue that section 0 lends: one seat lays it out, others put in and take out, and their logs tell it.
use Rattle.std.specs.Prelude.{ℕ, ◌≡◌, ◌≢◌, ◌⊎◌, ◌<◌, ◌≤◌, ◌==◌, ◌&&◌, ◌||◌, if◌then◌else◌, List, [], ◌∷◌, ◌++◌, Bool, true, false, Option, None, Some, IsTrue, length, take}
use Rattle.plain_heap.specs.Paths.{Name}
use Rattle.mark_core.specs.Numbers.{section_variables}
use Rattle.mark_core.specs.Steps.{Core, run_of, start_core}
use Rattle.mark_core.specs.Steps.MutatorSteps.{seat_variable}
use Rattle.mark_core.specs.declared.kinds.Event.{Event}
use Rattle.mark_core.specs.declared.kinds.Shape.{Shape}
use Rattle.mark_core.specs.declared.kinds.Step.{Step}
use Rattle.mark_core.specs.declared.kinds.Step.TheVariants.{ExchangeField, ExchangeValue, HoldRoot, StoreField, StoreNew, StoreRoot, StoreValue}
use Rattle.mark_core.specs.declared.seat.SeatState.{SeatState}
use Rattle.gc_table.specs.AgreementLaws.{world_run}
use Rattle.gc_table.specs.Lending.{RefersTo, leaves_variable}
use Rattle.gc_table.specs.Log.{all_steps}
use Rattle.gc_table.specs.Past.{log_from, log_of}
use Rattle.gc_table.specs.RunWorlds.{World, start_world}
use Rattle.gc_table.specs.declared.view.Entry.{Entry}
use Rattle.heap_laws.specs.Lent.{holds_lent, lent_after, read_by}
use Rattle.heap_laws.specs.Moments.{IsHistory}
use Rattle.heap_laws.specs.Pairs.{is_source}
use Rattle.queue_laws.specs.Making.{makings, nothing_made}
use Rattle.queue_laws.specs.NumberLogs.{puts_told, takes_told, telling_at}
use Rattle.queue_laws.specs.Orders.{IsQueue}
use Rattle.queue_laws.specs.QueueLogs.{AreHands, Hands, fits}
use Rattle.queue_laws.specs.Queues.{Queue, by_seat, puts, takes}
use Rattle.queue_laws.specs.Reads.{readings}
use Rattle.queue_laws.specs.TakenNumbers.{AreNumbers}

-- the step changes no object
abbrev pub keeps_objects : Step → Bool
keeps_objects (StoreField v i x) = false
keeps_objects (StoreValue v n) = false
keeps_objects (ExchangeField v i x y) = false
keeps_objects (ExchangeValue v m n) = false
keeps_objects step = true

-- the step makes no object
abbrev pub makes_none : Step → Bool
makes_none (StoreNew c part word) = false
makes_none step = true

-- what the log of the seat that lays a queue out tells: the reference in the register, if it was lent; whether the queue's variable has what is lent; whether the
-- seat has made nothing; whether it had what is lent while it had made nothing; whether fields 0 and 1 have what the own variable has; and whether it did nothing else
-- to objects
pub record Laying : Type 0 where
  pub loaded : Option ℕ
  pub lent : Bool
  pub none : Bool
  pub apart : Bool
  pub first : Bool
  pub last : Bool
  pub only : Bool

-- field f has what the own variable has
abbrev pub laid_after : ℕ → ℕ → Bool → Step → Bool
laid_after own f b (StoreField v i x) = if i == f then true else b
laid_after own f b (StoreRoot v r) = if v == own then false else b
laid_after own f b (HoldRoot v r) = if v == own then false else b
laid_after own f b step = b

-- the step changes no object but what is lent, where it stores what the own variable has
abbrev pub only_lays : Hands → Bool → Step → Bool
only_lays h lent (StoreField v i x) = lent && ((v == h.queue) && is_source x (Some h.own))
only_lays h lent step = keeps_objects step

-- the same after a step that found this word; the object is lent in variable u of section 0
abbrev pub laying_after : ℕ → Hands → Laying → Step → ℕ → Laying
laying_after u h k step found =
    let lent = lent_after h.queue k.loaded k.lent step in
    let none = k.none && makes_none step in
    record {
      loaded = read_by u k.loaded step found;
      lent = lent;
      none = none;
      apart = k.apart || (lent && none);
      first = laid_after h.own 0 k.first step;
      last = laid_after h.own 1 k.last step;
      only = k.only && only_lays h k.lent step;
    }

-- the same after these entries
abbrev pub layings : ℕ → Hands → Laying → List Entry → Laying
layings u h k [] = k
layings u h k (e ∷ es) = layings u h (laying_after u h k e.step e.found) es

-- nothing was done
abbrev pub nothing_laid : Laying
nothing_laid = record { loaded = None; lent = false; none = true; apart = false; first = false; last = false; only = true }

-- the seat had what is lent before it made anything; then both its fields have a node that the seat made, and nothing else was changed
pub record LaysOut (fields u : ℕ) (h : Hands) (log : List Entry) : Type 0 where
  pub apart : IsTrue (layings u h nothing_laid log).apart
  pub first : IsTrue (layings u h nothing_laid log).first
  pub last : IsTrue (layings u h nothing_laid log).last
  pub only : IsTrue (layings u h nothing_laid log).only
  pub fresh : IsTrue (makings fields h.own nothing_made log).fresh

-- what is known of a variable before anything was done
abbrev pub word_by : ℕ → ℕ → List Entry → ℕ
word_by v u log = (readings v u 0 (record { word = 0; loaded = None; held = false }) log).word

-- the record's variables are those that the log tells
abbrev pub IsRecordAfter : List Entry → SeatState → Type 0
IsRecordAfter log s = (v u : ℕ) → v < section_variables → u < section_variables → v ≢ u → seat_variable s v ≡ word_by v u log

-- the seat had what is lent in the queue's variable, and left this variable since; and all that it did since fits
pub record UsesLent (fields u : ℕ) (h : Hands) (log more : List Entry) : Type 0 where
  pub lent : IsTrue (holds_lent u h.queue None false log)
  pub left : IsTrue (all_steps (leaves_variable h.queue) more)
  pub fit : (s : SeatState) → IsRecordAfter log s → (before after : List Entry) (x : Entry) → more ≡ before ++ x ∷ after → IsTrue (fits fields s h before x.step)

-- the seat is the first, or had done something, and changed no object since
abbrev pub KeepsObjects : ℕ → List Entry → List Entry → Type 0
KeepsObjects i log more = ((i ≡ 0) ⊎ (0 < length log)) × IsTrue (all_steps keeps_objects more)

-- the state and the heap after these events
abbrev pub core_past : Shape → List Event → Core
core_past sh past = run_of past (start_core sh 1)

abbrev pub heap_past : Shape → List Event → World
heap_past sh past = world_run past (start_core sh 1) (start_world sh)

-- what seat i did after them
abbrev pub log_since : Shape → List Event → List Event → ℕ → List Entry
log_since sh past rest i = log_from i (core_past sh past) rest

-- in the first of these events one seat lays out what section 0 lends, and no other changes an object; since then each seat did nothing, or changed no object, or
-- did what fits
pub record LentQueue (sh : Shape) (past rest : List Event) (u : ℕ) (h : Hands) (root : Name) : Type 0 where
  pub history : IsHistory sh (past ++ rest)
  pub hands : AreHands h
  pub below : u < section_variables
  pub lends : (k : ℕ) → RefersTo sh (past ++ rest) u root k
  pub maker : ℕ
  pub lays : LaysOut sh.fields u h (log_of sh past maker)
  pub others : (i : ℕ) → i ≢ maker → IsTrue (all_steps keeps_objects (log_of sh past i))
  pub since : (i : ℕ) → (log_since sh past rest i ≡ []) ⊎ (KeepsObjects i (log_of sh past i) (log_since sh past rest i) ⊎ UsesLent sh.fields u h (log_of sh past i) (log_since sh past rest i))

-- of the first k events since, seat i puts in and takes out as many as its log tells, with the numbers that it tells
pub record NumbersSince (sh : Shape) (past rest : List Event) (h : Hands) (q : Queue) (i k : ℕ) (s : SeatState) : Type 0 where
  pub put : AreNumbers (puts_told sh.fields h (telling_at h s) (log_since sh past (take k rest) i)) (by_seat i (puts q (core_past sh past) (heap_past sh past) rest k))
  pub taken : AreNumbers (takes_told sh.fields h (telling_at h s) (log_since sh past (take k rest) i)) (by_seat i (takes q (core_past sh past) (heap_past sh past) rest k))

-- so does each seat that uses the queue; one that changes no object puts in nothing, and takes nothing out
pub record LentNumbers (sh : Shape) (past rest : List Event) (u : ℕ) (h : Hands) (q : Queue) : Type 0 where
  pub told : (k : ℕ) → k ≤ length rest → (i : ℕ) → UsesLent sh.fields u h (log_of sh past i) (log_since sh past rest i) → (s : SeatState) → IsRecordAfter (log_of sh past i) s → NumbersSince sh past rest h q i k s
  pub idle : (k : ℕ) → k ≤ length rest → (i : ℕ) → IsTrue (all_steps keeps_objects (log_since sh past rest i)) → (by_seat i (puts q (core_past sh past) (heap_past sh past) rest k) ≡ []) × (by_seat i (takes q (core_past sh past) (heap_past sh past) rest k) ≡ [])

-- then it is a queue from there on, and the logs tell its numbers
abbrev pub QueueByLending : Type 0
QueueByLending =
    (sh : Shape) (past rest : List Event) (u : ℕ) (h : Hands) (root : Name) → LentQueue sh past rest u h root
    → (q : Queue) × (q.object ≡ root) × IsQueue q (core_past sh past) (heap_past sh past) rest × LentNumbers sh past rest u h q
