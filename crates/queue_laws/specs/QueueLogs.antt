-- A queue that threads change only as its calls do, told by their logs.
use Rattle.std.specs.Prelude.{ℕ, ◌≡◌, ◌≢◌, ◌<◌, ◌==◌, ◌&&◌, ◌||◌, nat_le, List, [], ◌∷◌, ◌++◌, Bool, true, false, Option, None, Some, IsTrue, IsFalse, slice_get}
use Rattle.plain_heap.specs.Paths.{Name}
use Rattle.mark_core.specs.Numbers.{section_variables}
use Rattle.mark_core.specs.Steps.{Core}
use Rattle.mark_core.specs.declared.kinds.Event.{Event}
use Rattle.mark_core.specs.declared.kinds.Step.{Step}
use Rattle.mark_core.specs.declared.kinds.Step.TheVariants.{ExchangeField, ExchangeValue, StoreField, StoreValue}
use Rattle.mark_core.specs.declared.seat.SeatState.{SeatState}
use Rattle.gc_table.specs.Entries.{is_logged}
use Rattle.gc_table.specs.Lending.{leaves_variable}
use Rattle.gc_table.specs.Past.{log_from}
use Rattle.gc_table.specs.RunWorlds.{World, object_of, variable_of}
use Rattle.gc_table.specs.declared.view.Entry.{Entry}
use Rattle.heap_laws.specs.Named.{through}
use Rattle.heap_laws.specs.Pairs.{is_source}
use Rattle.queue_laws.specs.Making.{makings, nothing_made}
use Rattle.queue_laws.specs.Orders.{Begins, IsQueue}
use Rattle.queue_laws.specs.Queues.{Queue, heap_at}
use Rattle.queue_laws.specs.Reads.{readings, starting}

-- the variables of a call: the queue, the node that is put in, what was seen, the last node, and the one behind the first
pub record Hands : Type 0 where
  pub queue : ℕ
  pub own : ℕ
  pub seen : ℕ
  pub tail : ℕ
  pub next : ℕ

pub record AreHands (h : Hands) : Type 0 where
  pub exist : (h.queue < section_variables) × (h.own < section_variables) × (h.seen < section_variables) × (h.tail < section_variables) × (h.next < section_variables)
  pub differ : (h.queue ≢ h.tail) × (h.queue ≢ h.seen) × (h.tail ≢ h.seen) × (h.seen ≢ h.next) × (h.seen ≢ h.tail)

-- variable u has what was read in field f of the object of variable v
abbrev pub has_read : SeatState → ℕ → ℕ → ℕ → List Entry → Bool
has_read s v u f before = (readings v u f (starting s v) before).held

-- what was seen is nil
abbrev pub saw_nil : SeatState → Hands → List Entry → Bool
saw_nil s h before = (readings h.seen h.tail 0 (starting s h.seen) before).word == 0

-- variable o has an object that the seat made, and put nowhere by an exchange
abbrev pub is_fresh : ℕ → ℕ → List Entry → Bool
is_fresh fields o before = (makings fields o nothing_made before).fresh

-- by this step the own node came behind the last, if nil was expected
abbrev pub is_link : Hands → Step → ℕ → Bool
is_link h (ExchangeField v f x y) found = (v == h.tail) && ((f == 0) && (is_source y (Some h.own) && (found == 0)))
is_link h step found = false

-- whether the own node is behind the last, as these variables are since
abbrev pub is_linked : Hands → Bool → List Entry → Bool
is_linked h b [] = b
is_linked h b (e ∷ es) = is_linked h (leaves_variable h.tail e.step && (leaves_variable h.own e.step && (b || is_link h e.step e.found))) es

-- the exchange puts the own node behind the last
abbrev pub links : ℕ → SeatState → Hands → List Entry → ℕ → ℕ → Option ℕ → Option ℕ → Bool
links fields s h before v f x y =
    (v == h.tail) && ((f == 0) && (is_source x (Some h.seen) && (is_source y (Some h.own) && (has_read s h.queue h.tail 1 before && (saw_nil s h before && is_fresh fields h.own before)))))

-- the one behind the first becomes the first
abbrev pub advances : SeatState → Hands → List Entry → ℕ → ℕ → Option ℕ → Option ℕ → Bool
advances s h before v f x y = (v == h.queue) && ((f == 0) && (is_source x (Some h.seen) && (is_source y (Some h.next) && has_read s h.seen h.next 0 before)))

-- the queue's last becomes what is behind it, what is behind the first, or the own node
abbrev pub follows_seen : SeatState → Hands → List Entry → Option ℕ → Bool
follows_seen s h before y = is_source y (Some h.seen) && (has_read s h.queue h.tail 1 before && has_read s h.tail h.seen 0 before)

abbrev pub follows_next : SeatState → Hands → List Entry → Option ℕ → Bool
follows_next s h before y = is_source y (Some h.next) && (has_read s h.queue h.seen 0 before && has_read s h.seen h.next 0 before)

abbrev pub follows_own : SeatState → Hands → List Entry → Option ℕ → Bool
follows_own s h before y = is_source y (Some h.own) && (has_read s h.queue h.tail 1 before && is_linked h false before)

abbrev pub follows : SeatState → Hands → List Entry → ℕ → ℕ → Option ℕ → Bool
follows s h before v f y = (v == h.queue) && ((f == 1) && (follows_seen s h before y || (follows_next s h before y || follows_own s h before y)))

-- field 1 of the own node, before it is put in, or of the one behind the first
abbrev pub keeps_beside : ℕ → SeatState → Hands → List Entry → ℕ → Bool
keeps_beside fields s h before v = ((v == h.own) && is_fresh fields h.own before) || ((v == h.next) && (has_read s h.queue h.seen 0 before && has_read s h.seen h.next 0 before))

-- the step is one of a call, given the log before it: fields from 2 on are the caller's, as is the queue's own value
abbrev pub fits : ℕ → SeatState → Hands → List Entry → Step → Bool
fits fields s h before (StoreField v f x) = nat_le 2 f || ((f == 1) && keeps_beside fields s h before v)
fits fields s h before (StoreValue v n) = v == h.queue
fits fields s h before (ExchangeValue v m n) = v == h.queue
fits fields s h before (ExchangeField v f x y) = nat_le 2 f || (links fields s h before v f x y || (advances s h before v f x y || follows s h before v f y))
fits fields s h before step = true

-- the step is the caller's, on a field from 2 on
abbrev pub is_callers : Step → Bool
is_callers (StoreField v f x) = nat_le 2 f
is_callers (ExchangeField v f x y) = nat_le 2 f
is_callers step = false

-- the logs of threads say that they change the queue only so
pub record FitsQueue (q : Queue) (c : Core) (world : World) (es : List Event) (h : Hands) : Type 0 where
  pub begins : Begins q c world es
  pub hands : AreHands h
  -- what threads make are nodes, be they put in or not
  pub new : (name : Name) → object_of world name ≡ None → IsTrue (q.is_node name)
  -- each seat whose log has an entry is there at the start, and who changes an object has the queue in its variable then
  pub seats : (k : ℕ) (e : Event) → slice_get es k ≡ Some e → IsTrue (is_logged e.step) → (s : SeatState) × (slice_get c.seats e.seat ≡ Some s)
  pub names : (k : ℕ) (e : Event) (v : ℕ) → slice_get es k ≡ Some e → through e.step ≡ Some v → IsFalse (is_callers e.step) → variable_of (heap_at c world es k) e.seat h.queue ≡ Some q.object
  pub fit : (i : ℕ) (s : SeatState) → slice_get c.seats i ≡ Some s → (before after : List Entry) (x : Entry) → log_from i c es ≡ before ++ x ∷ after → IsTrue (fits c.shape.fields s h before x.step)

-- then it is first in, first out
abbrev pub QueueByLog : Type 0
QueueByLog = (q : Queue) (c : Core) (world : World) (es : List Event) (h : Hands) → FitsQueue q c world es h → IsQueue q c world es
