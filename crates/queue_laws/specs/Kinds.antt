-- Which exchanges are of a queue's kinds, as the log of a seat tells.
use Rattle.std.specs.Prelude.{ℕ, ◌≡◌, ◌≢◌, ◌<◌, ◌≤◌, List, length, None, Some, IsTrue, IsFalse, slice_get, take}
use Rattle.plain_heap.specs.Paths.{Name}
use Rattle.mark_core.specs.Numbers.{section_variables}
use Rattle.mark_core.specs.Steps.{Core, run_of}
use Rattle.mark_core.specs.declared.kinds.Event.{Event}
use Rattle.mark_core.specs.declared.seat.SeatState.{SeatState}
use Rattle.gc_table.specs.Past.{log_from}
use Rattle.gc_table.specs.RunWorlds.{World, variable_of}
use Rattle.heap_laws.specs.Named.{IsRunOn}
use Rattle.queue_laws.specs.Orders.{Advances, Follows, Was}
use Rattle.queue_laws.specs.Queues.{Queue, heap_at}
use Rattle.queue_laws.specs.Reads.{readings, starting}

-- two variables of seat i, and what its log of the first k events tells of them
pub record IsRead (c : Core) (es : List Event) (i v u f k : ℕ) : Type 0 where
  pub seat : SeatState
  pub there : slice_get c.seats i ≡ Some seat
  pub exists : (v < section_variables) × (u < section_variables)
  pub others : v ≢ u
  -- the second one has what was read in field f of the first one's object
  pub held : IsTrue (readings v u f (starting seat v) (log_from i c (take k es))).held

-- after the first k events of a run variable p of seat i refers to the queue
pub record Refers (q : Queue) (c : Core) (world : World) (es : List Event) (i p k : ℕ) : Type 0 where
  pub run : IsRunOn c world es
  pub within : k ≤ length es
  pub names : variable_of (heap_at c world es k) i p ≡ Some q.object

pub record KindsByLog : Type 0 where
  -- an exchange of variable v for variable u advances, if u was read in field 0 of v's object
  pub advances : (q : Queue) (c : Core) (world : World) (es : List Event) (i p v u k : ℕ) → Refers q c world es i p k → IsRead c es i v u 0 k → Advances q c world es k i (Some v) (Some u)
  -- one to variable u follows, if v was read in field 0 or 1 of the queue, and u in field 0 of v's object
  pub follows : (q : Queue) (c : Core) (world : World) (es : List Event) (i p v u f k : ℕ) → Refers q c world es i p k → f < 2 → IsRead c es i p v f k → IsRead c es i v u 0 k → Follows q c world es k i (Some u)
  -- the queue's field 1 referred to the object of variable v, if that was read there
  pub last : (q : Queue) (c : Core) (world : World) (es : List Event) (i p v k : ℕ) → Refers q c world es i p k → IsRead c es i p v 1 k → (name : Name) → variable_of (heap_at c world es k) i v ≡ Some name → Was c world es k q.object 1 name
  -- a variable refers to nothing, if the log tells that its word is nil
  pub nil : (q : Queue) (c : Core) (world : World) (es : List Event) (i p v u f k : ℕ) (s t : SeatState) → Refers q c world es i p k → slice_get c.seats i ≡ Some s → (v < section_variables) × (u < section_variables) → v ≢ u
      → slice_get (run_of (take k es) c).seats i ≡ Some t → IsFalse t.spent → i < (run_of (take k es) c).shape.sections → (readings v u f (starting s v) (log_from i c (take k es))).word ≡ 0 → variable_of (heap_at c world es k) i v ≡ None
