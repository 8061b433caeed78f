-- The order of a queue: if threads change it only as its calls do, each number that is taken was put in, none is taken twice, and all are taken in the order in which they were put in.
use Rattle.std.specs.Prelude.{ℕ, ◌≡◌, ◌≢◌, ◌⊎◌, ◌<◌, ◌≤◌, ◌++◌, ◌∷◌, List, length, Option, None, Some, IsTrue, IsFalse, slice_get, take}
use Rattle.plain_heap.specs.Paths.{Name}
use Rattle.mark_core.specs.Steps.{Core, run_of}
use Rattle.mark_core.specs.declared.kinds.Event.{Event}
use Rattle.mark_core.specs.declared.kinds.Step.{Step}
use Rattle.mark_core.specs.declared.kinds.Step.TheVariants.{ExchangeField, ExchangeValue, StoreField, StoreValue}
use Rattle.mark_core.specs.declared.seat.SeatState.{SeatState}
use Rattle.gc_table.specs.AgreementLaws.{HasReference, HasValue}
use Rattle.gc_table.specs.RunWorlds.{World, WorldObject, object_of, own_section, reference_of, stored, variable_of}
use Rattle.heap_laws.specs.Named.{IsRunOn}
use Rattle.queue_laws.specs.Queues.{AreDistinct, Item, Queue, behind, by_seat, chain_at, heap_at, is_in, nodes_of, puts, takes, wins}

-- after one of the first k events, or at the start, field i of this object referred to that one
abbrev pub Was : Core → World → List Event → ℕ → Name → ℕ → Name → Type 0
Was c world es k holder i name = (j : ℕ) × (j ≤ k) × HasReference (heap_at c world es j) holder i (Some name)

-- an exchange of field 0 of a node, which the queue's field 1 referred to before, from nil to a node that the seat of section w made, and never put in
pub record Links (q : Queue) (c : Core) (world : World) (es : List Event) (k w : ℕ) (name : Name) (x y : Option ℕ) : Type 0 where
  pub last : Was c world es k q.object 1 name
  pub expects : stored (heap_at c world es k) w x ≡ None
  pub new : Name
  pub gives : stored (heap_at c world es k) w y ≡ Some new
  pub node : IsTrue (q.is_node new)
  pub own : new.section ≡ w
  pub unused : IsFalse (is_in (q.dummy ∷ nodes_of (by_seat w (puts q c world es k))) new)

-- an exchange of the queue's field 0, from an object to one that its field 0 referred to before
pub record Advances (q : Queue) (c : Core) (world : World) (es : List Event) (k w : ℕ) (x y : Option ℕ) : Type 0 where
  pub old : Name
  pub new : Name
  pub expects : stored (heap_at c world es k) w x ≡ Some old
  pub gives : stored (heap_at c world es k) w y ≡ Some new
  pub next : Was c world es k old 0 new

-- an exchange of the queue's field 1 to what field 0 of an object referred to before, to which the queue referred before
pub record Follows (q : Queue) (c : Core) (world : World) (es : List Event) (k w : ℕ) (y : Option ℕ) : Type 0 where
  pub before : Name
  pub new : Name
  pub found : Was c world es k q.object 0 before ⊎ Was c world es k q.object 1 before
  pub gives : stored (heap_at c world es k) w y ≡ Some new
  pub next : Was c world es k before 0 new

-- what a step of section w, the one after the first k events, may do to the queue: values of nodes and fields 0 stay, but for these three kinds of exchange, if they are won
abbrev pub KeepsQueue : Queue → Core → World → List Event → ℕ → ℕ → Step → Type 0
KeepsQueue q c world es k w (StoreField v i x) =
    (name : Name) → variable_of (heap_at c world es k) w v ≡ Some name → (i ≡ 0 → IsFalse (q.is_node name)) × (i < 2 → name ≢ q.object)
KeepsQueue q c world es k w (StoreValue v n) = (name : Name) → variable_of (heap_at c world es k) w v ≡ Some name → IsFalse (q.is_node name)
KeepsQueue q c world es k w (ExchangeValue v m n) = (name : Name) → variable_of (heap_at c world es k) w v ≡ Some name → IsFalse (q.is_node name)
KeepsQueue q c world es k w (ExchangeField v i x y) =
    (name : Name) → variable_of (heap_at c world es k) w v ≡ Some name → IsTrue (wins (heap_at c world es k) w v i x)
    → (i ≡ 0 → IsTrue (q.is_node name) → Links q c world es k w name x y) × (i ≡ 0 → name ≡ q.object → Advances q c world es k w x y) × (i ≡ 1 → name ≡ q.object → Follows q c world es k w y)
KeepsQueue q c world es k w step = Unit {0}

-- a run on a queue that is empty as it begins: both fields of the queue refer to one node, and no node refers to another
pub record Begins (q : Queue) (c : Core) (world : World) (es : List Event) : Type 0 where
  pub run : IsRunOn c world es
  pub apart : IsFalse (q.is_node q.object)
  pub dummy : IsTrue (q.is_node q.dummy)
  pub there : HasReference world q.dummy 0 None
  pub first : HasReference world q.object 0 (Some q.dummy)
  pub last : HasReference world q.object 1 (Some q.dummy)
  pub ends : (name : Name) (object : WorldObject) → IsTrue (q.is_node name) → object_of world name ≡ Some object → reference_of object 0 ≡ None

-- the event after the first k does only this to the queue
abbrev pub KeepsAt : Queue → Core → World → List Event → ℕ → Type 0
KeepsAt q c world es k = (e : Event) (s : SeatState) → slice_get es k ≡ Some e → slice_get (run_of (take k es) c).seats e.seat ≡ Some s → KeepsQueue q c world es k (own_section s) e.step

-- so does each event
pub record IsQueue (q : Queue) (c : Core) (world : World) (es : List Event) : Type 0 where
  pub begins : Begins q c world es
  pub keeps : (k : ℕ) → KeepsAt q c world es k

-- the queue after the first k events
pub record IsInOrder (q : Queue) (c : Core) (world : World) (es : List Event) (k : ℕ) : Type 0 where
  -- what was taken first was put in first, and so on: in the same node, with the same number
  pub fifo : (p : ℕ) (x : Item) → slice_get (takes q c world es k) p ≡ Some x → (y : Item) × (slice_get (puts q c world es k) p ≡ Some y) × (y.node ≡ x.node) × (y.number ≡ x.number)
  -- no node is in the queue twice
  pub once : AreDistinct (chain_at q c world es k)
  -- so none is taken twice
  pub taken_once : (p r : ℕ) (x y : Item) → slice_get (takes q c world es k) p ≡ Some x → slice_get (takes q c world es k) r ≡ Some y → x.node ≡ y.node → p ≡ r
  -- and of what one seat put in, what was taken comes first
  pub in_turn : (i : ℕ) → (rest : List Item) × (by_seat i (puts q c world es k) ≡ by_seat i (take (length (takes q c world es k)) (puts q c world es k)) ++ rest)
  -- each that was put in still has its number
  pub numbers : (p : ℕ) (x : Item) → slice_get (puts q c world es k) p ≡ Some x → HasValue (heap_at c world es k) x.node x.number
  -- the queue's field 0 refers to the node taken last, or to the one with which it began
  pub first : HasReference (heap_at c world es k) q.object 0 (slice_get (chain_at q c world es k) (length (takes q c world es k)))
  -- its field 1 to one of those that were put in so far, or to that one
  pub last : (name : Name) → HasReference (heap_at c world es k) q.object 1 (Some name) → IsTrue (is_in (chain_at q c world es k) name)
  -- and each node to the next one, if there is one
  pub chain : (name : Name) (object : WorldObject) → IsTrue (q.is_node name) → object_of (heap_at c world es k) name ≡ Some object → reference_of object 0 ≡ behind (chain_at q c world es k) name

-- so it is after each number of events, whatever else threads make and do
pub record QueueByName : Type 0 where
  pub order : (q : Queue) (c : Core) (world : World) (es : List Event) → IsQueue q c world es → (k : ℕ) → k ≤ length es → IsInOrder q c world es k
  -- if field 0 of the queue referred to a node before, and there is nothing behind this one now, all that was put in is taken
  pub empty : (q : Queue) (c : Core) (world : World) (es : List Event) → IsQueue q c world es → (k : ℕ) → k ≤ length es → (name : Name) → Was c world es k q.object 0 name → HasReference (heap_at c world es k) name 0 None
      → length (takes q c world es k) ≡ length (puts q c world es k)
