-- A queue of nodes, each of which refers by its field 0 to the next one: what the events of a run put in and take out.
use Rattle.std.specs.Prelude.{ℕ, ◌==◌, ◌&&◌, ◌||◌, if◌then◌else◌, List, [], ◌∷◌, ◌++◌, Bool, false, Option, None, Some, IsFalse, slice_get, take}
use Rattle.plain_heap.specs.Paths.{Name}
use Rattle.mark_core.specs.Steps.{Core, after_event}
use Rattle.mark_core.specs.declared.kinds.Event.{Event}
use Rattle.mark_core.specs.declared.kinds.Step.{Step}
use Rattle.mark_core.specs.declared.kinds.Step.TheVariants.{ExchangeField}
use Rattle.mark_core.specs.declared.seat.SeatState.{SeatState}
use Rattle.gc_table.specs.AgreementLaws.{world_after, world_run}
use Rattle.gc_table.specs.RunWorlds.{World, WorldObject, is_same, object_of, own_section, stored, variable_of}
use Rattle.heap_laws.specs.Labels.{field_of}

-- a queue: its object, whose field 0 refers to the first node and field 1 to the last one, or to one before it; which objects are its nodes; and the node with which it begins, whose number isn't
-- taken
pub record Queue : Type 0 where
  pub object : Name
  pub is_node : Name → Bool
  pub dummy : Name

-- what was put in or taken out: by which seat, in which node, and which value this had then
pub record Item : Type 0 where
  pub seat : ℕ
  pub node : Name
  pub number : ℕ

-- this is a node
abbrev pub is_node_at : Queue → Option Name → Bool
is_node_at q None = false
is_node_at q (Some name) = q.is_node name

-- field i of the object of the section's variable v refers to what the exchange expects
abbrev pub wins : World → ℕ → ℕ → ℕ → Option ℕ → Bool
wins world w v i x = is_same (field_of world (variable_of world w v) i) (stored world w x)

-- the node that a step of section w puts behind another, by an exchange of this one's field 0 that is won
abbrev pub put_by : Queue → World → ℕ → Step → Option Name
put_by q world w (ExchangeField v i x y) = if (i == 0) && (is_node_at q (variable_of world w v) && wins world w v i x) then stored world w y else None
put_by q world w step = None

-- the node that a step of section w makes the first, by an exchange of the queue's field 0 that is won: its number is taken
abbrev pub taken_by : Queue → World → ℕ → Step → Option Name
taken_by q world w (ExchangeField v i x y) = if (i == 0) && (is_same (variable_of world w v) (Some q.object) && wins world w v i x) then stored world w y else None
taken_by q world w step = None

-- the value of an object, if it is there
abbrev pub value_of : Option WorldObject → ℕ
value_of None = 0
value_of (Some object) = object.value

-- the node with its value, by seat i, if there is one
abbrev pub item_of : World → ℕ → Option Name → List Item
item_of world i None = []
item_of world i (Some name) = record { seat = i; node = name; number = value_of (object_of world name) } ∷ []

-- what a step of seat i puts in, and what it takes out, if the seat's record was looked up
abbrev pub put_of : Queue → World → ℕ → Option SeatState → Step → List Item
put_of q world i None step = []
put_of q world i (Some s) step = item_of world i (put_by q world (own_section s) step)

abbrev pub taken_of : Queue → World → ℕ → Option SeatState → Step → List Item
taken_of q world i None step = []
taken_of q world i (Some s) step = item_of world i (taken_by q world (own_section s) step)

-- what these events give, in order
abbrev pub gathered : (World → ℕ → Option SeatState → Step → List Item) → List Event → Core → World → List Item
gathered f [] c world = []
gathered f (e ∷ es) c world = f world e.seat (slice_get c.seats e.seat) e.step ++ gathered f es (after_event c e) (world_after c e world)

-- what was put in by the first k events of a run, and what was taken out, in order
abbrev pub puts : Queue → Core → World → List Event → ℕ → List Item
puts q c world es k = gathered (put_of q) (take k es) c world

abbrev pub takes : Queue → Core → World → List Event → ℕ → List Item
takes q c world es k = gathered (taken_of q) (take k es) c world

-- the heap after the first k events
abbrev pub heap_at : Core → World → List Event → ℕ → World
heap_at c world es k = world_run (take k es) c world

-- those of seat i
abbrev pub by_seat : ℕ → List Item → List Item
by_seat i [] = []
by_seat i (x ∷ xs) = if x.seat == i then x ∷ by_seat i xs else by_seat i xs

-- the nodes of these items
abbrev pub nodes_of : List Item → List Name
nodes_of [] = []
nodes_of (x ∷ xs) = x.node ∷ nodes_of xs

-- the nodes that were in the queue so far, in order
abbrev pub chain_at : Queue → Core → World → List Event → ℕ → List Name
chain_at q c world es k = q.dummy ∷ nodes_of (puts q c world es k)

-- one of them has this name
abbrev pub is_in : List Name → Name → Bool
is_in [] name = false
is_in (x ∷ xs) name = is_same (Some x) (Some name) || is_in xs name

-- the one that comes behind it
abbrev pub behind : List Name → Name → Option Name
behind [] name = None
behind (x ∷ xs) name = if is_same (Some x) (Some name) then slice_get xs 0 else behind xs name

-- no two of them are the same
abbrev pub AreDistinct : List Name → Type 0
AreDistinct [] = Unit {0}
AreDistinct (x ∷ xs) = IsFalse (is_in xs x) × AreDistinct xs
