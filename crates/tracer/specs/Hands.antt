-- The packets that a tracer holds.
use Rattle.std.specs.Prelude.{ℕ, ◌≡◌, ◌<◌, ◌≤◌, ◌+◌, List, [], ◌∷◌, length, Option, Some, None, IsFalse}
use Rattle.mark_core.specs.Held.{Slots, known_length, drop_packet}
use Rattle.mark_core.specs.Seats.{work_in_hand}
use Rattle.mark_core.specs.declared.kinds.Shape.{Shape}
use Rattle.gc_table.specs.declared.view.View.{View}
use Rattle.packet_pools.specs.declared.held.Held.{Held}
use Rattle.packet_pools.specs.Hands.{free_slots}
use Rattle.tracer.specs.declared.packets.Packets.{Packets}

-- the slots of a seat that holds no packet
abbrev pub no_packets : Slots
no_packets = None ∷ None ∷ None ∷ None ∷ []

-- the seat holds no packet, and has no work and no block in hand
pub record IsIdle (v : View) : Type 0 where
  pub held : v.state.held ≡ no_packets
  pub work : IsFalse (work_in_hand v.shape.fields v.state)
  pub block : v.state.block ≡ None

-- these packets are held, and no others
abbrev pub AreHeld : List Held → Slots → Type 0
AreHeld [] slots = slots ≡ no_packets
AreHeld (h ∷ hs) slots = (known_length slots h.packet ≡ Some h.length) × AreHeld hs (drop_packet slots h.packet)

-- each of these is a packet of the heap, with as many cells as a packet has room for, or fewer
abbrev pub AllFit : Shape → List Held → Type 0
AllFit sh [] = Unit {0}
AllFit sh (h ∷ hs) = (h.packet < sh.packets) × (h.length ≤ sh.entries) × AllFit sh hs

-- the seat holds these packets, each in one slot
pub record Carries (hs : List Held) (v : View) : Type 0 where
  pub fit : AllFit v.shape hs
  pub held : AreHeld hs v.state.held
  pub free : 4 ≤ free_slots v.state.held + length hs

-- a packet, if there is one, before others
abbrev pub in_front : Option Held → List Held → List Held
in_front None hs = hs
in_front (Some h) hs = h ∷ hs

-- the packets of a tracer
abbrev pub packets_of : Packets → List Held
packets_of x = x.input ∷ in_front x.output (in_front x.deferred [])

-- the number of the packet that is being filled with deferred cells, if there is one
abbrev pub packet_of : Option Held → Option ℕ
packet_of None = None
packet_of (Some h) = Some h.packet

-- the packet, if there is one, has a cell and room for another
abbrev pub HasCellAndRoom : Shape → Option Held → Type 0
HasCellAndRoom sh None = Unit {0}
HasCellAndRoom sh (Some h) = (0 < h.length) × (h.length < sh.entries)

-- the packet, if there is one, has no cell
abbrev pub HasNoCell : Option Held → Type 0
HasNoCell None = Unit {0}
HasNoCell (Some h) = h.length ≡ 0

-- except for the object in scan, the cleaning and the card that is owed, the record is as it was; no card is owed if none was
pub record KeepsRecord (v w : View) : Type 0 where
  pub same : w.state ≡ record v.state { scan = w.state.scan; cleaning = w.state.cleaning; owes = w.state.owes }
  pub owes : v.state.owes ≡ None → w.state.owes ≡ None
