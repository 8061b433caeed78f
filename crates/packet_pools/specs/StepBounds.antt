-- How many steps a call takes at most, by the words of a pool, the packets and the fields.
use Rattle.std.specs.Prelude.{ℕ, ◌≤◌, ◌+◌, ◌-◌, ◌*◌, ◌/◌, max, min, List, length, Bool, true, false, Option, Some, None}
use Rattle.mark_core.specs.Layout.{pool_words}
use Rattle.mark_core.specs.declared.kinds.Shape.{Shape}
use Rattle.gc_table.specs.declared.view.Entry.{Entry}
use Rattle.packet_pools.specs.declared.held.Held.{Held}
use Rattle.packet_pools.specs.declared.search.Search.{Search}
use Rattle.packet_pools.specs.declared.search.Search.TheVariants.{Open, Tried}
use Rattle.std.specs.Int.{div_ceil}

-- a packet that isn't had: its take is lost; or, if it must not be full, it is taken, read as full, and given back
abbrev pub try_steps : Bool → ℕ
try_steps false = 1
try_steps true = 4

-- the length of a packet that was had is read
abbrev pub had_steps : Option Held → ℕ
had_steps None = 0
had_steps (Some h) = 1

-- this many words were read, and packets from lo on and below hi were tried, those that there are, each once
pub record TriesPackets (sh : Shape) (not_full : Bool) (words lo hi more : ℕ) (es : List Entry) : Type 0 where
  pub tried : ℕ
  pub within : lo + tried ≤ hi
  pub there : lo + tried ≤ sh.packets
  pub few : length es ≤ words + try_steps not_full * tried + more

-- a search of one pool: each word is read, and each packet tried
abbrev pub pool_steps : Bool → Shape → ℕ
pool_steps not_full sh = pool_words sh + try_steps not_full * sh.packets

-- a search for a deferred packet
abbrev pub deferred_steps : Shape → ℕ
deferred_steps sh = pool_steps false sh + 1

-- a search for a packet to read from, in two pools
abbrev pub input_steps : Shape → ℕ
input_steps sh = 2 * pool_steps false sh + 1

-- a search for a packet with room, in three pools, with a reservation that is taken and given up
abbrev pub output_steps : Shape → ℕ
output_steps sh = 2 * pool_steps false sh + pool_steps true sh + 3

-- a packet goes back: its length is stored, it is given, and counted if it is empty
abbrev pub give_steps : ℕ
give_steps = 3

-- a search for an empty packet or one of the low pool, with a reservation that is taken and given up
abbrev pub spare_steps : Shape → ℕ
spare_steps sh = 2 * pool_steps false sh + 3

-- this many of its free entries are counted, of which it has as many at least
abbrev pub spare_room : Shape → ℕ
spare_room sh = max 1 (min (sh.entries / 2) (spare_steps sh + give_steps))

-- a cell's part of the next such search, if one comes for each packet that was filled
abbrev pub filling_steps : Shape → ℕ
filling_steps sh = div_ceil (spare_steps sh + give_steps) (spare_room sh)

-- how many steps the searches of a call may still take: one in vain among empty and low packets, and one pass over the high pool
abbrev pub left_steps : Shape → Search → ℕ
left_steps sh Open = spare_steps sh + 5 * sh.packets
left_steps sh (Tried n) = 5 * (sh.packets - n)

-- and what cells in a packet of this length have put aside for the next search
abbrev pub room_left : Shape → Search → ℕ → ℕ
room_left sh search length = left_steps sh search + filling_steps sh * (length + spare_room sh - sh.entries)

-- that is this much at most
abbrev pub room_steps : Shape → ℕ
room_steps sh = left_steps sh Open + filling_steps sh * spare_room sh

-- a cell is marked and pushed, or its card dirtied
abbrev pub mark_steps : Shape → ℕ
mark_steps sh = filling_steps sh + 2

-- a search for any packet: for one with room, and then for one to read from
abbrev pub any_steps : Shape → ℕ
any_steps sh = output_steps sh + input_steps sh

-- a field or a root is read, and what it refers to is marked; besides it takes what the searches of the call take
abbrev pub follow_steps : Shape → ℕ
follow_steps sh = 1 + mark_steps sh

-- an object is scanned, field by field
abbrev pub scan_steps : ℕ → Shape → ℕ
scan_steps fields sh = fields * follow_steps sh
