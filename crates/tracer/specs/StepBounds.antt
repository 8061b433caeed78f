-- How many steps a call takes at most.
use Rattle.std.specs.Prelude.{ℕ, ◌+◌, ◌-◌, ◌*◌, ◌/◌, Option, Some, None}
use Rattle.mark_core.specs.Layout.{pool_words}
use Rattle.mark_core.specs.Numbers.{section_variables}
use Rattle.mark_core.specs.declared.kinds.Shape.{Shape}
use Rattle.packet_pools.specs.declared.held.Held.{Held}
use Rattle.packet_pools.specs.StepBounds.{any_steps, filling_steps, follow_steps, give_steps, input_steps, output_steps, room_left, room_steps, scan_steps, spare_room}
use Rattle.packet_pools.specs.declared.search.Search.{Search}
use Rattle.tracer.specs.declared.packets.Packets.{Packets}

-- a packet goes back, if there is one
abbrev pub given_steps : Option Held → ℕ
given_steps None = 0
given_steps (Some h) = give_steps

-- the words of two pools are read, and a packet is looked for to push into
abbrev pub share_steps : Shape → ℕ
share_steps sh = 2 * pool_words sh + output_steps sh

-- another input is looked for, and the empty one goes back
abbrev pub find_steps : Shape → ℕ
find_steps sh = input_steps sh + give_steps

-- the seat shares in its turn, finds an input, and pops
abbrev pub turn_steps : Shape → ℕ
turn_steps sh = share_steps sh + find_steps sh + 1

-- a popped object: its allocation bit is read, and it is scanned or deferred; besides it takes what the searches of the call take
abbrev pub object_steps : Shape → ℕ
object_steps sh = 1 + scan_steps sh.fields sh

-- what the cells of a packet put aside for the next search, at most
abbrev pub aside_steps : Shape → ℕ
aside_steps sh = filling_steps sh * spare_room sh

-- what they have put aside if it has this length
abbrev pub put_aside : Shape → ℕ → ℕ
put_aside sh length = filling_steps sh * (length + spare_room sh - sh.entries)

-- how many cells are in the packet that is filled
abbrev pub filled_in : Held → Option Held → ℕ
filled_in input None = input.length
filled_in input (Some output) = output.length

abbrev pub filled_length : Packets → ℕ
filled_length x = filled_in x.input x.output

-- what is put aside for the next search for a packet to defer into, and to give this one back
abbrev pub deferring_left : Shape → Option Held → ℕ
deferring_left sh None = aside_steps sh
deferring_left sh (Some h) = put_aside sh h.length + give_steps

-- how many steps the searches of a trace may still take, with these packets in hand
abbrev pub hand_left : Shape → Search → Packets → ℕ
hand_left sh search x = room_left sh search (filled_length x) + deferring_left sh x.deferred

-- the seat shares once in this many turns
abbrev pub share_each : ℕ
share_each = 64

-- an object is traced; the input that is looked for may be nearly full
abbrev pub each_steps : Shape → ℕ
each_steps sh = find_steps sh + 1 + object_steps sh + aside_steps sh

-- a turn in which the seat shares: its search begins anew
abbrev pub sharing_steps : Shape → ℕ
sharing_steps sh = share_steps sh + room_steps sh

-- this many objects are traced, and the seat shares in its turns
abbrev pub popped_steps : ℕ → Shape → ℕ
popped_steps popped sh = popped * each_steps sh + popped / share_each * sharing_steps sh

-- so with packets that are taken and given back, and all searches of the call; and one more turn in which nothing is found
abbrev pub trace_steps : ℕ → Shape → ℕ
trace_steps popped sh = popped_steps popped sh + room_steps sh + aside_steps sh + turn_steps sh + input_steps sh + 3 * give_steps

-- the roots of a section are scanned, with a packet that is taken and given back
abbrev pub section_steps : Shape → ℕ
section_steps sh = any_steps sh + section_variables * follow_steps sh + room_steps sh + give_steps

-- a packet is looked at, taken, and given back
abbrev pub packet_steps : ℕ
packet_steps = 3 + give_steps

-- the words of the deferred pool are read, and its packets moved
abbrev pub recycle_steps : Shape → ℕ
recycle_steps sh = pool_words sh + packet_steps * sh.packets
