-- A packet in hand, and the seat's record of it.
use Rattle.std.specs.Prelude.{ℕ, ◌≡◌, ◌<◌, ◌≤◌, ◌+◌, [], ◌∷◌, Some, None, true}
use Rattle.mark_core.specs.Held.{Slots, known_length, put_packet, set_length}
use Rattle.gc_table.specs.declared.view.View.{View}
use Rattle.packet_pools.specs.declared.held.Held.{Held}

-- the seat holds the packet, with this length
pub record HoldsPacket (h : Held) (v : View) : Type 0 where
  pub there : h.packet < v.shape.packets
  pub known : known_length v.state.held h.packet ≡ Some h.length
  pub fits : h.length ≤ v.shape.entries

-- how many slots are free
abbrev pub free_slots : Slots → ℕ
free_slots [] = 0
free_slots (None ∷ hs) = 1 + free_slots hs
free_slots (Some x ∷ hs) = free_slots hs

-- the slots with a packet that was taken, whose length was read
abbrev pub with_packet : Slots → ℕ → ℕ → Slots
with_packet hs p n = set_length (put_packet hs p) p n true
