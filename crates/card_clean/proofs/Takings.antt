-- A slot is free for a packet, and for the one that it is exchanged for.
use Rattle.std.proofs.Common.{ℕ, ◌≡◌, ◌≤◌, [], ◌∷◌, arith, refl, ◌∙◌, true, Some, None}
use Rattle.mark_core.specs.Held.{Slots, has_free_slot, put_packet}
use Rattle.packet_pools.specs.Hands.{with_packet}
use Rattle.packet_pools.proofs.Exchanged.{set-free}
use Rattle.packet_pools.specs.Hands.{free_slots}

pub some-free : (hs : Slots) → 1 ≤ free_slots hs → has_free_slot hs ≡ true
some-free [] h = absurd (omega (arith, h))
some-free (None ∷ hs) h = refl
some-free (Some x ∷ hs) h = some-free hs h

put-free : (hs : Slots) (p : ℕ) → 2 ≤ free_slots hs → has_free_slot (put_packet hs p) ≡ true
put-free [] p h = absurd (omega (arith, h))
put-free (None ∷ hs) p h = some-free hs (omega (arith, h))
put-free (Some x ∷ hs) p h = put-free hs p h

-- a slot is left after one more packet was taken
pub with-free : (hs : Slots) (p n : ℕ) → 2 ≤ free_slots hs → has_free_slot (with_packet hs p n) ≡ true
with-free hs p n h = set-free (put_packet hs p) p n true ∙ put-free hs p h
