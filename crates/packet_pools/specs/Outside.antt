-- What a seat that is alone has noted of the pools: where a packet isn't.
use Rattle.std.specs.Prelude.{ℕ, ◌≡◌, ◌<◌, ◌/◌, ◌%◌, List, Some, IsTrue, IsFalse}
use Rattle.mark_core.specs.Bits.{has_bit}
use Rattle.mark_core.specs.Numbers.{word_bits}
use Rattle.mark_core.specs.Places.{pool_at}
use Rattle.mark_core.specs.declared.kinds.Shape.{Shape}
use Rattle.mark_core.specs.declared.kinds.Step.TheVariants.{Look}
use Rattle.gc_table.specs.declared.view.View.{View}
use Rattle.gc_table.specs.Notes.{look}
use Rattle.gc_table.specs.Seats.{Found}
use Rattle.packet_pools.specs.Seeking.{in_pools}

-- the seat has noted that packet p isn't in pool q
abbrev pub IsNotedOutside : ℕ → ℕ → View → Type 0
IsNotedOutside q p v = (n : ℕ) × (look (pool_at v.shape q (p / word_bits)) v.known ≡ Some n) × IsFalse (has_bit n (p % word_bits))

-- so of each packet
abbrev pub AreNotedOutside : ℕ → View → Type 0
AreNotedOutside q v = (p : ℕ) → p < v.shape.packets → IsNotedOutside q p v

-- what a seat that is alone has so noted of pools other than these stays noted
abbrev pub KeepsOutside : List ℕ → View → View → Type 0
KeepsOutside qs v w = IsTrue v.state.alone → (q p : ℕ) → IsFalse (in_pools q qs) → p < v.shape.packets → IsNotedOutside q p v → IsNotedOutside q p w

-- one word of pool q was read, which has the bit of no packet, and nothing else was done
abbrev pub LooksInVain : Shape → ℕ → ℕ → View → View → Type 0
LooksInVain sh q g v w = (n : ℕ) × Found (Look q g) n v w × ((p : ℕ) → p < sh.packets → p / word_bits ≡ g → IsFalse (has_bit n (p % word_bits)))
