-- A packet that was taken, and the search for one.
use Rattle.std.specs.Prelude.{ℕ, ◌≡◌, ◌<◌, ◌≤◌, ◌⊎◌, ◌==◌, ◌&&◌, ◌||◌, List, [], ◌∷◌, Bool, true, false, IsTrue, IsFalse}
use Rattle.mark_core.specs.Held.{holds, has_free_slot}
use Rattle.mark_core.specs.Numbers.{empty_pool_number, pools_in_all}
use Rattle.mark_core.specs.declared.kinds.Shape.{Shape}
use Rattle.gc_table.specs.declared.view.Entry.{Entry}
use Rattle.gc_table.specs.declared.view.View.{View}
use Rattle.gc_table.specs.Fetching.{is_in_range}
use Rattle.packet_pools.specs.declared.held.Held.{Held}
use Rattle.gc_table.specs.Log.{events}
use Rattle.packet_pools.specs.Tracing.{traces}
use Rattle.packet_pools.specs.Hands.{HoldsPacket, with_packet}
use Rattle.packet_pools.specs.Seeking.{was_missed, was_full, was_got, was_got_from, all_missed, only_moves}
use Rattle.packet_pools.specs.Tried.{was_filled}

-- the packet came from the first of these pools that had one to take
abbrev pub ComesFrom : Shape → List ℕ → Held → List Entry → Type 0
ComesFrom sh [] h es = ⊥
ComesFrom sh (q ∷ qs) h es = (IsTrue (is_in_range sh q h.length) × IsTrue (was_got_from q h.packet es)) ⊎ (IsTrue (all_missed sh (q ∷ []) es) × ComesFrom sh qs h es)

-- the seat took a packet that it hadn't, out of the first of these pools that had one, and nothing else of its record changed
pub record Takes (qs : List ℕ) (h : Held) (v w : View) : Type 0 where
  pub unheld : IsFalse (holds v.state.held h.packet)
  pub held : HoldsPacket h w
  pub state : w.state ≡ record v.state { held = with_packet v.state.held h.packet h.length }
  pub from : ComesFrom v.shape qs h (events v w)
  pub moves : IsTrue (only_moves qs (events v w))

-- the seat holds a packet that it hadn't, and nothing else of its record changed
pub record Brings (h : Held) (v w : View) : Type 0 where
  pub unheld : IsFalse (holds v.state.held h.packet)
  pub held : HoldsPacket h w
  pub state : w.state ≡ record v.state { held = with_packet v.state.held h.packet h.length }

-- the seat may take packets out of pool q: the empty one with a reservation
pub record Seeks (q : ℕ) (v : View) : Type 0 where
  pub may : IsTrue (traces v)
  pub pool : q < pools_in_all
  pub reserved : v.state.reserved ≡ (q == empty_pool_number)
  pub uncredited : IsFalse v.state.credit
  pub free : IsTrue (has_free_slot v.state.held)

-- the seat took this packet out of pool q, and read its length; if room was asked for, the packet has room
pub record Gains (q : ℕ) (not_full : Bool) (h : Held) (v w : View) : Type 0 where
  pub unheld : IsFalse (holds v.state.held h.packet)
  pub held : HoldsPacket h w
  pub state : w.state ≡ record v.state { held = with_packet v.state.held h.packet h.length; reserved = false }
  pub range : IsTrue (is_in_range v.shape q h.length)
  pub roomy : IsTrue not_full → h.length < v.shape.entries
  pub got : IsTrue (was_got_from q h.packet (events v w))
  pub read : IsTrue (was_filled h.length h.packet (events v w))
  pub moves : IsTrue (only_moves (q ∷ []) (events v w))

-- packet p couldn't be taken out of pool q, or had no room though it should
abbrev pub missed : ℕ → ℕ → Bool → ℕ → List Entry → Bool
missed entries q not_full p es = was_missed q p es || (not_full && was_full entries p es)

-- each packet from lo on and below hi could not be taken out of pool q, or had no room though it should;
-- a packet was got only if room was asked for, and lies below hi
pub record MissesPackets (sh : Shape) (q : ℕ) (not_full : Bool) (lo hi : ℕ) (es : List Entry) : Type 0 where
  pub all : (p : ℕ) → lo ≤ p → p < hi → p < sh.packets → IsTrue (missed sh.entries q not_full p es)
  pub got : (p : ℕ) → IsTrue (was_got p es) → IsTrue not_full × (p < hi)
  pub moves : IsTrue (only_moves (q ∷ []) es)

-- each packet from lo on and below hi was missed, or had no room though it should, and the seat's record is as it was
abbrev pub FindsNone : Shape → ℕ → Bool → ℕ → ℕ → View → View → Type 0
FindsNone sh q not_full lo hi v w = (w.state ≡ v.state) × MissesPackets sh q not_full lo hi (events v w)

-- the seat took packet h, which is the first from this one on that could be had out of pool q with room; a packet was got only up to it
pub record GainsFirst (sh : Shape) (q from : ℕ) (h : Held) (v w : View) : Type 0 where
  pub gains : Gains q true h v w
  pub late : from ≤ h.packet
  pub all : (p : ℕ) → from ≤ p → p < h.packet → IsTrue (missed sh.entries q true p (events v w))
  pub got : (p : ℕ) → IsTrue (was_got p (events v w)) → p ≤ h.packet

-- a search of these pools took nothing: this is true of its events, and the seat's record is as it was
abbrev pub TakesNone : (List Entry → Type 0) → List ℕ → View → View → Type 0
TakesNone P qs v w = (w.state ≡ v.state) × P (events v w) × IsTrue (only_moves qs (events v w))
