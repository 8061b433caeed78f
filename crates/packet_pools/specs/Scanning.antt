-- What the scan of an object leaves in a seat's hand.
use Rattle.std.specs.Prelude.{ℕ, ◌≡◌, ◌≤◌, ◌⊎◌, Bool, false, if◌then◌else◌, nat_lt, Option, Some, None, IsTrue}
use Rattle.mark_core.specs.Held.{has_free_slot, drop_packet}
use Rattle.mark_core.specs.Steps.ColourSteps.{without_cell}
use Rattle.mark_core.specs.declared.seat.SeatState.{SeatState}
use Rattle.mark_core.specs.declared.seat.Cleaning.{Cleaning}
use Rattle.gc_table.specs.declared.view.View.{View}
use Rattle.packet_pools.specs.declared.held.Held.{Held}
use Rattle.packet_pools.specs.Hands.{HoldsPacket, free_slots}

-- no popped cell is in hand, and these are what was loaded and what was marked
pub record InHand (loaded marked : Option ℕ) (s : SeatState) : Type 0 where
  pub popped : s.popped ≡ None
  pub value : s.value ≡ loaded
  pub fresh : s.fresh ≡ marked

-- in place of packet h the seat holds k, which may be the same; all other slots are as they were, and none less is free
pub record Fills (h k : Held) (v w : View) : Type 0 where
  pub held : HoldsPacket k w
  pub free : IsTrue (has_free_slot w.state.held)
  pub frees : free_slots v.state.held ≤ free_slots w.state.held
  pub slots : drop_packet w.state.held k.packet ≡ drop_packet v.state.held h.packet

-- a cleaning without the debt of its card
abbrev pub without_redirty : Option Cleaning → Option Cleaning
without_redirty None = None
without_redirty (Some x) = Some (record x { redirty = false })

-- the card must be dirtied again
abbrev pub owes_redirty : Option Cleaning → Bool
owes_redirty None = false
owes_redirty (Some x) = x.redirty

-- the cleaning y is x, if no debt came up and one may have been paid
pub record Settles (x y : Option Cleaning) : Type 0 where
  pub same : without_redirty y ≡ without_redirty x
  pub debt : IsTrue (owes_redirty y) → IsTrue (owes_redirty x)

-- the seat pushed what it marked: nothing else is in hand, and its scan and cleaning are these
pub record Pushes (h k : Held) (scanned : Option (ℕ × ℕ)) (cleaned : Option Cleaning) (v w : View) : Type 0 where
  pub packet : Fills h k v w
  pub hand : InHand None None w.state
  pub scan : w.state.scan ≡ scanned
  pub cleaning : Settles cleaned w.state.cleaning
  pub owes : (w.state.owes ≡ v.state.owes) ⊎ (w.state.owes ≡ None)

-- the object in scan, once all its fields were read
abbrev pub scan_end : ℕ → Option (ℕ × ℕ) → Option (ℕ × ℕ)
scan_end fields None = None
scan_end fields (Some x) = if nat_lt x.1 fields then Some (x.0, fields) else Some x

-- a field of the object in scan was read, so it isn't left in a cleaning
abbrev pub cleaning_end : ℕ → Option (ℕ × ℕ) → Option Cleaning → Option Cleaning
cleaning_end fields None cleaning = cleaning
cleaning_end fields (Some x) cleaning = if nat_lt x.1 fields then without_cell cleaning x.0 else cleaning
