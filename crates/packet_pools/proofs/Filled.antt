-- The packet in hand is filled, or changed for another.
use Rattle.std.proofs.Common.{◌≡◌, ◌≢◌, ◌<◌, ◌≤◌, ◌+◌, sym, ap, ◌∙◌, subst, arith, Bool, true}
use Rattle.mark_core.specs.Held.{has_free_slot, drop_packet, set_length, length_in_hand, known_length}
use Rattle.mark_core.specs.declared.kinds.Shape.{Shape}
use Rattle.mark_core.specs.declared.seat.SeatState.{SeatState}
use Rattle.gc_table.specs.declared.view.View.{View}
use Rattle.packet_pools.specs.declared.held.Held.{Held}
use Rattle.packet_pools.specs.Hands.{HoldsPacket, free_slots}
use Rattle.packet_pools.specs.Gains.{Brings}
use Rattle.packet_pools.specs.Scanning.{Fills}
use Rattle.packet_pools.proofs.Exchanged.{drop-set, known-held, with-other, drop-free, drop-frees, exchanged, held-apart, known-came, set-free, set-frees, with-frees}
use Rattle.packet_pools.proofs.Doing.{held-again}

-- a packet is held as before
pub held-same : (v w : View) (h : Held) → w.shape ≡ v.shape → known_length w.state.held h.packet ≡ known_length v.state.held h.packet → HoldsPacket h v → HoldsPacket h w
held-same v w h shape known k =
    record {
      there = subst (λ (s : Shape). h.packet < s.packets) (sym shape) k.there;
      known = known ∙ k.known;
      fits = subst (λ (s : Shape). h.length ≤ s.entries) (sym shape) k.fits;
    }

-- nothing was pushed
pub fills-same : (v w : View) (h : Held) → w.shape ≡ v.shape → w.state.held ≡ v.state.held → HoldsPacket h v → has_free_slot v.state.held ≡ true → Fills h h v w
fills-same v w h shape e k free =
    record { held = held-same v w h shape (ap (λ hs. known_length hs h.packet) e) k; free = ap has_free_slot e ∙ free; frees = (let n : free_slots w.state.held ≡ free_slots v.state.held = ap free_slots e in omega (arith, n)); slots = ap (λ hs. drop_packet hs h.packet) e }

-- a cell was pushed
pub fills-more : (v w : View) (h : Held) (b : Bool) → w.shape ≡ v.shape → w.state.held ≡ set_length v.state.held h.packet (length_in_hand v.state.held h.packet + 1) b → h.length + 1 ≤ v.shape.entries → HoldsPacket h v → has_free_slot v.state.held ≡ true → Fills h (record h { length = h.length + 1 }) v w
fills-more v w h b shape e fits k free =
    record {
      held = held-again v w h 1 b k shape e fits;
      free = ap has_free_slot e ∙ (set-free v.state.held h.packet (length_in_hand v.state.held h.packet + 1) b ∙ free);
      frees = (let n : free_slots w.state.held ≡ free_slots v.state.held = ap free_slots e ∙ set-frees v.state.held h.packet (length_in_hand v.state.held h.packet + 1) b in omega (arith, n));
      slots = ap (λ hs. drop_packet hs h.packet) e ∙ drop-set v.state.held h.packet (length_in_hand v.state.held h.packet + 1) b;
    }

pub fills-join : (u v w : View) (h k l : Held) → Fills h k u v → Fills k l v w → Fills h l u w
fills-join u v w h k l a b = record { held = b.held; free = b.free; frees = omega (arith, a.frees, b.frees); slots = b.slots ∙ a.slots }

-- another packet was taken
module _ (v w : View) (h k : Held) (shape : w.shape ≡ v.shape) (mine : HoldsPacket h v) (t : Brings k v w) where
  pub apart : k.packet ≢ h.packet
  apart = held-apart v.state.held h.packet k.packet h.length mine.known t.unheld

  pub kept : HoldsPacket h w
  kept = held-same v w h shape (ap (λ (s : SeatState). known_length s.held h.packet) t.state ∙ with-other v.state.held k.packet k.length h.packet (λ e. apart (sym e))) mine

  -- another packet was taken, and the first one was given back
  pub fills-other : has_free_slot v.state.held ≡ true → (x : View) → x.shape ≡ w.shape → x.state ≡ record w.state { held = drop_packet w.state.held h.packet } → Fills h k v x
  fills-other room x same e =
      record {
        held = held-same w x k same (ap (λ (s : SeatState). known_length s.held k.packet) e ∙ (known-came w.state.held h.packet k.packet k.length apart t.held.known ∙ sym t.held.known)) t.held;
        free = ap (λ (s : SeatState). has_free_slot s.held) e ∙ drop-free w.state.held h.packet (known-held w.state.held h.packet h.length kept.known);
        frees =
            (let less = drop-frees w.state.held h.packet (known-held w.state.held h.packet h.length kept.known) in
            let more : free_slots w.state.held + 1 ≡ free_slots v.state.held = ap (λ (s : SeatState). free_slots s.held + 1) t.state ∙ with-frees v.state.held k.packet k.length room in
            let back : free_slots x.state.held ≡ free_slots (drop_packet w.state.held h.packet) = ap (λ (s : SeatState). free_slots s.held) e in
            omega (arith, less, more, back));
        slots =
            ap (λ (s : SeatState). drop_packet s.held k.packet) e
            ∙ (ap (λ (s : SeatState). drop_packet (drop_packet s.held h.packet) k.packet) t.state ∙ exchanged v.state.held h.packet k.packet k.length t.unheld);
      }
