-- What a seat has in hand after each step of a scan.
use Rattle.std.proofs.Common.{ℕ, ◌≡◌, ◌≤◌, ◌+◌, ◌%◌, ◌⊎◌, inl, inr, arith, refl, sym, ap, ◌∙◌, subst, Bool, true, false, cond, Some, None, Option, eq-eqb}
use Rattle.mark_core.specs.Bits.{has_bit}
use Rattle.mark_core.specs.Held.{has_free_slot, drop_packet}
use Rattle.mark_core.specs.Seats.{is_the}
use Rattle.mark_core.specs.Steps.ColourSteps.{fresh_off, popped_off}
use Rattle.mark_core.specs.declared.kinds.Step.TheVariants.{Push, SetMark, DirtyCard}
use Rattle.mark_core.specs.declared.seat.Cleaning.{Cleaning}
use Rattle.mark_core.specs.declared.seat.SeatState.{SeatState}
use Rattle.gc_table.specs.declared.view.View.{View}
use Rattle.gc_table.specs.Taking.{after}
use Rattle.packet_pools.specs.declared.held.Held.{Held}
use Rattle.packet_pools.specs.Scanning.{InHand, Fills, Pushes, Settles}
use Rattle.packet_pools.specs.Hands.{HoldsPacket, free_slots}
use Rattle.packet_pools.proofs.Filled.{fills-join, fills-more, fills-same}
use Rattle.packet_pools.proofs.Settled.{settles-dirty, settles-join, settles-same}
use Rattle.mark_core.specs.Cards.{block_cells, card_of}

abbrev pub Owed : SeatState → SeatState → Type 0
Owed s t = (t.owes ≡ s.owes) ⊎ (t.owes ≡ None)

owed-join : (s t u : SeatState) → Owed s t → Owed t u → Owed s u
owed-join s t u a (inr e) = inr e
owed-join s t u (inl d) (inl e) = inl (e ∙ d)
owed-join s t u (inr d) (inl e) = inr (e ∙ d)

-- one after another
pub pushes-join : (u v w : View) (h k l : Held) (x y : Option (ℕ × ℕ)) (c d f : Option Cleaning) → Pushes h k x c u v → Pushes k l y d v w → Settles f d → Pushes h l y f u w
pushes-join u v w h k l x y c d f a b s =
    record {
      packet = fills-join u v w h k l a.packet b.packet;
      hand = b.hand;
      scan = b.scan;
      cleaning = settles-join f d w.state.cleaning s b.cleaning;
      owes = owed-join u.state v.state w.state a.owes b.owes;
    }

-- nothing but slots changed before
pub pushes-from : (u v w : View) (h k l : Held) (x : Option (ℕ × ℕ)) (c : Option Cleaning) → Fills h k u v → v.state.owes ≡ u.state.owes → Pushes k l x c v w → Pushes h l x c u w
pushes-from u v w h k l x c a e b =
    record { packet = fills-join u v w h k l a b.packet; hand = b.hand; scan = b.scan; cleaning = b.cleaning; owes = owed-join u.state v.state w.state (inl e) b.owes }

-- the marked cell goes into the packet
module _ (v w : View) (h : Held) (c n : ℕ) (e : w ≡ after (Push h.packet c) n v) (hand : InHand None (Some c) v.state) where
  pushed-hand : InHand None None w.state
  pushed-hand =
      record {
        popped =
            ap (λ (z : View). z.state.popped) e
            ∙ ((λ i. cond (is_the (hand.fresh i) c) (hand.popped i) None) ∙ ap (λ (b : Bool). cond b None None) (eq-eqb c c refl));
        value = ap (λ (z : View). z.state.value) e ∙ hand.value;
        fresh =
            ap (λ (z : View). z.state.fresh) e
            ∙ (ap (λ (o : Option ℕ). cond (is_the o c) None o) hand.fresh ∙ ap (λ (b : Bool). cond b None (Some c)) (eq-eqb c c refl));
      }

  pub pushed : h.length + 1 ≤ v.shape.entries → HoldsPacket h v → has_free_slot v.state.held ≡ true → Pushes h (record h { length = h.length + 1 }) v.state.scan v.state.cleaning v w
  pushed fits k free =
      record {
        packet = fills-more v w h false (ap (λ (z : View). z.shape) e) (ap (λ (z : View). z.state.held) e) fits k free;
        hand = pushed-hand;
        scan = ap (λ (z : View). z.state.scan) e;
        cleaning = subst (Settles v.state.cleaning) (sym (ap (λ (z : View). z.state.cleaning) e)) (settles-same v.state.cleaning);
        owes = inl (ap (λ (z : View). z.state.owes) e);
      }

-- its card is dirtied
module _ (v w : View) (h : Held) (c n : ℕ) (e : w ≡ after (DirtyCard (card_of c)) n v) (hand : InHand None (Some c) v.state) where
  dirtied-hand : InHand None None w.state
  dirtied-hand =
      record {
        popped = ap (λ (z : View). z.state.popped) e ∙ ap (λ o. popped_off o (card_of c)) hand.popped;
        value = ap (λ (z : View). z.state.value) e ∙ hand.value;
        fresh =
            ap (λ (z : View). z.state.fresh) e
            ∙ (ap (λ o. fresh_off o (card_of c)) hand.fresh ∙ ap (λ (b : Bool). cond b None (Some c)) (eq-eqb (card_of c) (card_of c) refl));
      }

  paid : (b : Bool) → w.state.owes ≡ cond b None v.state.owes → Owed v.state w.state
  paid true o = inr o
  paid false o = inl o

  pub dirtied : HoldsPacket h v → has_free_slot v.state.held ≡ true → Pushes h h v.state.scan v.state.cleaning v w
  dirtied k free =
      record {
        packet = fills-same v w h (ap (λ (z : View). z.shape) e) (ap (λ (z : View). z.state.held) e) k free;
        hand = dirtied-hand;
        scan = ap (λ (z : View). z.state.scan) e;
        cleaning = subst (Settles v.state.cleaning) (sym (ap (λ (z : View). z.state.cleaning) e)) (settles-dirty v.state.cleaning (card_of c));
        owes = paid (is_the v.state.owes (card_of c)) (ap (λ (z : View). z.state.owes) e);
      }

-- the loaded cell was marked before
pub black : (v w : View) (h : Held) (c n : ℕ) → w ≡ after (SetMark c) n v → has_bit n (c % block_cells) ≡ true → InHand (Some c) None v.state → HoldsPacket h v → has_free_slot v.state.held ≡ true → Pushes h h v.state.scan v.state.cleaning v w
black v w h c n e bit hand k free =
    record {
      packet = fills-same v w h (ap (λ (z : View). z.shape) e) (ap (λ (z : View). z.state.held) e) k free;
      hand =
          record {
            popped = ap (λ (z : View). z.state.popped) e ∙ hand.popped;
            value = ap (λ (z : View). z.state.value) e;
            fresh = ap (λ (z : View). z.state.fresh) e ∙ (ap (λ (b : Bool). cond b v.state.fresh (Some c)) bit ∙ hand.fresh);
          };
      scan = ap (λ (z : View). z.state.scan) e;
      cleaning = subst (Settles v.state.cleaning) (sym (ap (λ (z : View). z.state.cleaning) e)) (settles-same v.state.cleaning);
      owes = inl (ap (λ (z : View). z.state.owes) e);
    }

-- it was white, and is marked now
pub white : (v w : View) (c n : ℕ) → w ≡ after (SetMark c) n v → has_bit n (c % block_cells) ≡ false → InHand (Some c) None v.state → InHand None (Some c) w.state
white v w c n e bit hand =
    record {
      popped = ap (λ (z : View). z.state.popped) e ∙ hand.popped;
      value = ap (λ (z : View). z.state.value) e;
      fresh = ap (λ (z : View). z.state.fresh) e ∙ ap (λ (b : Bool). cond b v.state.fresh (Some c)) bit;
    }

-- then it was pushed
pub pushes-after : (v w x : View) (h k : Held) (c n : ℕ) → w ≡ after (SetMark c) n v → Pushes h k w.state.scan w.state.cleaning w x → Pushes h k v.state.scan v.state.cleaning v x
pushes-after v w x h k c n e p =
    record {
      packet = record { held = p.packet.held; free = p.packet.free; frees = (let n : free_slots v.state.held ≡ free_slots w.state.held = ap (λ (z : View). free_slots z.state.held) (sym e) in omega (arith, n, p.packet.frees)); slots = p.packet.slots ∙ ap (λ (z : View). drop_packet z.state.held h.packet) e };
      hand = p.hand;
      scan = p.scan ∙ ap (λ (z : View). z.state.scan) e;
      cleaning = subst (λ y. Settles y x.state.cleaning) (ap (λ (z : View). z.state.cleaning) e) p.cleaning;
      owes = owed-join v.state w.state x.state (inl (ap (λ (z : View). z.state.owes) e)) p.owes;
    }
