-- The slots of a seat that changes one packet for another.
use Rattle.std.proofs.Common.{ℕ, ◌≡◌, ◌≢◌, ◌<◌, ◌≤◌, ◌+◌, [], ◌∷◌, cond, eqb, refl, sym, ap, ◌∙◌, Bool, true, false, Option, Some, None, arith, not, is_some, eq-eqb, unwrap_or}
use Rattle.std.specs.Prelude.{◌||◌}
use Rattle.std.proofs.lemmas.Bool.{true≢false, false≢true, or_parts, ne_eqb, not_from_false, true_from_ne_false}
use Rattle.mark_core.specs.Held.{Slots, Slot, slot_without, holds, holds_another, has_free_slot, known_length, put_packet, drop_packet, set_length, slot_with, has_length, has_entry, length_in_hand, is_stored}
use Rattle.mark_core.proofs.Pool.PoolSlots.{any-held, drop-other, put-other, set-other, holds-put_same, known-put_same, known-set_same}
use Rattle.packet_pools.specs.Hands.{with_packet, free_slots}
use Rattle.mark_core.specs.Seats.{work_in_hand}
use Rattle.mark_core.specs.declared.seat.SeatState.{SeatState}
use Rattle.mark_core.proofs.Known.{unheld-unknown}

-- The slots of a seat that takes a packet, fills it, empties it or gives it back.
-- no work in hand
pub idle-popped : (fields : ℕ) (s : SeatState) → work_in_hand fields s ≡ false → is_some s.popped ≡ false
idle-popped fields s e = (or_parts _ _ (or_parts _ _ (or_parts _ _ (or_parts _ _ e).0).0).0).0

-- a known length is that of a packet in hand
pub known-held : (hs : Slots) (p n : ℕ) → known_length hs p ≡ Some n → holds hs p ≡ true
known-held hs p n e = true_from_ne_false (holds hs p) (λ f. none-some (sym (unheld-unknown hs p f) ∙ e))
  where
    none-some : None ≡ Some n → ⊥
    none-some z = cc

pub known-has : (hs : Slots) (p n : ℕ) → known_length hs p ≡ Some n → has_length hs p ≡ true
known-has hs p n e = ap (λ (o : Option ℕ). is_some o) e

pub known-length : (hs : Slots) (p n : ℕ) → known_length hs p ≡ Some n → length_in_hand hs p ≡ n
known-length hs p n e = ap (λ (o : Option ℕ). unwrap_or o 0) e

pub known-entry : (hs : Slots) (p n : ℕ) → known_length hs p ≡ Some n → 0 < n → has_entry hs p ≡ true
known-entry hs p n e l = ap (λ (m : ℕ). not (eqb m 0)) (known-length hs p n e) ∙ not_from_false _ (ne_eqb n 0 (λ z. absurd (omega (arith, l, z))))

pub known-set : (hs : Slots) (p m n : ℕ) (b : Bool) → known_length hs p ≡ Some m → known_length (set_length hs p n b) p ≡ Some n
known-set hs p m n b e = known-set_same hs p n b (known-held hs p m e)

pub stored-set : (hs : Slots) (p n : ℕ) → holds hs p ≡ true → is_stored (set_length hs p n true) p ≡ true
stored-set [] p n h = absurd (false≢true h)
stored-set (None ∷ hs) p n h = stored-set hs p n h
stored-set (Some x ∷ hs) p n h = grind (arith, stored-set hs p n)

-- a packet that was taken, and whose length was read
pub known-with : (hs : Slots) (p n : ℕ) → has_free_slot hs ≡ true → known_length (with_packet hs p n) p ≡ Some n
known-with hs p n f = known-set_same (put_packet hs p) p n true (holds-put_same hs p f)

pub unread-put : (hs : Slots) (p : ℕ) → holds hs p ≡ false → has_length (put_packet hs p) p ≡ false
unread-put hs p u = ap (λ (o : Option ℕ). is_some o) (known-put_same hs p u)

pub drop-set : (hs : Slots) (p n : ℕ) (b : Bool) → drop_packet (set_length hs p n b) p ≡ drop_packet hs p
drop-set [] p n b = refl
drop-set (None ∷ hs) p n b = ap (λ l. None ∷ l) (drop-set hs p n b)
drop-set (Some x ∷ hs) p n b = λ i. slot i ∷ drop-set hs p n b i
  where
    slot : slot_without p (slot_with p (Some n) b (Some x)) ≡ slot_without p (Some x)
    slot = by_packet (eqb x.0 p) refl
      where
        by_packet : (c : Bool) → eqb x.0 p ≡ c → slot_without p (cond c (Some (p, Some n, b)) (Some x)) ≡ cond c None (Some x)
        by_packet true e = ap (λ (d : Bool). cond d None (Some (p, Some n, b))) (eq-eqb p p refl)
        by_packet false e = ap (λ (d : Bool). cond d None (Some x)) e

drop-unheld : (hs : Slots) (p : ℕ) → holds hs p ≡ false → drop_packet hs p ≡ hs
drop-unheld [] p u = refl
drop-unheld (None ∷ hs) p u = ap (λ l. None ∷ l) (drop-unheld hs p u)
drop-unheld (Some x ∷ hs) p u = let b = or_parts (eqb x.0 p) (holds hs p) u in λ i. cond (b.0 i) None (Some x) ∷ drop-unheld hs p b.1 i

drop-put : (hs : Slots) (p : ℕ) → holds hs p ≡ false → drop_packet (put_packet hs p) p ≡ hs
drop-put [] p u = refl
drop-put (None ∷ hs) p u = λ i. cond (eq-eqb p p refl i) None (Some (p, None, true)) ∷ drop-unheld hs p u i
drop-put (Some x ∷ hs) p u = let b = or_parts (eqb x.0 p) (holds hs p) u in λ i. cond (b.0 i) None (Some x) ∷ drop-put hs p b.1 i

-- a packet that is taken and given back leaves the slots as they were
pub drop-with : (hs : Slots) (p n : ℕ) → holds hs p ≡ false → drop_packet (with_packet hs p n) p ≡ hs
drop-with hs p n u = drop-set (put_packet hs p) p n true ∙ drop-put hs p u

-- what is known of another packet stays
pub with-other : (hs : Slots) (p n q : ℕ) → q ≢ p → known_length (with_packet hs p n) q ≡ known_length hs q
with-other hs p n q d = (set-other (put_packet hs p) p n true q d).known_same ∙ (put-other hs p q d).known_same

-- a packet that isn't held is another than one that is
pub held-apart : (hs : Slots) (p q n : ℕ) → known_length hs p ≡ Some n → holds hs q ≡ false → q ≢ p
held-apart hs p q n k u e = true≢false (sym (known-held hs p n k) ∙ (ap (holds hs) (sym e) ∙ u))

-- two packets are held
pub another-held : (hs : Slots) (p q : ℕ) → q ≢ p → holds hs q ≡ true → holds_another hs p ≡ true
another-held hs p q d h = any-held (drop_packet hs p) q ((drop-other hs p q d).holds_same ∙ h)

-- a packet that goes leaves a free slot
pub drop-free : (hs : Slots) (p : ℕ) → holds hs p ≡ true → has_free_slot (drop_packet hs p) ≡ true
drop-free [] p h = absurd (false≢true h)
drop-free (None ∷ hs) p h = refl
drop-free (Some x ∷ hs) p h = grind (arith, drop-free hs p)

-- a length that is set leaves the slots free or not
pub set-free : (hs : Slots) (p n : ℕ) (b : Bool) → has_free_slot (set_length hs p n b) ≡ has_free_slot hs
set-free [] p n b = refl
set-free (None ∷ hs) p n b = refl
set-free (Some x ∷ hs) p n b = grind (arith, set-free hs p n b)

pub set-frees : (hs : Slots) (p n : ℕ) (b : Bool) → free_slots (set_length hs p n b) ≡ free_slots hs
set-frees [] p n b = refl
set-frees (None ∷ hs) p n b = ap (λ m. 1 + m) (set-frees hs p n b)
set-frees (Some x ∷ hs) p n b = either (eqb x.0 p) ∙ set-frees hs p n b
  where
    either : (c : Bool) → free_slots (cond c (Some (p, Some n, b)) (Some x) ∷ set_length hs p n b) ≡ free_slots (set_length hs p n b)
    either true = refl
    either false = refl

dropped-one : (x : ℕ × Option ℕ × Bool) (hs : Slots) (c : Bool) → free_slots hs ≤ free_slots (cond c None (Some x) ∷ hs)
dropped-one x hs true = omega arith
dropped-one x hs false = omega arith

drop-most : (hs : Slots) (p : ℕ) → free_slots hs ≤ free_slots (drop_packet hs p)
drop-most [] p = omega arith
drop-most (None ∷ hs) p = let e = drop-most hs p in omega (arith, e)
drop-most (Some x ∷ hs) p = let e = drop-most hs p in let d = dropped-one x (drop_packet hs p) (eqb x.0 p) in omega (arith, e, d)

-- a packet that goes leaves one more slot free
pub drop-frees : (hs : Slots) (p : ℕ) → holds hs p ≡ true → free_slots hs + 1 ≤ free_slots (drop_packet hs p)
drop-frees [] p h = absurd (false≢true h)
drop-frees (None ∷ hs) p h = let e = drop-frees hs p h in omega (arith, e)
drop-frees (Some x ∷ hs) p h = either (eqb x.0 p) h (drop-most hs p) (drop-frees hs p)
  where
    either : (c : Bool) → (c || holds hs p) ≡ true → free_slots hs ≤ free_slots (drop_packet hs p) → (holds hs p ≡ true → free_slots hs + 1 ≤ free_slots (drop_packet hs p)) → free_slots hs + 1 ≤ free_slots (cond c None (Some x) ∷ drop_packet hs p)
    either true g e f = omega (arith, e)
    either false g e f = f g

put-frees : (hs : Slots) (p : ℕ) → has_free_slot hs ≡ true → free_slots (put_packet hs p) + 1 ≡ free_slots hs
put-frees [] p f = absurd (false≢true f)
put-frees (None ∷ hs) p f = omega arith
put-frees (Some x ∷ hs) p f = put-frees hs p f

-- a packet that was taken fills a slot
pub with-frees : (hs : Slots) (p n : ℕ) → has_free_slot hs ≡ true → free_slots (with_packet hs p n) + 1 ≡ free_slots hs
with-frees hs p n f = ap (λ m. m + 1) (set-frees (put_packet hs p) p n true) ∙ put-frees hs p f

-- a slot is free if one is counted
pub some-free : (hs : Slots) → 0 < free_slots hs → has_free_slot hs ≡ true
some-free [] l = absurd (omega (arith, l))
some-free (None ∷ hs) l = refl
some-free (Some x ∷ hs) l = some-free hs l

without-either : (x : Slot) (p q : ℕ) → slot_without q (slot_without p x) ≡ slot_without p (slot_without q x)
without-either None p q = refl
without-either (Some x) p q = grind arith

-- the order in which two packets go is free
pub drop-either : (hs : Slots) (p q : ℕ) → drop_packet (drop_packet hs p) q ≡ drop_packet (drop_packet hs q) p
drop-either [] p q = refl
drop-either (x ∷ hs) p q = λ i. without-either x p q i ∷ drop-either hs p q i

-- one packet came, and another went: but for these two the slots are as they were
pub exchanged : (hs : Slots) (p q n : ℕ) → holds hs q ≡ false → drop_packet (drop_packet (with_packet hs q n) p) q ≡ drop_packet hs p
exchanged hs p q n u = drop-either (with_packet hs q n) p q ∙ ap (λ l. drop_packet l p) (drop-with hs q n u)

-- what is known of the packet that came stays as another goes
pub known-came : (hs : Slots) (p q n : ℕ) → q ≢ p → known_length hs q ≡ Some n → known_length (drop_packet hs p) q ≡ Some n
known-came hs p q n d k = (drop-other hs p q d).known_same ∙ k
