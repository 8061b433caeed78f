-- The packets in hand exist, and no two are the same, once one was put into a slot or taken out, or its length became known.
use Rattle.std.proofs.Common.{ℕ, ◌≡◌, ◌<◌, suc, [], ◌∷◌, map, get_or, length, arith, refl, sym, ap, ◌∙◌, subst, Bool, true, false, Some, None, cond, eqb}
use Rattle.std.specs.Prelude.{IfSome}
use Rattle.std.specs.List.{All, AllPairs}
use Rattle.std.proofs.lemmas.Bool.{or_parts, eqb-true, eqb-false, ne_eqb}
use Rattle.std.proofs.lemmas.List.{length-map, get_or-map}
use Rattle.std.proofs.lemmas.List.Elements.{All-nil, All-cons, All-head, All-tail, All-map}
use Rattle.std.proofs.lemmas.List.Kept.{AllPairs-cons}
use Rattle.mark_core.specs.Held.{Slot, Slots, slot_of, holds, put_packet, slot_without, drop_packet, slot_with, set_length}
use Rattle.mark_core.specs.WellFormed.{IsApart, IsHeldList}
use Rattle.mark_core.proofs.Writing.SeatBoundsKept.{choose}
use Rattle.mark_core.specs.declared.kinds.Shape.{Shape}

-- the first of two values has the property if it is taken, and the other anyway
chosen : {X : Type 0} (P : X → Type 0) (b : Bool) (x y : X) → (b ≡ true → P x) → P y → P (cond b x y)
chosen P true x y p q = p refl
chosen P false x y p q = q

-- the packet in the slot exists
abbrev Exists : ℕ → Slot → Type 0
Exists n x = IfSome x (λ h. h.0 < n)

pairs_head : (x : Slot) (hs : Slots) → AllPairs IsApart (x ∷ hs) → All (IsApart x) hs
pairs_head x hs a j d h = a 0 (suc j) d (omega arith) (omega (arith, h))

pairs_tail : (x : Slot) (hs : Slots) → AllPairs IsApart (x ∷ hs) → AllPairs IsApart hs
pairs_tail x hs a i j d l h = a (suc i) (suc j) d (omega (arith, l)) (omega (arith, h))

-- a change of each slot that never makes two alike
mapped_apart : (f : Slot → Slot) (hs : Slots) → ((x y : Slot) → IsApart x y → IsApart (f x) (f y)) → AllPairs IsApart hs → AllPairs IsApart (map f hs)
mapped_apart f hs k a i j d l h =
    let hj : j < length hs = rw length-map at h in
    let ei : get_or (map f hs) i d ≡ f (get_or hs i d) = get_or-map f hs i d d (omega (arith, hj, l)) in
    let ej : get_or (map f hs) j d ≡ f (get_or hs j d) = get_or-map f hs j d d hj in
    rw (ei, ej) (k (get_or hs i d) (get_or hs j d) (a i j d l hj))

put_all : (P : Slot → Type 0) (hs : Slots) (p : ℕ) → All P hs → P (Some (p, None, true)) → All P (put_packet hs p)
put_all P [] p a h = a
put_all P (None ∷ hs) p a h = All-cons P (Some (p, None, true)) hs h (All-tail P None hs a)
put_all P (Some x ∷ hs) p a h = All-cons P (Some x) (put_packet hs p) (All-head P (Some x) hs a) (put_all P hs p (All-tail P (Some x) hs a) h)

none_holds : (hs : Slots) (p : ℕ) → holds hs p ≡ false → All (λ y. slot_of y p ≡ false) hs
none_holds [] p e = All-nil (λ y. slot_of y p ≡ false)
none_holds (x ∷ hs) p e = let a = or_parts (slot_of x p) (holds hs p) e in All-cons (λ y. slot_of y p ≡ false) x hs a.0 (none_holds hs p a.1)

put_apart : (hs : Slots) (p : ℕ) → holds hs p ≡ false → AllPairs IsApart hs → AllPairs IsApart (put_packet hs p)
put_apart [] p e a = a
put_apart (None ∷ hs) p e a = AllPairs-cons IsApart (Some (p, None, true)) hs (none_holds hs p e) (pairs_tail None hs a)
put_apart (Some x ∷ hs) p e a =
    let b = or_parts (eqb x.0 p) (holds hs p) e in
    let far : eqb p x.0 ≡ false = ne_eqb p x.0 (λ i. eqb-false x.0 p b.0 (sym i)) in
    AllPairs-cons IsApart (Some x) (put_packet hs p) (put_all (IsApart (Some x)) hs p (pairs_head (Some x) hs a) far) (put_apart hs p b.1 (pairs_tail (Some x) hs a))

put_four : (hs : Slots) (p : ℕ) → length (put_packet hs p) ≡ length hs
put_four [] p = refl
put_four (None ∷ hs) p = refl
put_four (Some x ∷ hs) p = ap (λ n. suc n) (put_four hs p)

pub put-list : (sh : Shape) (hs : Slots) (p : ℕ) → p < sh.packets → holds hs p ≡ false → IsHeldList sh hs → IsHeldList sh (put_packet hs p)
put-list sh hs p h e k = record { four = put_four hs p ∙ k.four; apart = put_apart hs p e k.apart; within = put_all (Exists sh.packets) hs p k.within h }

without_slot : (p q : ℕ) (y : Slot) → slot_of y q ≡ false → slot_of (slot_without p y) q ≡ false
without_slot p q None e = refl
without_slot p q (Some y) e = choose (λ z. slot_of z q ≡ false) (eqb y.0 p) None (Some y) refl e

without_apart : (p : ℕ) (x y : Slot) → IsApart x y → IsApart (slot_without p x) (slot_without p y)
without_apart p None y h = tt
without_apart p (Some x) y h = choose (λ z. IsApart z (slot_without p y)) (eqb x.0 p) None (Some x) tt (without_slot p x.0 y h)

without_exists : (n p : ℕ) (x : Slot) → Exists n x → Exists n (slot_without p x)
without_exists n p None h = tt
without_exists n p (Some x) h = choose (Exists n) (eqb x.0 p) None (Some x) tt h

pub drop-list : (sh : Shape) (hs : Slots) (p : ℕ) → IsHeldList sh hs → IsHeldList sh (drop_packet hs p)
drop-list sh hs p k =
    record {
      four = rw length-map k.four;
      apart = mapped_apart (slot_without p) hs (without_apart p) k.apart;
      within = All-map (Exists sh.packets) (slot_without p) hs (λ i d h. without_exists sh.packets p (get_or hs i d) (k.within i d h));
    }

-- what is known of a packet doesn't change which one it is
with_same : (p n : ℕ) (b : Bool) (y : Slot) (q : ℕ) → slot_of (slot_with p (Some n) b y) q ≡ slot_of y q
with_same p n b None q = refl
with_same p n b (Some y) q = grind (arith, eqb-true)

with_apart : (p n : ℕ) (b : Bool) (x y : Slot) → IsApart x y → IsApart (slot_with p (Some n) b x) (slot_with p (Some n) b y)
with_apart p n b None y h = tt
with_apart p n b (Some x) y h =
    chosen (λ z. IsApart z (slot_with p (Some n) b y)) (eqb x.0 p) (Some (p, Some n, b)) (Some x) (λ e. with_same p n b y p ∙ ap (λ q. slot_of y q) (sym (eqb-true x.0 p e)) ∙ h) (with_same p n b y x.0 ∙ h)

with_exists : (m p n : ℕ) (b : Bool) (x : Slot) → Exists m x → Exists m (slot_with p (Some n) b x)
with_exists m p n b None h = tt
with_exists m p n b (Some x) h = chosen (Exists m) (eqb x.0 p) (Some (p, Some n, b)) (Some x) (λ e. subst (λ q. q < m) (eqb-true x.0 p e) h) h

pub set-list : (sh : Shape) (hs : Slots) (p n : ℕ) (b : Bool) → IsHeldList sh hs → IsHeldList sh (set_length hs p n b)
set-list sh hs p n b k =
    record {
      four = rw length-map k.four;
      apart = mapped_apart (slot_with p (Some n) b) hs (with_apart p n b) k.apart;
      within = All-map (Exists sh.packets) (slot_with p (Some n) b) hs (λ i d h. with_exists sh.packets p n b (get_or hs i d) (k.within i d h));
    }
