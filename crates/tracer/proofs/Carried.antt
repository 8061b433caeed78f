-- The packets that a tracer holds, as one is taken, filled, emptied or given back.
use Rattle.std.proofs.Common.{ℕ, ◌≡◌, ◌≢◌, ◌≤◌, ◌+◌, List, [], ◌∷◌, ◌++◌, length, refl, sym, ap, ◌∙◌, subst, arith, Bool, true, false, Some, None, Option, eqb, eq-eqb, eqb-true, ⊎_elim}
use Rattle.std.specs.Prelude.{IfSome, IfNone}
use Rattle.std.proofs.lemmas.Bool.{cases_Bool, false≢true, true≢false, ne_eqb}
use Rattle.mark_core.specs.Held.{Slots, holds, known_length, drop_packet, set_length, has_free_slot}
use Rattle.mark_core.specs.Seats.{is_the}
use Rattle.mark_core.specs.declared.kinds.Shape.{Shape}
use Rattle.mark_core.specs.declared.seat.SeatState.{SeatState}
use Rattle.mark_core.proofs.Pool.PoolSlots.{drop-other, holds-drop_same}
use Rattle.gc_table.specs.declared.view.View.{View}
use Rattle.packet_pools.specs.declared.held.Held.{Held}
use Rattle.packet_pools.specs.Hands.{HoldsPacket, free_slots}
use Rattle.packet_pools.specs.Gains.{Brings, Takes}
use Rattle.packet_pools.specs.Scanning.{Fills}
use Rattle.packet_pools.proofs.Exchanged.{drop-set, drop-with, known-held, drop-either, drop-frees, set-frees, some-free, with-frees}
use Rattle.tracer.specs.declared.packets.Packets.{Packets}
use Rattle.tracer.specs.Hands.{AllFit, AreHeld, Carries, in_front, no_packets, packet_of, packets_of}

held-swap : (a b : Held) (hs : List Held) (s : Slots) → AreHeld (a ∷ b ∷ hs) s → AreHeld (b ∷ a ∷ hs) s
held-swap a b hs s h =
    let apart : b.packet ≢ a.packet =
    λ e. true≢false (sym (known-held (drop_packet s a.packet) b.packet b.length h.1.0) ∙ (ap (holds (drop_packet s a.packet)) e ∙ holds-drop_same s a.packet)) in (
      sym (drop-other s a.packet b.packet apart).known_same ∙ h.1.0,
      ((drop-other s b.packet a.packet (λ e. apart (sym e))).known_same ∙ h.0, subst (AreHeld hs) (drop-either s a.packet b.packet) h.1.1),
    )

held-front : (xs : List Held) (h : Held) (ys : List Held) (s : Slots) → AreHeld (xs ++ (h ∷ ys)) s → AreHeld (h ∷ (xs ++ ys)) s
held-front [] h ys s a = a
held-front (x ∷ xs) h ys s a = held-swap x h (xs ++ ys) s (a.0, held-front xs h ys (drop_packet s x.packet) a.1)

held-back : (xs : List Held) (h : Held) (ys : List Held) (s : Slots) → AreHeld (h ∷ (xs ++ ys)) s → AreHeld (xs ++ (h ∷ ys)) s
held-back [] h ys s a = a
held-back (x ∷ xs) h ys s a = let b = held-swap h x (xs ++ ys) s a in (b.0, held-back xs h ys (drop_packet s x.packet) b.1)

fit-front : (sh : Shape) (xs : List Held) (h : Held) (ys : List Held) → AllFit sh (xs ++ (h ∷ ys)) → AllFit sh (h ∷ (xs ++ ys))
fit-front sh [] h ys a = a
fit-front sh (x ∷ xs) h ys a = let b = fit-front sh xs h ys a.2 in (b.0, b.1, (a.0, a.1, b.2))

fit-back : (sh : Shape) (xs : List Held) (h : Held) (ys : List Held) → AllFit sh (h ∷ (xs ++ ys)) → AllFit sh (xs ++ (h ∷ ys))
fit-back sh [] h ys a = a
fit-back sh (x ∷ xs) h ys a = let b = a.2 in (b.0, b.1, fit-back sh xs h ys (a.0, a.1, b.2))

longer : (xs : List Held) (h : Held) (ys : List Held) → length (xs ++ (h ∷ ys)) ≡ length (h ∷ (xs ++ ys))
longer [] h ys = refl
longer (x ∷ xs) h ys = let e = longer xs h ys in omega (arith, e)

module _ (xs : List Held) (h : Held) (ys : List Held) (v : View) where
  -- the order is free
  pub carries-front : Carries (xs ++ (h ∷ ys)) v → Carries (h ∷ (xs ++ ys)) v
  carries-front c = record { fit = fit-front v.shape xs h ys c.fit; held = held-front xs h ys v.state.held c.held; free = (let e = longer xs h ys in omega (arith, e, c.free)) }

  pub carries-back : Carries (h ∷ (xs ++ ys)) v → Carries (xs ++ (h ∷ ys)) v
  carries-back c = record { fit = fit-back v.shape xs h ys c.fit; held = held-back xs h ys v.state.held c.held; free = (let e = longer xs h ys in omega (arith, e, c.free)) }

-- the first of them is held
pub carries-head : (h : Held) (hs : List Held) (v : View) → Carries (h ∷ hs) v → HoldsPacket h v
carries-head h hs v c = record { there = c.fit.0; known = c.held.0; fits = c.fit.1 }

-- a slot is free if there are at most three
pub carries-free : (hs : List Held) (v : View) → length hs ≤ 3 → Carries hs v → has_free_slot v.state.held ≡ true
carries-free hs v l c = some-free v.state.held (omega (arith, l, c.free))

-- two of them are apart
pub carries-apart : (a b : Held) (hs : List Held) (v : View) → Carries (a ∷ b ∷ hs) v → b.packet ≢ a.packet
carries-apart a b hs v c e = true≢false (sym (known-held (drop_packet v.state.held a.packet) b.packet b.length c.held.1.0) ∙ (ap (holds (drop_packet v.state.held a.packet)) e ∙ holds-drop_same v.state.held a.packet))

module _ (v w : View) (shape : w.shape ≡ v.shape) where
  pub carries-same : (hs : List Held) → w.state.held ≡ v.state.held → Carries hs v → Carries hs w
  carries-same hs e c =
      record {
        fit = subst (λ (sh : Shape). AllFit sh hs) (sym shape) c.fit;
        held = subst (AreHeld hs) (sym e) c.held;
        free = (let n : free_slots w.state.held ≡ free_slots v.state.held = ap free_slots e in omega (arith, n, c.free));
      }

  -- one is filled, or changed for another
  pub carries-fill : (h k : Held) (hs : List Held) → Fills h k v w → Carries (h ∷ hs) v → Carries (k ∷ hs) w
  carries-fill h k hs f c =
      record {
        fit = (f.held.there, f.held.fits, subst (λ (sh : Shape). AllFit sh hs) (sym shape) c.fit.2);
        held = (f.held.known, subst (AreHeld hs) (sym f.slots) c.held.1);
        free = omega (arith, f.frees, c.free);
      }

  -- one has another length
  pub carries-set : (h k : Held) (n : ℕ) (b : Bool) (hs : List Held) → k.packet ≡ h.packet → HoldsPacket k w → w.state.held ≡ set_length v.state.held h.packet n b → Carries (h ∷ hs) v → Carries (k ∷ hs) w
  carries-set h k n b hs same held e c =
      record {
        fit = (held.there, held.fits, subst (λ (sh : Shape). AllFit sh hs) (sym shape) c.fit.2);
        held = (held.known, subst (AreHeld hs) (sym (ap (drop_packet w.state.held) same ∙ (ap (λ s. drop_packet s h.packet) e ∙ drop-set v.state.held h.packet n b))) c.held.1);
        free = (let m : free_slots w.state.held ≡ free_slots v.state.held = ap free_slots e ∙ set-frees v.state.held h.packet n b in omega (arith, m, c.free));
      }

  -- one more is taken
  pub carries-bring : (h : Held) (hs : List Held) → Brings h v w → has_free_slot v.state.held ≡ true → Carries hs v → Carries (h ∷ hs) w
  carries-bring h hs t room c =
      record {
        fit = (t.held.there, t.held.fits, subst (λ (sh : Shape). AllFit sh hs) (sym shape) c.fit);
        held = (t.held.known, subst (AreHeld hs) (sym (ap (λ (s : SeatState). drop_packet s.held h.packet) t.state ∙ drop-with v.state.held h.packet h.length t.unheld)) c.held);
        free = (let n : free_slots w.state.held + 1 ≡ free_slots v.state.held = ap (λ (s : SeatState). free_slots s.held + 1) t.state ∙ with-frees v.state.held h.packet h.length room in omega (arith, n, c.free));
      }

  pub carries-take : (qs : List ℕ) (h : Held) (hs : List Held) → Takes qs h v w → has_free_slot v.state.held ≡ true → Carries hs v → Carries (h ∷ hs) w
  carries-take qs h hs t room c = carries-bring h hs (record { unheld = t.unheld; held = t.held; state = t.state }) room c

  -- one is given back
  pub carries-give : (h : Held) (hs : List Held) → w.state.held ≡ drop_packet v.state.held h.packet → Carries (h ∷ hs) v → Carries hs w
  carries-give h hs e c =
      record {
        fit = subst (λ (sh : Shape). AllFit sh hs) (sym shape) c.fit.2;
        held = subst (AreHeld hs) (sym e) c.held.1;
        free =
            (let n : free_slots w.state.held ≡ free_slots (drop_packet v.state.held h.packet) = ap free_slots e in
            let m = drop-frees v.state.held h.packet (known-held v.state.held h.packet h.length c.held.0) in
            omega (arith, n, m, c.free));
      }

-- none is held
pub carries-none : (v : View) → v.state.held ≡ no_packets → Carries [] v
carries-none v e = record { fit = tt; held = e; free = (let n : free_slots v.state.held ≡ 4 = ap free_slots e in omega (arith, n)) }

-- a fact of each of them
abbrev pub AllAre : (ℕ → ℕ → Type 0) → List Held → Type 0
AllAre P [] = Unit {0}
AllAre P (h ∷ hs) = P h.packet h.length × AllAre P hs

-- it is one of each packet that is held
pub held-is : (P : ℕ → ℕ → Type 0) (hs : List Held) (s : Slots) (p : ℕ) → AllAre P hs → AreHeld hs s → holds s p ≡ true → (n : ℕ) × (known_length s p ≡ Some n) × P p n
held-is P [] s p f a h = absurd (false≢true (sym (ap (λ t. holds t p) a) ∙ h))
held-is P (k ∷ hs) s p f a h =
    ⊎_elim
    (λ (e : eqb k.packet p ≡ true). let same = eqb-true k.packet p e in (k.length, subst (λ x. known_length s x ≡ Some k.length) same a.0, subst (λ x. P x k.length) same f.0))
    (λ (e : eqb k.packet p ≡ false).
    let apart : p ≢ k.packet = λ z. true≢false (sym (eq-eqb k.packet p (sym z)) ∙ e) in
    let o = drop-other s k.packet p apart in
    let r = held-is P hs (drop_packet s k.packet) p f.1 a.1 (o.holds_same ∙ h) in
    (r.0, sym o.known_same ∙ r.1, r.2))
    (cases_Bool (eqb k.packet p))

-- a tracer has at most three
pub packets-three : (x : Packets) → length (packets_of x) ≤ 3
packets-three x = either x.output x.deferred
  where
    either : (o d : Option Held) → length (x.input ∷ in_front o (in_front d [])) ≤ 3
    either None None = omega arith
    either None (Some d) = omega arith
    either (Some o) None = omega arith
    either (Some o) (Some d) = omega arith

-- the packet that is being filled with deferred cells, before the others
pub deferred-first : (i : Held) (o : Option Held) (h : Held) (v : View) → Carries (i ∷ in_front o (h ∷ [])) v → Carries (h ∷ i ∷ in_front o []) v
deferred-first i None h v c = carries-front (i ∷ []) h [] v c
deferred-first i (Some k) h v c = carries-front (i ∷ k ∷ []) h [] v c

pub deferred-last : (i : Held) (o : Option Held) (h : Held) (v : View) → Carries (h ∷ i ∷ in_front o []) v → Carries (i ∷ in_front o (h ∷ [])) v
deferred-last i None h v c = carries-back (i ∷ []) h [] v c
deferred-last i (Some k) h v c = carries-back (i ∷ k ∷ []) h [] v c

-- a packet was taken, or none was found
pub taken-either : (qs : List ℕ) (r : Option Held) (hs : List Held) (v w : View) → w.shape ≡ v.shape → has_free_slot v.state.held ≡ true → IfSome r (λ h. Takes qs h v w) → IfNone r (w.state ≡ v.state) → Carries hs v → Carries (in_front r hs) w
taken-either qs None hs v w shape room some none c = carries-same v w shape hs (ap (λ (s : SeatState). s.held) none) c
taken-either qs (Some h) hs v w shape room some none c = carries-take v w shape qs h hs some room c

pub brought-either : (r : Option Held) (hs : List Held) (v w : View) → w.shape ≡ v.shape → has_free_slot v.state.held ≡ true → IfSome r (λ h. Brings h v w) → IfNone r (w.state ≡ v.state) → Carries hs v → Carries (in_front r hs) w
brought-either None hs v w shape room some none c = carries-same v w shape hs (ap (λ (s : SeatState). s.held) none) c
brought-either (Some h) hs v w shape room some none c = carries-bring v w shape h hs some room c

-- the packet that is being filled with deferred cells, if it is there, before the others
pub deferred-front : (i : Held) (o d : Option Held) (v : View) → Carries (i ∷ in_front o (in_front d [])) v → Carries (in_front d (i ∷ in_front o [])) v
deferred-front i o None v c = c
deferred-front i o (Some h) v c = deferred-first i o h v c

pub deferred-back : (i : Held) (o d : Option Held) (v : View) → Carries (in_front d (i ∷ in_front o [])) v → Carries (i ∷ in_front o (in_front d [])) v
deferred-back i o None v c = c
deferred-back i o (Some h) v c = deferred-last i o h v c

pub second-front : (a : Held) (r : Option Held) (hs : List Held) (v : View) → Carries (a ∷ in_front r hs) v → Carries (in_front r (a ∷ hs)) v
second-front a None hs v c = c
second-front a (Some h) hs v c = carries-front (a ∷ []) h hs v c

pub second-back : (a : Held) (r : Option Held) (hs : List Held) (v : View) → Carries (in_front r (a ∷ hs)) v → Carries (a ∷ in_front r hs) v
second-back a None hs v c = c
second-back a (Some h) hs v c = carries-back (a ∷ []) h hs v c

pub front-held : (r : Option Held) (hs : List Held) (v : View) → Carries (in_front r hs) v → IfSome r (λ h. HoldsPacket h v)
front-held None hs v c = tt
front-held (Some h) hs v c = carries-head h hs v c

-- the input isn't the packet that waits
pub input-apart : (i : Held) (o d : Option Held) (v : View) → Carries (i ∷ in_front o (in_front d [])) v → is_the (packet_of d) i.packet ≡ false
input-apart i o None v c = refl
input-apart i o (Some h) v c = ne_eqb h.packet i.packet (λ e. carries-apart h i (in_front o []) v (deferred-first i o h v c) (sym e))
