-- What one step of this crate makes of a seat that traces.
use Rattle.std.proofs.Common.{ℕ, ◌≡◌, ◌<◌, ◌≤◌, ◌+◌, ◌-◌, arith, refl, sym, ap, ◌∙◌, subst, Bool, true, false, Some, ◌*◌, Option, None, eqb}
use Rattle.std.specs.Prelude.{is_some, IfSome, IfNone, nat_lt}
use Rattle.std.proofs.lemmas.Bool.{not_from_false, and_parts, ltb-true}
use Rattle.mark_core.specs.Steps.PacketSteps.{may_push}
use Rattle.mark_core.specs.Held.{known_length, set_length, length_in_hand, has_free_slot}
use Rattle.mark_core.specs.declared.kinds.Step.TheVariants.{Reserve, Take, Give, Credit, Push, Pop, Look, ReadCount, StoreLength, ReadLength}
use Rattle.gc_table.specs.declared.view.View.{View}
use Rattle.mark_core.specs.Effects.{written}
use Rattle.gc_table.specs.Taking.{after, Finds}
use Rattle.packet_pools.specs.declared.held.Held.{Held}
use Rattle.packet_pools.specs.OnlyTraced.{OnlyTracedBy, OnlyTraced}
use Rattle.packet_pools.specs.Tracing.{Traces, traces}
use Rattle.packet_pools.specs.Hands.{HoldsPacket}
use Rattle.packet_pools.proofs.TracedSteps.{traced-step, traced-to, seen-found, seen-stored}
use Rattle.packet_pools.proofs.Conditions.{traces-later}
use Rattle.packet_pools.proofs.Exchanged.{known-set, known-length}
use Rattle.mark_core.specs.Numbers.{empty_pool_number, low_pool_number, pools_in_all}
use Rattle.mark_core.specs.declared.kinds.Shape.{Shape}
use Rattle.mark_core.specs.declared.seat.SeatState.{SeatState}
use Rattle.gc_table.specs.Fetching.{is_in_range}
use Rattle.packet_pools.specs.Gains.{Gains, Seeks}
use Rattle.packet_pools.specs.StepBounds.{had_steps}

module _ (v w : View) (n : ℕ) where
  pub traced-reserve : Finds Reserve n v → w ≡ after Reserve n v → OnlyTraced v w
  traced-reserve f e = traced-to v w Reserve n e (traced-step v Reserve n refl refl refl (seen-found v Reserve n refl f) refl refl)

  pub traced-take : (q p : ℕ) → Finds (Take q p) n v → w ≡ after (Take q p) n v → OnlyTraced v w
  traced-take q p f e = traced-to v w (Take q p) n e (traced-step v (Take q p) n refl refl refl (seen-found v (Take q p) n refl f) refl refl)

  pub traced-give : (p : ℕ) (d : Bool) → Finds (Give p d) n v → w ≡ after (Give p d) n v → OnlyTraced v w
  traced-give p d f e = traced-to v w (Give p d) n e (traced-step v (Give p d) n refl refl refl (seen-found v (Give p d) n refl f) refl refl)

  pub traced-credit : Finds Credit n v → w ≡ after Credit n v → OnlyTraced v w
  traced-credit f e = traced-to v w Credit n e (traced-step v Credit n refl refl refl (seen-found v Credit n refl f) refl refl)

  pub traced-push : (p x : ℕ) → n ≡ written v.shape v.state (Push p x) 0 → may_push v.state x ≡ true → w ≡ after (Push p x) n v → OnlyTraced v w
  traced-push p x f may e = traced-to v w (Push p x) n e (traced-step v (Push p x) n refl refl refl (seen-stored v (Push p x) n refl f) refl may)

  pub traced-pop : (p : ℕ) → Finds (Pop p) n v → is_some v.state.popped ≡ false → w ≡ after (Pop p) n v → OnlyTraced v w
  traced-pop p f none e = traced-to v w (Pop p) n e (traced-step v (Pop p) n refl refl refl (seen-found v (Pop p) n refl f) refl (not_from_false _ none))

  pub traced-look : (q g : ℕ) → Finds (Look q g) n v → w ≡ after (Look q g) n v → OnlyTraced v w
  traced-look q g f e = traced-to v w (Look q g) n e (traced-step v (Look q g) n refl refl refl (seen-found v (Look q g) n refl f) refl refl)

  pub traced-read_count : Finds ReadCount n v → w ≡ after ReadCount n v → OnlyTraced v w
  traced-read_count f e = traced-to v w ReadCount n e (traced-step v ReadCount n refl refl refl (seen-found v ReadCount n refl f) refl refl)

  pub traced-store_length : (p : ℕ) → n ≡ written v.shape v.state (StoreLength p) 0 → w ≡ after (StoreLength p) n v → OnlyTraced v w
  traced-store_length p f e = traced-to v w (StoreLength p) n e (traced-step v (StoreLength p) n refl refl refl (seen-stored v (StoreLength p) n refl f) refl refl)

  pub traced-read_length : (p : ℕ) → Finds (ReadLength p) n v → w ≡ after (ReadLength p) n v → OnlyTraced v w
  traced-read_length p f e = traced-to v w (ReadLength p) n e (traced-step v (ReadLength p) n refl refl refl (seen-found v (ReadLength p) n refl f) refl refl)

-- the seat traces on
pub traces-on : {b : Bool} (v w : View) → OnlyTracedBy b v w → Traces v → w.state.reserved ≡ v.state.reserved → w.state.credit ≡ v.state.credit → Traces w
traces-on v w k t r c = record { may = traces-later v w k t.may; unreserved = r ∙ t.unreserved; uncredited = c ∙ t.uncredited }

-- the packet in hand has another length
pub held-again : (v w : View) (h : Held) (n : ℕ) (b : Bool) → HoldsPacket h v → w.shape ≡ v.shape → w.state.held ≡ set_length v.state.held h.packet (length_in_hand v.state.held h.packet + n) b → h.length + n ≤ v.shape.entries → HoldsPacket (record h { length = h.length + n }) w
held-again v w h n b k shape held fits =
    record {
      there = subst (λ sh. h.packet < sh) (ap (λ s. s.packets) (sym shape)) k.there;
      known = ap (λ hs. known_length hs h.packet) held ∙ (known-set v.state.held h.packet h.length (length_in_hand v.state.held h.packet + n) b k.known ∙ ap (λ m. Some (m + n)) (known-length v.state.held h.packet h.length k.known));
      fits = subst (λ m. h.length + n ≤ m) (ap (λ s. s.entries) (sym shape)) fits;
    }

pub held-less : (v w : View) (h : Held) (b : Bool) → HoldsPacket h v → w.shape ≡ v.shape → w.state.held ≡ set_length v.state.held h.packet (length_in_hand v.state.held h.packet - 1) b → HoldsPacket (record h { length = h.length - 1 }) w
held-less v w h b k shape held =
    record {
      there = subst (λ sh. h.packet < sh) (ap (λ s. s.packets) (sym shape)) k.there;
      known = ap (λ hs. known_length hs h.packet) held ∙ (known-set v.state.held h.packet h.length (length_in_hand v.state.held h.packet - 1) b k.known ∙ ap (λ m. Some (m - 1)) (known-length v.state.held h.packet h.length k.known));
      fits = subst (λ m. h.length - 1 ≤ m) (ap (λ s. s.entries) (sym shape)) (omega (arith, k.fits));
    }

-- What a search answered, whether it took a packet or not.
pub if-some : (o : Option Held) (P Q : Held → Type 0) → ((h : Held) → P h → Q h) → IfSome o P → IfSome o Q
if-some None P Q f k = k
if-some (Some h) P Q f k = f h k

pub if-none : (o : Option Held) (P Q : Type 0) → (P → Q) → IfNone o P → IfNone o Q
if-none None P Q f k = f k
if-none (Some h) P Q f k = k

-- the seat that looks in pool q is one that traces
pub seeks-from : (q : ℕ) (v w : View) → q < pools_in_all → eqb q empty_pool_number ≡ false → OnlyTraced v w → w.state ≡ v.state → Traces v → has_free_slot v.state.held ≡ true → Seeks q w
seeks-from q v w b nz l e t free =
    record {
      may = traces-later v w l t.may;
      pool = b;
      reserved = ap (λ (s : SeatState). s.reserved) e ∙ (t.unreserved ∙ sym nz);
      uncredited = ap (λ (s : SeatState). s.credit) e ∙ t.uncredited;
      free = ap (λ (s : SeatState). has_free_slot s.held) e ∙ free;
    }

pub traces-same : (v w : View) → OnlyTraced v w → w.state ≡ v.state → Traces v → Traces w
traces-same v w l e t = traces-on v w l t (ap (λ (s : SeatState). s.reserved) e) (ap (λ (s : SeatState). s.credit) e)

pub traces-gained : (q : ℕ) (not_full : Bool) (h : Held) (v w : View) → OnlyTraced v w → Gains q not_full h v w → traces v ≡ true → v.state.credit ≡ false → Traces w
traces-gained q not_full h v w l g t c = record { may = traces-later v w l t; unreserved = ap (λ (s : SeatState). s.reserved) g.state; uncredited = ap (λ (s : SeatState). s.credit) g.state ∙ c }

-- the seat traces on, whatever was answered
pub traces-either : (q : ℕ) (not_full : Bool) (X : Type 0) (o : Option Held) (v w : View) → OnlyTraced v w → Traces v → IfSome o (λ h. Gains q not_full h v w) → IfNone o ((w.state ≡ v.state) × X) → Traces w
traces-either q not_full X None v w l t some none = traces-same v w l none.0 t
traces-either q not_full X (Some h) v w l t some none = traces-gained q not_full h v w l some t.may t.uncredited

-- a packet that isn't empty
pub low-some : (sh : Shape) (n : ℕ) → is_in_range sh low_pool_number n ≡ true → 0 < n
low-some sh n e = ltb-true 0 n (and_parts (nat_lt 0 n) (nat_lt (2 * n) sh.entries) e).0

-- a packet that is more than half free
pub low-half : (sh : Shape) (n : ℕ) → is_in_range sh low_pool_number n ≡ true → 2 * n < sh.entries
low-half sh n e = ltb-true (2 * n) sh.entries (and_parts (nat_lt 0 n) (nat_lt (2 * n) sh.entries) e).1

-- two facts of a packet that was taken, and the steps of a search that found none
pub some-both : (o : Option Held) (P Q R : Held → Type 0) → ((h : Held) → P h → Q h → R h) → IfSome o P → IfSome o Q → IfSome o R
some-both None P Q R f p q = p
some-both (Some h) P Q R f p q = f h p q

pub none-had : (o : Option Held) (m n : ℕ) → m ≤ n + had_steps o → IfNone o (m ≤ n)
none-had None m n l = omega (arith, l)
none-had (Some h) m n l = tt
