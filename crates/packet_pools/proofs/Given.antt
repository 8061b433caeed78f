-- A seat that stores a packet's length, gives the packet back and counts it.
use Rattle.std.proofs.Common.{ℕ, ◌≡◌, ◌<◌, [], ◌∷◌, refl, sym, ap, ◌∙◌, subst, Bool, true, false, not, Some, eqb}
use Rattle.std.proofs.lemmas.Bool.{not_from_true}
use Rattle.mark_core.specs.Held.{holds_any, holds_another, has_entry, is_stored, length_in_hand, known_length, drop_packet, set_length}
use Rattle.mark_core.specs.declared.seat.SeatState.{SeatState}
use Rattle.mark_core.specs.declared.kinds.Step.TheVariants.{Credit, Give, StoreLength}
use Rattle.gc_table.specs.declared.view.View.{View}
use Rattle.gc_table.specs.Seats.{Found, Stored}
use Rattle.mark_core.specs.Steps.PacketSteps.{pool_for}
use Rattle.mark_core.specs.declared.kinds.Shape.{Shape}
use Rattle.packet_pools.specs.OnlyTraced.{OnlyTraced}
use Rattle.packet_pools.specs.Outside.{KeepsOutside}
use Rattle.packet_pools.proofs.Outside.{keeps-join, keeps-store_length, keeps-give, keeps-credit}
use Rattle.packet_pools.specs.Tracing.{Traces}
use Rattle.packet_pools.proofs.TracedSteps.{traced-join}
use Rattle.packet_pools.proofs.Doing.{traced-store_length, traced-give, traced-credit, traces-on}
use Rattle.packet_pools.proofs.Exchanged.{drop-set, known-entry, known-held, known-length, known-set, stored-set}

module _ (s : SeatState) (p n : ℕ) (k : known_length s.held p ≡ Some n) where
  -- its length is in the head
  abbrev pub stored : SeatState
  stored = record s { held = set_length s.held p (length_in_hand s.held p) true }

  -- the packet is back in a pool
  abbrev pub returned : SeatState
  returned = record stored { held = drop_packet stored.held p; credit = not (has_entry stored.held p) }

  pub stored-known : known_length stored.held p ≡ Some n
  stored-known = known-set s.held p n (length_in_hand s.held p) true k ∙ ap Some (known-length s.held p n k)

  pub stored-head : is_stored stored.held p ≡ true
  stored-head = stored-set s.held p (length_in_hand s.held p) (known-held s.held p n k)

  pub stored-another : holds_another stored.held p ≡ holds_another s.held p
  stored-another = ap holds_any (drop-set s.held p (length_in_hand s.held p) true)

  pub returned-empty : n ≡ 0 → returned.credit ≡ true
  returned-empty e = ap (λ m. not (not (eqb m 0))) (known-length stored.held p n stored-known ∙ e)

  pub returned-full : 0 < n → returned.credit ≡ false
  returned-full l = not_from_true _ (known-entry stored.held p n stored-known l)

  -- all else is as it was
  pub given-full : 0 < n → s.credit ≡ false → returned ≡ record s { held = drop_packet s.held p }
  given-full l c = λ i. record s { held = drop-set s.held p (length_in_hand s.held p) true i; credit = (returned-full l ∙ sym c) i }

  pub given-empty : s.credit ≡ false → s.reserved ≡ false → record returned { credit = false; reserved = false } ≡ record s { held = drop_packet s.held p }
  given-empty c r = λ i. record s { held = drop-set s.held p (length_in_hand s.held p) true i; credit = sym c i; reserved = sym r i }

-- the seat with view v stored the length of packet p, which has n entries, and gave it back: its view is x then
module _ {v w x : View} {p n m : ℕ} {d : Bool} (t : Traces v) (k : known_length v.state.held p ≡ Some n) (a : Stored (StoreLength p) v w) (b : Found (Give p d) m w x) where
  pub gave-state : x.state ≡ returned v.state p n k
  gave-state =
      let w_is : w.state ≡ stored v.state p n k = ap (λ (z : View). z.state) a in
      ap (λ (z : View). z.state) b.0 ∙ ap (λ (s : SeatState). record s { held = drop_packet s.held p; credit = not (has_entry s.held p) }) w_is

  pub gave-later : OnlyTraced v x
  gave-later = traced-join v w x (traced-store_length v w _ p refl a) (traced-give w x m p d b.1 b.0)

  -- a packet with entries needs no more
  pub gave-full : 0 < n → x.state ≡ record v.state { held = drop_packet v.state.held p }
  gave-full some = gave-state ∙ given-full v.state p n k some t.uncredited

  pub gave-traces : 0 < n → Traces x
  gave-traces some = let e = gave-full some in traces-on v x gave-later t (ap (λ (s : SeatState). s.reserved) e) (ap (λ (s : SeatState). s.credit) e)

  -- what was noted of other pools stays
  pub gave-outside : p < v.shape.packets → KeepsOutside (pool_for v.shape n d ∷ []) v x
  gave-outside low =
      let shape : w.shape ≡ v.shape = ap (λ (z : View). z.shape) a in
      let held = ap (λ (z : View). length_in_hand z.state.held p) a in
      let long : length_in_hand w.state.held p ≡ n = held ∙ known-length (stored v.state p n k).held p n (stored-known v.state p n k) in
      let to : pool_for w.shape (length_in_hand w.state.held p) d ≡ pool_for v.shape n d = λ i. pool_for (shape i) (long i) d in
      keeps-join (pool_for v.shape n d ∷ []) v w x shape (ap (λ (z : View). z.state.alone) a) (keeps-store_length v w _ (pool_for v.shape n d ∷ []) p refl a)
      (keeps-give w x m (pool_for v.shape n d) p d (subst (λ (sh : Shape). p < sh.packets) (sym shape) low) to b.1 b.0)

-- an empty one is counted then
module _ {v w x y : View} {p n m j : ℕ} {d : Bool} (t : Traces v) (k : known_length v.state.held p ≡ Some n) (a : Stored (StoreLength p) v w) (b : Found (Give p d) m w x) (e : Found Credit j x y) where
  pub counted-state : y.state ≡ record v.state { held = drop_packet v.state.held p }
  counted-state = ap (λ (z : View). z.state) e.0 ∙ (ap (λ (s : SeatState). record s { credit = false; reserved = false }) (gave-state t k a b) ∙ given-empty v.state p n k t.uncredited t.unreserved)

  pub counted-later : OnlyTraced v y
  counted-later = traced-join v x y (gave-later t k a b) (traced-credit x y j e.1 e.0)

  pub counted-outside : p < v.shape.packets → KeepsOutside (pool_for v.shape n d ∷ []) v y
  counted-outside low =
      let later = gave-later t k a b in
      keeps-join (pool_for v.shape n d ∷ []) v x y later.shape (ap (λ (s : SeatState). s.alone) later.rest) (gave-outside t k a b low) (keeps-credit x y j (pool_for v.shape n d ∷ []) e.1 e.0)

  pub counted-traces : Traces y
  counted-traces = traces-on v y counted-later t (ap (λ (z : View). z.state.reserved) e.0 ∙ sym t.unreserved) (ap (λ (z : View). z.state.credit) e.0 ∙ sym t.uncredited)
