-- A packet that a seat took is as long as its pool says, until the seat has read its length.
use Rattle.std.proofs.Common.{ℕ, ◌≡◌, ◌≢◌, ◌<◌, ◌%◌, zero, suc, List, [], ◌∷◌, ◌++◌, length, arith, refl, sym, ap, ◌∙◌, subst, inl, inr, ◌⊎◌, Bool, true, false, ◌&&◌, Some, None, Option, cond, eqb, eq-eqb, get_or}
use Rattle.std.specs.Prelude.{slice_get, slice_index, is_some}
use Rattle.std.proofs.lemmas.Bool.{cases_eq, true≢false, and_parts, and_from, ne_eqb, lt-ltb, le-leb, ltb-true, not-true}
use Rattle.std.proofs.lemmas.List.{get_or-map, length-map}
use Rattle.std.proofs.lemmas.Option.{slice_get_within, get_or_from_slice_get}
use Rattle.mark_core.specs.Layout.{words_of}
use Rattle.mark_core.specs.Bits.{has_bit}
use Rattle.mark_core.specs.Cells.{in_pool, or_else}
use Rattle.mark_core.specs.Held.{Slots, holds, has_length, put_packet, drop_packet, set_length, has_free_slot}
use Rattle.mark_core.specs.Parts.{parts}
use Rattle.mark_core.specs.Places.{head_at}
use Rattle.mark_core.specs.Effects.{place, seat_after}
use Rattle.mark_core.specs.Notes.{same_place}
use Rattle.mark_core.specs.Views.{hands}
use Rattle.mark_core.specs.Steps.{Core, AllTrue}
use Rattle.mark_core.specs.Laws.{IsCore}
use Rattle.mark_core.specs.declared.kinds.Shape.{Shape}
use Rattle.mark_core.specs.declared.kinds.Step.{Step}
use Rattle.mark_core.specs.declared.kinds.Step.TheVariants.{Take, Give, Push, Pop, StoreLength, ReadLength, StoreNew, Reset, AddStat, ReadStat}
use Rattle.mark_core.specs.declared.seat.SeatState.{SeatState}
use Rattle.mark_core.proofs.Pool.PoolSlots.{SameInHand, put-other, drop-other, set-other, holds-put_same, holds-drop_same, holds-set_same, known-set_same}
use Rattle.mark_core.proofs.Pool.PoolPlaces.{only-holder}
use Rattle.mark_core.proofs.Writing.RegionWrites.{touches_heads}
use Rattle.mark_core.proofs.Writing.Writes.{at_part, at_counter}
use Rattle.gc_table.specs.declared.view.Entry.{Entry}
use Rattle.gc_table.specs.Fetching.{taken_out, last_pool, is_in_range}

-- what stands in a pool is in its range
pub range-of : (c : Core) → IsCore c → (q p : ℕ) → q < 4 → p < c.shape.packets → in_pool c.shape (words_of c.shape c.words).pools q p ≡ true → is_in_range c.shape q (slice_index (words_of c.shape c.words).heads p) ≡ true
range-of c k zero p b h e = eq-eqb _ 0 (k.sound.pools.empty_pool p h e)
range-of c k (suc zero) p b h e = let r = k.sound.pools.low_pool p h e in and_from _ _ (lt-ltb _ _ r.0) (lt-ltb _ _ r.1)
range-of c k (suc (suc zero)) p b h e = let r = k.sound.pools.high_pool p h e in and_from _ _ (le-leb _ _ r.0) (le-leb _ _ r.1)
range-of c k (suc (suc (suc zero))) p b h e = let r = k.sound.pools.deferred_pool p h e in and_from _ _ (lt-ltb _ _ r.0) (le-leb _ _ r.1)
range-of c k (suc (suc (suc (suc q)))) p b h e = absurd (omega (arith, b))

-- the last event counts
pub last-snoc : (p : ℕ) (es : List Entry) (e : Entry) → last_pool p (es ++ e ∷ []) ≡ or_else (taken_out p e.step e.found) (last_pool p es)
last-snoc p [] e = last (taken_out p e.step e.found)
  where
    last : (o : Option ℕ) → or_else None o ≡ or_else o None
    last None = refl
    last (Some n) = refl
last-snoc p (x ∷ es) e = ap (λ o. or_else o (taken_out p x.step x.found)) (last-snoc p es e) ∙ turn (taken_out p e.step e.found) (last_pool p es) (taken_out p x.step x.found)
  where
    turn : (a b o : Option ℕ) → or_else (or_else a b) o ≡ or_else a (or_else b o)
    turn None b o = refl
    turn (Some n) b o = refl

abbrev stores_head : Step → Bool
stores_head (StoreLength r) = true
stores_head step = false

not-stores : (step : Step) (p : ℕ) → stores_head step ≡ false → step ≡ StoreLength p → ⊥
not-stores step p e z = true≢false (sym (ap stores_head z) ∙ e)

-- the step took packet p
pub record Took (s : SeatState) (step : Step) (n p : ℕ) : Type 0 where
  pub pool : ℕ
  pub is : step ≡ Take pool p
  pub bit : has_bit n (p % 64) ≡ true

-- the step took packet p, or the seat held it before, with a length that it hadn't read
pub record Kept (s : SeatState) (step : Step) (n p : ℕ) : Type 0 where
  pub none : taken_out p step n ≡ None
  pub held : holds s.held p ≡ true
  pub unread : has_length s.held p ≡ false
  pub unstored : step ≡ StoreLength p → ⊥

taken-other : (q r p n : ℕ) → p ≢ r → taken_out p (Take q r) n ≡ None
taken-other q r p n d = ap (λ (b : Bool). cond (b && has_bit n (p % 64)) (Some q) None) (ne_eqb r p (λ e. d (sym e)))

still : (s : SeatState) (step : Step) (n p : ℕ) (hs : Slots) → SameInHand s.held hs p → taken_out p step n ≡ None → (step ≡ StoreLength p → ⊥) → holds hs p ≡ true → has_length hs p ≡ false → Kept s step n p
still s step n p hs same none far h u =
    record { none = none; held = sym same.holds_same ∙ h; unread = ap (λ o. is_some o) (sym same.known_same) ∙ u; unstored = far }

measured : (hs : Slots) (r n p : ℕ) (b : Bool) → p ≡ r → holds (set_length hs r n b) p ≡ true → has_length (set_length hs r n b) p ≡ false → ⊥
measured hs r n p b e h u =
    let held : holds hs r ≡ true = sym (holds-set_same hs r n b) ∙ (ap (holds (set_length hs r n b)) (sym e) ∙ h) in
    true≢false (sym (ap (λ o. is_some o) (known-set_same hs r n b held)) ∙ (ap (has_length (set_length hs r n b)) (sym e) ∙ u))

after-set : (s : SeatState) (step : Step) (found r n p : ℕ) (b : Bool) → taken_out p step found ≡ None → (step ≡ StoreLength p → p ≡ r) → holds (set_length s.held r n b) p ≡ true → has_length (set_length s.held r n b) p ≡ false → Kept s step found p
after-set s step found r n p b none far h u =
    let apart : p ≢ r = λ e. measured s.held r n p b e h u in
    still s step found p (set_length s.held r n b) (set-other s.held r n b p apart) none (λ e. apart (far e)) h u

same-packet : (r p : ℕ) → StoreLength r ≡ StoreLength p → p ≡ r
same-packet r p z = cc

-- each packet in hand whose length wasn't read was taken by the step, or held before with an unread length
pub fetched-record : (sh : Shape) (s : SeatState) (step : Step) (n p : ℕ) → holds (seat_after sh s step n).held p ≡ true → has_length (seat_after sh s step n).held p ≡ false → Took s step n p ⊎ Kept s step n p
fetched-record sh s (Take q r) n p h u = by_packet (cases_eq p r)
  where
    here : p ≡ r → (b : Bool) → has_bit n (r % 64) ≡ b → holds (cond b (put_packet s.held r) s.held) p ≡ true → has_length (cond b (put_packet s.held r) s.held) p ≡ false → Took s (Take q r) n p ⊎ Kept s (Take q r) n p
    here e true is h u = inl (record { pool = q; is = ap (Take q) (sym e); bit = ap (λ x. has_bit n (x % 64)) e ∙ is })
    here e false is h u = inr (record { none = ap (λ (b : Bool). cond (eqb r p && b) (Some q) None) (ap (λ x. has_bit n (x % 64)) e ∙ is) ∙ nothing (eqb r p); held = h; unread = u; unstored = not-stores (Take q r) p refl })
      where
        nothing : (b : Bool) → cond (b && false) (Some q) None ≡ None
        nothing true = refl
        nothing false = refl

    there : p ≢ r → (b : Bool) → holds (cond b (put_packet s.held r) s.held) p ≡ true → has_length (cond b (put_packet s.held r) s.held) p ≡ false → Kept s (Take q r) n p
    there d true h u = still s (Take q r) n p (put_packet s.held r) (put-other s.held r p d) (taken-other q r p n d) (not-stores (Take q r) p refl) h u
    there d false h u = record { none = taken-other q r p n d; held = h; unread = u; unstored = not-stores (Take q r) p refl }

    by_packet : (p ≡ r) ⊎ (p ≢ r) → Took s (Take q r) n p ⊎ Kept s (Take q r) n p
    by_packet (inl e) = here e (has_bit n (r % 64)) refl h u
    by_packet (inr d) = inr (there d (has_bit n (r % 64)) h u)
fetched-record sh s (Give r d) n p h u =
    let apart : p ≢ r = λ e. true≢false (sym h ∙ (ap (holds (drop_packet s.held r)) e ∙ holds-drop_same s.held r)) in
    inr (still s (Give r d) n p (drop_packet s.held r) (drop-other s.held r p apart) refl (not-stores (Give r d) p refl) h u)
fetched-record sh s (Push r c) n p h u = inr (after-set s (Push r c) n r _ p false refl (λ z. absurd (not-stores (Push r c) p refl z)) h u)
fetched-record sh s (Pop r) n p h u = inr (after-set s (Pop r) n r _ p false refl (λ z. absurd (not-stores (Pop r) p refl z)) h u)
fetched-record sh s (StoreLength r) n p h u = inr (after-set s (StoreLength r) n r _ p true refl (λ z. same-packet r p z) h u)
fetched-record sh s (ReadLength r) n p h u = inr (after-set s (ReadLength r) n r _ p true refl (λ z. absurd (not-stores (ReadLength r) p refl z)) h u)
fetched-record sh s step n p h u = inr (record { none = refl; held = h; unread = u; unstored = not-stores step p refl })

-- a step that doesn't touch heads has another place
pub not-head : (sh : Shape) (s : SeatState) (step : Step) (p : ℕ) → touches_heads step ≡ false → same_place (place sh s step) (head_at p) ≡ false
not-head sh s (StoreLength r) p e = absurd (true≢false e)
not-head sh s (ReadLength r) p e = absurd (true≢false e)
not-head sh s (StoreNew c part word) p e = at_part (λ at. same_place at (head_at p) ≡ false) sh c part (λ i. refl) (λ i. refl) (λ i. refl)
not-head sh s (Reset which) p e = at_counter (λ at. same_place at (head_at p) ≡ false) which (λ i h. refl) (λ i. refl)
not-head sh s (AddStat which by down) p e = at_counter (λ at. same_place at (head_at p) ≡ false) which (λ i h. refl) (λ i. refl)
not-head sh s (ReadStat which) p e = at_counter (λ at. same_place at (head_at p) ≡ false) which (λ i h. refl) (λ i. refl)
not-head sh s step p e = refl

-- how a step may touch a head
pub heads-of : (step : Step) → (touches_heads step ≡ false) ⊎ (((r : ℕ) × (step ≡ StoreLength r)) ⊎ ((r : ℕ) × (step ≡ ReadLength r)))
heads-of (StoreLength r) = inr (inl (r, refl))
heads-of (ReadLength r) = inr (inr (r, refl))
heads-of step = inl refl

-- the bit that a take found follows from what became of the record
pub taken-told : (sh : Shape) (s : SeatState) (step : Step) (m n p : ℕ) → ((q r : ℕ) → step ≡ Take q r → (holds s.held r ≡ false) × (has_free_slot s.held ≡ true)) → seat_after sh s step m ≡ seat_after sh s step n → taken_out p step m ≡ taken_out p step n
taken-told sh s (Take q r) m n p ok e = by_packet (cases_eq r p)
  where
    bit-told : (b : Bool) → holds (cond b (put_packet s.held r) s.held) r ≡ b
    bit-told true = holds-put_same s.held r (ok q r refl).1
    bit-told false = (ok q r refl).0

    same : has_bit m (r % 64) ≡ has_bit n (r % 64)
    same = sym (bit-told (has_bit m (r % 64))) ∙ (ap (λ (t : SeatState). holds t.held r) e ∙ bit-told (has_bit n (r % 64)))

    by_packet : (r ≡ p) ⊎ (r ≢ p) → taken_out p (Take q r) m ≡ taken_out p (Take q r) n
    by_packet (inl is) = ap (λ (b : Bool). cond (eqb r p && b) (Some q) None) (subst (λ x. has_bit m (x % 64) ≡ has_bit n (x % 64)) is same)
    by_packet (inr d) = taken-other q r p m (λ z. d (sym z)) ∙ sym (taken-other q r p n (λ z. d (sym z)))
taken-told sh s step m n p ok e = refl

-- what a take asks of the slots
pub take-asks : (c : Core) (s : SeatState) (step : Step) → AllTrue (parts c.shape (words_of c.shape c.words) c.seats s step) → (q r : ℕ) → step ≡ Take q r → (holds s.held r ≡ false) × (has_free_slot s.held ≡ true)
take-asks c s step ok q r e =
    let k : AllTrue (parts c.shape (words_of c.shape c.words) c.seats s (Take q r)) = subst (λ x. AllTrue (parts c.shape (words_of c.shape c.words) c.seats s x)) e ok in
    (not-true _ k.1.0, k.1.1.1.0)

-- what a take asks of the pool
pub take-pool : (c : Core) (s : SeatState) (step : Step) → AllTrue (parts c.shape (words_of c.shape c.words) c.seats s step) → (q r : ℕ) → step ≡ Take q r → q < 4
take-pool c s step ok q r e =
    let k : AllTrue (parts c.shape (words_of c.shape c.words) c.seats s (Take q r)) = subst (λ x. AllTrue (parts c.shape (words_of c.shape c.words) c.seats s x)) e ok in
    ltb-true q 4 (and_parts _ _ (and_parts _ _ k.0).0).0

pub take-stores : (q r : ℕ) → Take q r ≡ StoreLength r → ⊥
take-stores q r e = not-stores (Take q r) r refl e

-- who stores a length holds the packet
pub store-asks : (c : Core) (s : SeatState) (step : Step) → AllTrue (parts c.shape (words_of c.shape c.words) c.seats s step) → (r : ℕ) → step ≡ StoreLength r → holds s.held r ≡ true
store-asks c s step ok r e =
    let k : AllTrue (parts c.shape (words_of c.shape c.words) c.seats s (StoreLength r)) = subst (λ x. AllTrue (parts c.shape (words_of c.shape c.words) c.seats s x)) e ok in
    (and_parts _ _ k.0).1

-- a packet in the hand of one seat is in no other hand
pub one-hand : (c : Core) → IsCore c → (i j p : ℕ) (s t : SeatState) → slice_get c.seats i ≡ Some s → slice_get c.seats j ≡ Some t → p < c.shape.packets → holds s.held p ≡ true → holds t.held p ≡ true → i ≡ j
one-hand c k i j p s t hi hj there a b =
    let li = slice_get_within c.seats i s hi in
    let lj = slice_get_within c.seats j t hj in
    let long : (x : ℕ) → x < length c.seats → x < length (hands c.seats) = λ x h. rw length-map h in
    let at : (x : ℕ) (u : SeatState) → slice_get c.seats x ≡ Some u → x < length c.seats → get_or (hands c.seats) x s.held ≡ u.held = λ x u e l. get_or-map (λ (y : SeatState). y.held) c.seats x s s.held l ∙ ap (λ (y : SeatState). y.held) (get_or_from_slice_get c.seats x u s e) in
    only-holder (hands c.seats) i j p s.held (long i li) (long j lj) (omega (arith, k.sound.pools.one_place p there)) (rw (at i s hi li) a) (rw (at j t hj lj) b)
