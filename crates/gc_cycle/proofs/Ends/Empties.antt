-- Each cell that a seat pops while it is alone is one fewer entry of packets, and each that it pushes one more, by the lengths in hand and the noted heads.
use Rattle.std.proofs.Common.{ℕ, zero, suc, ◌≡◌, ◌≢◌, ◌+◌, ◌-◌, ◌<◌, ◌≤◌, ◌⊎◌, inl, inr, arith, refl, sym, ap, ◌∙◌, subst, Bool, true, false, cond, not, Option, None, Some, ⊎_elim, unwrap_or, is_some}
use Rattle.std.specs.Prelude.{◌==◌, ◌%◌}
use Rattle.std.specs.List.{sum_by, range_with_len}
use Rattle.std.proofs.lemmas.Bool.{and_parts, cases_Bool, cases_eq, false≢true, true≢false, ltb-true, ne_eqb}
use Rattle.mark_core.specs.Bits.{has_bit, reference_in}
use Rattle.mark_core.specs.Numbers.{reference_bound, word_bits}
use Rattle.mark_core.specs.Effects.{place, seat_after}
use Rattle.mark_core.specs.Held.{Slots, holds, is_stored, known_length, length_in_hand, put_packet, drop_packet, set_length}
use Rattle.mark_core.specs.Notes.{same_place}
use Rattle.mark_core.specs.Places.{head_at}
use Rattle.mark_core.specs.declared.kinds.Step.{Step}
use Rattle.mark_core.specs.declared.kinds.Step.TheVariants.{Reserve, Take, Give, Credit, Push, Pop, Look, ReadCount, ReadAlloc, ReadField, ReadRoot, SetMark, DirtyCard, ClearCard, ReadMarks, ReadCard, StoreLength, ReadLength, LoadSlot, NextOfCards, ReadStat}
use Rattle.mark_core.proofs.Known.{unheld-unknown}
use Rattle.mark_core.proofs.Pool.PoolSlots.{SameInHand, drop-other, holds-drop_same, holds-set_same, known-put_same, known-set_same, put-other, set-other, stored-set_same}
use Rattle.gc_table.specs.Notes.{look}
use Rattle.gc_table.specs.Running.{IsSeen}
use Rattle.gc_table.specs.Taking.{after, Finds}
use Rattle.gc_table.specs.declared.view.View.{View}
use Rattle.gc_table.proofs.Noticing.{alone-steady, found-noted, is_load, known-here, some-is}
use Rattle.packet_pools.specs.Counts.{pushes}
use Rattle.packet_pools.proofs.TracedSteps.{place-again}
use Rattle.gc_cycle.specs.LeftToDrain.{entries_left, noted_length, queue_left}
use Rattle.gc_cycle.specs.Lower.{traces_or_cleans}
use Rattle.gc_cycle.specs.Sorts.{pops}
use Rattle.gc_cycle.proofs.Ends.Funds.{Pays, sum-at, sum-grows, sum-most}
use Rattle.gc_cycle.proofs.Ends.Whitens.{IsLone, note-kept, stays-lone, was-allowed}

-- what the noted head of packet p says
abbrev head_says : View → ℕ → ℕ
head_says v p = noted_length (look (head_at p) v.known)

-- a packet in hand whose head holds its length has no longer one noted
abbrev pub Heads : View → Type 0
Heads v = (p n : ℕ) → known_length v.state.held p ≡ Some n → is_stored v.state.held p ≡ true → head_says v p ≤ n

pub noted-bound : (o : Option ℕ) → noted_length o ≤ reference_bound
noted-bound None = omega arith
noted-bound (Some n) = omega arith

noted-fewer : (o q : Option ℕ) → ((m : ℕ) → o ≡ Some m → q ≡ Some m) → noted_length q ≤ noted_length o
noted-fewer None q h = noted-bound q
noted-fewer (Some m) q h = let e = ap noted_length (h m refl) in omega (arith, e)

-- no head says more than before, if the step reads it or writes another word
says-less : (v : View) (step : Step) (n p : ℕ) → traces_or_cleans step ≡ true → IsSeen step n v → IsLone v → (same_place (place v.shape v.state step) (head_at p) ≡ false) ⊎ (is_load step ≡ true) → head_says (after step n v) p ≤ head_says v p
says-less v step n p t s a spared = noted-fewer (look (head_at p) v.known) (look (head_at p) (after step n v).known) (λ m h. note-kept v step n (head_at p) m t s a refl spared h)

or-fewer : (o : Option ℕ) (y z : ℕ) → y ≤ z → unwrap_or o y ≤ unwrap_or o z
or-fewer None y z l = l
or-fewer (Some n) y z l = omega arith

or-more : (o : Option ℕ) (z : ℕ) → unwrap_or o 0 ≤ unwrap_or o z
or-more None z = omega arith
or-more (Some n) z = omega arith

pub none-some : (n : ℕ) → None ≡ Some n → ⊥
none-some n e = cc

-- of packet p nothing in hand changed, and its head says no more
record IsSpared (v w : View) (p : ℕ) : Type 0 where
  known : known_length w.state.held p ≡ known_length v.state.held p
  stored : (n : ℕ) → known_length v.state.held p ≡ Some n → is_stored w.state.held p ≡ true → is_stored v.state.held p ≡ true
  says : head_says w p ≤ head_says v p

spared-most : (v w : View) (p : ℕ) → IsSpared v w p → entries_left w p ≤ entries_left v p
spared-most v w p i = let e = ap (λ o. unwrap_or o (head_says w p)) i.known in let l = or-fewer (known_length v.state.held p) (head_says w p) (head_says v p) i.says in omega (arith, e, l)

spared-heads : (v w : View) (p : ℕ) → IsSpared v w p → Heads v → (n : ℕ) → known_length w.state.held p ≡ Some n → is_stored w.state.held p ≡ true → head_says w p ≤ n
spared-heads v w p i h n k s = let is = sym i.known ∙ k in let most = h p n is (i.stored n is s) in omega (arith, most, i.says)

same-spared : (v w : View) (p : ℕ) → SameInHand v.state.held w.state.held p → head_says w p ≤ head_says v p → IsSpared v w p
same-spared v w p m l = record { known = m.known_same; stored = λ n k s. sym m.stored_same ∙ s; says = l }

-- all packets were spared
all-spared : (v : View) (step : Step) (n : ℕ) → traces_or_cleans step ≡ true → IsLone v × Heads v → ((p : ℕ) → IsSpared v (after step n v) p) → (IsLone (after step n v) × Heads (after step n v)) × (queue_left (after step n v) ≤ queue_left v)
all-spared v step n t i all =
    let w : View = after step n v in
    ((stays-lone v step n t i.0, λ p m k s. spared-heads v w p (all p) i.1 m k s), sum-most (entries_left v) (entries_left w) 0 v.shape.packets (λ p l h. spared-most v w p (all p)))

-- nothing in hand changed
plain : (v : View) (step : Step) (n : ℕ) → traces_or_cleans step ≡ true → IsSeen step n v → IsLone v × Heads v → (after step n v).state.held ≡ v.state.held → ((p : ℕ) → (same_place (place v.shape v.state step) (head_at p) ≡ false) ⊎ (is_load step ≡ true)) → (IsLone (after step n v) × Heads (after step n v)) × (queue_left (after step n v) ≤ queue_left v)
plain v step n t s i held spared =
    all-spared v step n t i (λ p.
    record {
      known = ap (λ hs. known_length hs p) held;
      stored = λ m k st. sym (ap (λ hs. is_stored hs p) held) ∙ st;
      says = says-less v step n p t s i.0 (spared p);
    })

heads-apart : (p x : ℕ) → x ≢ p → same_place (head_at p) (head_at x) ≡ false
heads-apart p x d = ne_eqb p x (λ e. d (sym e))

-- all packets but p were spared, and p keeps the rule of heads
record IsAbout (v w : View) (p : ℕ) : Type 0 where
  others : (x : ℕ) → x ≢ p → IsSpared v w x
  head : (n : ℕ) → known_length w.state.held p ≡ Some n → is_stored w.state.held p ≡ true → head_says w p ≤ n

about-heads : (v w : View) (p : ℕ) → IsAbout v w p → Heads v → Heads w
about-heads v w p o h = λ x n k s.
    ⊎_elim
    (λ (e : x ≡ p). subst (λ z. head_says w z ≤ n) (sym e) (o.head n (subst (λ z. known_length w.state.held z ≡ Some n) e k) (subst (λ z. is_stored w.state.held z ≡ true) e s)))
    (λ (d : x ≡ p → ⊥). spared-heads v w x (o.others x d) h n k s)
    (cases_eq x p)

about-most : (v w : View) (p : ℕ) → IsAbout v w p → entries_left w p ≤ entries_left v p → sum_by (entries_left w) (range_with_len 0 v.shape.packets) ≤ queue_left v
about-most v w p o h =
    sum-most (entries_left v) (entries_left w) 0 v.shape.packets
    (λ x l k. ⊎_elim (λ (e : x ≡ p). subst (λ z. entries_left w z ≤ entries_left v z) (sym e) h) (λ (d : x ≡ p → ⊥). spared-most v w x (o.others x d)) (cases_eq x p))

taken : (hs : Slots) (p x : ℕ) (b : Bool) → holds hs p ≡ false → (known_length (cond b (put_packet hs p) hs) x ≡ known_length hs x) × ((n : ℕ) → known_length hs x ≡ Some n → is_stored (cond b (put_packet hs p) hs) x ≡ true → is_stored hs x ≡ true)
taken hs p x false u = (refl, λ n k s. s)
taken hs p x true u =
    ⊎_elim
    (λ (e : x ≡ p).
    subst (λ z. (known_length (put_packet hs p) z ≡ known_length hs z) × ((n : ℕ) → known_length hs z ≡ Some n → is_stored (put_packet hs p) z ≡ true → is_stored hs z ≡ true)) (sym e)
    (known-put_same hs p u ∙ sym (unheld-unknown hs p u), λ n k s. absurd (none-some n (sym (unheld-unknown hs p u) ∙ k))))
    (λ (d : x ≡ p → ⊥). let m = put-other hs p x d in (m.known_same, λ n k s. sym m.stored_same ∙ s))
    (cases_eq x p)

not-true : (b : Bool) → not b ≡ true → b ≡ false
not-true true e = sym e
not-true false e = refl

says-found : (o : Option ℕ) (n : ℕ) → ((m : ℕ) → o ≡ Some m → n ≡ m) → reference_in n ≤ noted_length o
says-found None n h = noted-bound (Some n)
says-found (Some m) n h = let e = ap reference_in (h m refl) in omega (arith, e)

none-known : (o : Option ℕ) → is_some o ≡ false → o ≡ None
none-known None e = refl
none-known (Some n) e = absurd (true≢false e)

some-known : (o : Option ℕ) → is_some o ≡ true → o ≡ Some (unwrap_or o 0)
some-known None e = absurd (false≢true e)
some-known (Some n) e = refl

positive : (n : ℕ) → not (n == 0) ≡ true → 1 ≤ n
positive zero e = absurd (false≢true e)
positive (suc n) e = omega arith

module _ (v : View) (p n : ℕ) (i : IsLone v × Heads v) where
  hs : Slots
  hs = v.state.held

  len : ℕ
  len = length_in_hand hs p

  take-pays : (q : ℕ) → IsSeen (Take q p) n v → (IsLone (after (Take q p) n v) × Heads (after (Take q p) n v)) × (queue_left (after (Take q p) n v) ≤ queue_left v)
  unfolding hs
  take-pays q s =
      let u : holds hs p ≡ false = not-true (holds hs p) (was-allowed v (Take q p) n (s.found refl)).1.0 in
      all-spared v (Take q p) n refl i (λ x.
      let m = taken hs p x (has_bit n (p % word_bits)) u in
      record { known = m.0; stored = m.1; says = says-less v (Take q p) n x refl s i.0 (inl refl) })

  read-pays : IsSeen (ReadLength p) n v → (IsLone (after (ReadLength p) n v) × Heads (after (ReadLength p) n v)) × (queue_left (after (ReadLength p) n v) ≤ queue_left v)
  unfolding hs
  read-pays s =
      let w : View = after (ReadLength p) n v in
      let f : Finds (ReadLength p) n v = s.found refl in
      let a = was-allowed v (ReadLength p) n f in
      let there : holds hs p ≡ true = (and_parts _ _ a.0).1 in
      let unread : known_length hs p ≡ None = none-known (known_length hs p) (not-true (is_some (known_length hs p)) a.1.0) in
      let now : known_length w.state.held p ≡ Some (reference_in n) = known-set_same hs p (reference_in n) true there in
      let noted : look (head_at p) w.known ≡ Some n = (known-here v (ReadLength p) n (head_at p) (place-again (head_at p)) (alone-steady (seat_after v.shape v.state (ReadLength p) n) (head_at p) n refl (stays-lone v (ReadLength p) n refl i.0))).0 in
      let about : IsAbout v w p =
      record {
        others = λ x d. same-spared v w x (set-other hs p (reference_in n) true x d) (says-less v (ReadLength p) n x refl s i.0 (inr refl));
        head = λ k e t. let same = some-is (reference_in n) k (sym now ∙ e) in let says = ap noted_length noted in omega (arith, same, says);
      } in
      let before = ap (λ o. unwrap_or o (head_says v p)) unread in
      let here = ap (λ o. unwrap_or o (head_says w p)) now in
      let most = says-found (look (head_at p) v.known) n (λ m h. found-noted v (ReadLength p) n m (head_at p) f (place-again (head_at p)) h) in
      ((stays-lone v (ReadLength p) n refl i.0, about-heads v w p about i.1), about-most v w p about (omega (arith, before, here, most)))

  -- a length that is set is that of a packet in hand
  set-by : (m : ℕ) (b : Bool) → (known_length (set_length hs p m b) p ≡ Some m) ⊎ ((known_length (set_length hs p m b) p ≡ None) × (known_length hs p ≡ None))
  set-by m b =
      ⊎_elim
      (λ (h : holds hs p ≡ true). inl (known-set_same hs p m b h))
      (λ (h : holds hs p ≡ false). inr (unheld-unknown (set_length hs p m b) p (holds-set_same hs p m b ∙ h), unheld-unknown hs p h))
      (cases_Bool (holds hs p))

  store-pays : IsSeen (StoreLength p) n v → (IsLone (after (StoreLength p) n v) × Heads (after (StoreLength p) n v)) × (queue_left (after (StoreLength p) n v) ≤ queue_left v)
  unfolding len hs
  store-pays s =
      let w : View = after (StoreLength p) n v in
      let noted : look (head_at p) w.known ≡ Some len = (known-here v (StoreLength p) n (head_at p) (place-again (head_at p)) (alone-steady (seat_after v.shape v.state (StoreLength p) n) (head_at p) len refl (stays-lone v (StoreLength p) n refl i.0))).0 in
      let says : head_says w p ≡ reference_in len = ap noted_length noted in
      let most = or-more (known_length hs p) (head_says v p) in
      let about : IsAbout v w p =
      record {
        others = λ x d. same-spared v w x (set-other hs p len true x d) (says-less v (StoreLength p) n x refl s i.0 (inl (heads-apart p x d)));
        head = λ k e t.
            ⊎_elim
            (λ (now : known_length w.state.held p ≡ Some len). let same = some-is len k (sym now ∙ e) in omega (arith, same, says))
            (λ now. absurd (none-some k (sym now.0 ∙ e)))
            (set-by len true);
      } in
      let here : entries_left w p ≤ len =
      ⊎_elim
      (λ (now : known_length w.state.held p ≡ Some len). let e = ap (λ o. unwrap_or o (head_says w p)) now in omega (arith, e))
      (λ (now : (known_length w.state.held p ≡ None) × (known_length hs p ≡ None)). let e = ap (λ o. unwrap_or o (head_says w p)) now.0 in omega (arith, e, says))
      (set-by len true) in
      ((stays-lone v (StoreLength p) n refl i.0, about-heads v w p about i.1), about-most v w p about (omega (arith, here, most)))

  give-pays : (d : Bool) → IsSeen (Give p d) n v → (IsLone (after (Give p d) n v) × Heads (after (Give p d) n v)) × (queue_left (after (Give p d) n v) ≤ queue_left v)
  unfolding len hs
  give-pays d s =
      let w : View = after (Give p d) n v in
      let a = was-allowed v (Give p d) n (s.found refl) in
      let known : known_length hs p ≡ Some len = some-known (known_length hs p) (and_parts _ _ a.1.0).0 in
      let gone : known_length w.state.held p ≡ None = unheld-unknown (drop_packet hs p) p (holds-drop_same hs p) in
      let less = says-less v (Give p d) n p refl s i.0 (inl refl) in
      let most = i.1 p len known a.1.1.1.1.0 in
      let about : IsAbout v w p =
      record {
        others = λ x f. same-spared v w x (drop-other hs p x f) (says-less v (Give p d) n x refl s i.0 (inl refl));
        head = λ k e t. absurd (none-some k (sym gone ∙ e));
      } in
      let before = ap (λ o. unwrap_or o (head_says v p)) known in
      let here = ap (λ o. unwrap_or o (head_says w p)) gone in
      ((stays-lone v (Give p d) n refl i.0, about-heads v w p about i.1), about-most v w p about (omega (arith, before, here, less, most)))

  push-pays : (c : ℕ) → IsSeen (Push p c) n v → (IsLone (after (Push p c) n v) × Heads (after (Push p c) n v)) × (queue_left (after (Push p c) n v) ≤ queue_left v + 1)
  unfolding hs len
  push-pays c s =
      let w : View = after (Push p c) n v in
      let less = says-less v (Push p c) n p refl s i.0 (inl refl) in
      let more = or-more (known_length hs p) (head_says v p) in
      let about : IsAbout v w p =
      record {
        others = λ x f. same-spared v w x (set-other hs p (len + 1) false x f) (says-less v (Push p c) n x refl s i.0 (inl refl));
        head = λ k e t. absurd (false≢true (stored-set_same hs p (len + 1) false t));
      } in
      let here : entries_left w p ≤ entries_left v p + 1 =
      ⊎_elim
      (λ (now : known_length w.state.held p ≡ Some (len + 1)). let e = ap (λ o. unwrap_or o (head_says w p)) now in omega (arith, e, more))
      (λ (now : (known_length w.state.held p ≡ None) × (known_length hs p ≡ None)).
      let e = ap (λ o. unwrap_or o (head_says w p)) now.0 in let b = ap (λ o. unwrap_or o (head_says v p)) now.1 in omega (arith, e, b, less))
      (set-by (len + 1) false) in
      ((stays-lone v (Push p c) n refl i.0, about-heads v w p about i.1), sum-grows (entries_left v) (entries_left w) p 0 v.shape.packets here (λ x d. spared-most v w x (about.others x d)))

  pop-pays : IsSeen (Pop p) n v → (IsLone (after (Pop p) n v) × Heads (after (Pop p) n v)) × (1 + queue_left (after (Pop p) n v) ≤ queue_left v)
  unfolding len hs
  pop-pays s =
      let w : View = after (Pop p) n v in
      let a = was-allowed v (Pop p) n (s.found refl) in
      let first = and_parts _ _ a.0 in
      let below : p < v.shape.packets = ltb-true p v.shape.packets first.0 in
      let some = positive len a.1.0 in
      let more = or-more (known_length hs p) (head_says v p) in
      let now : known_length w.state.held p ≡ Some (len - 1) = known-set_same hs p (len - 1) false first.1 in
      let about : IsAbout v w p =
      record {
        others = λ x f. same-spared v w x (set-other hs p (len - 1) false x f) (says-less v (Pop p) n x refl s i.0 (inl refl));
        head = λ k e t. absurd (false≢true (stored-set_same hs p (len - 1) false t));
      } in
      let e = ap (λ o. unwrap_or o (head_says w p)) now in
      let all = sum-at (entries_left v) (entries_left w) p 1 0 0 v.shape.packets (omega arith) (omega (arith, below)) (omega (arith, e, some, more)) (λ x d. spared-most v w x (about.others x d)) in
      ((stays-lone v (Pop p) n refl i.0, about-heads v w p about i.1), omega (arith, all))

-- a cell that is popped is one fewer, and one that is pushed may be one more
pub queue-pays : Pays queue_left pops pushes (λ v. IsLone v × Heads v)
queue-pays v (Take q p) n t s i = let r = take-pays v p n i q s in (r.0, omega (arith, r.1))
queue-pays v (ReadLength p) n t s i = let r = read-pays v p n i s in (r.0, omega (arith, r.1))
queue-pays v (StoreLength p) n t s i = let r = store-pays v p n i s in (r.0, omega (arith, r.1))
queue-pays v (Give p d) n t s i = let r = give-pays v p n i d s in (r.0, omega (arith, r.1))
queue-pays v (Push p c) n t s i = let r = push-pays v p n i c s in (r.0, omega (arith, r.1))
queue-pays v (Pop p) n t s i = let r = pop-pays v p n i s in (r.0, omega (arith, r.1))
queue-pays v Reserve n t s i = let r = plain v Reserve n t s i refl (λ p. inl refl) in (r.0, omega (arith, r.1))
queue-pays v Credit n t s i = let r = plain v Credit n t s i refl (λ p. inl refl) in (r.0, omega (arith, r.1))
queue-pays v (Look q g) n t s i = let r = plain v (Look q g) n t s i refl (λ p. inl refl) in (r.0, omega (arith, r.1))
queue-pays v ReadCount n t s i = let r = plain v ReadCount n t s i refl (λ p. inl refl) in (r.0, omega (arith, r.1))
queue-pays v (ReadAlloc b) n t s i = let r = plain v (ReadAlloc b) n t s i refl (λ p. inl refl) in (r.0, omega (arith, r.1))
queue-pays v (ReadField c k) n t s i = let r = plain v (ReadField c k) n t s i refl (λ p. inl refl) in (r.0, omega (arith, r.1))
queue-pays v (ReadRoot w k) n t s i = let r = plain v (ReadRoot w k) n t s i refl (λ p. inl refl) in (r.0, omega (arith, r.1))
queue-pays v (LoadSlot w k) n t s i = let r = plain v (LoadSlot w k) n t s i refl (λ p. inl refl) in (r.0, omega (arith, r.1))
queue-pays v (SetMark c) n t s i = let r = plain v (SetMark c) n t s i refl (λ p. inl refl) in (r.0, omega (arith, r.1))
queue-pays v (DirtyCard k) n t s i = let r = plain v (DirtyCard k) n t s i refl (λ p. inl refl) in (r.0, omega (arith, r.1))
queue-pays v (ClearCard k) n t s i = let r = plain v (ClearCard k) n t s i refl (λ p. inl refl) in (r.0, omega (arith, r.1))
queue-pays v (ReadMarks b) n t s i = let r = plain v (ReadMarks b) n t s i refl (λ p. inl refl) in (r.0, omega (arith, r.1))
queue-pays v (ReadCard k) n t s i = let r = plain v (ReadCard k) n t s i refl (λ p. inl refl) in (r.0, omega (arith, r.1))
queue-pays v NextOfCards n t s i = let r = plain v NextOfCards n t s i refl (λ p. inl refl) in (r.0, omega (arith, r.1))
queue-pays v (ReadStat which) n t s i = let r = plain v (ReadStat which) n t s i refl (λ p. inr refl) in (r.0, omega (arith, r.1))
queue-pays v step n t s i = absurd (false≢true t)
