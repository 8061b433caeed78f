-- A packet that was taken, and whose length was read: kept, or given back because it is full.
use Rattle.std.proofs.Common.{ℕ, ◌≡◌, ◌<◌, ◌≤◌, ◌+◌, ◌%◌, [], ◌∷◌, ◌++◌, arith, refl, sym, ap, ◌∙◌, subst, ⊎_elim, Bool, true, false, cond, eq-eqb}
use Rattle.std.specs.Prelude.{IsTrue, ◌==◌}
use Rattle.std.proofs.lemmas.Bool.{true≢false, false≢true, and_from, or_left, or_right, or_cases, le-leb}
use Rattle.mark_core.specs.Bits.{has_bit, reference_in}
use Rattle.mark_core.specs.Held.{holds, holds_any, holds_another, has_length, known_length, put_packet, drop_packet, set_length}
use Rattle.mark_core.specs.Numbers.{high_pool_number, word_bits}
use Rattle.mark_core.specs.Seats.{work_in_hand}
use Rattle.mark_core.specs.declared.kinds.Shape.{Shape}
use Rattle.mark_core.specs.declared.kinds.Step.TheVariants.{Take, ReadLength, StoreLength, Give, Credit}
use Rattle.mark_core.specs.declared.seat.SeatState.{SeatState}
use Rattle.mark_core.proofs.Pool.PoolSlots.{holds-put_same}
use Rattle.gc_table.specs.declared.view.View.{View}
use Rattle.gc_table.specs.Fetching.{is_in_range}
use Rattle.gc_table.specs.Taking.{after, Finds}
use Rattle.packet_pools.specs.OnlyTraced.{OnlyTraced}
use Rattle.gc_table.specs.Log.{events, steps_of, Grows}
use Rattle.packet_pools.specs.Tracing.{Traces}
use Rattle.packet_pools.specs.Hands.{HoldsPacket, with_packet}
use Rattle.packet_pools.specs.Seeking.{gets, gets_from, some_event, was_full, was_got, only_moves}
use Rattle.packet_pools.specs.Gains.{Seeks, Gains, MissesPackets, missed}
use Rattle.packet_pools.specs.Tried.{was_filled}
use Rattle.gc_table.proofs.History.Log.{entry_of, events-after, events-join, grows-after, grows-join}
use Rattle.packet_pools.proofs.TracedSteps.{traced-join}
use Rattle.packet_pools.proofs.Conditions.{traces-later}
use Rattle.packet_pools.proofs.Exchanged.{known-with, unread-put, drop-with}
use Rattle.packet_pools.proofs.Doing.{traced-take, traced-read_length}
use Rattle.packet_pools.proofs.Searches.{some-parts, full-left, moves-join, moves-steps, all_move, take-moves}
use Rattle.packet_pools.proofs.TakenOne.{won-state, got-asked, got-from, fetched-range, range-fits, last-taken, none-given}

module _ (v w : View) (q p n : ℕ) (k : Seeks q v) (there : p < v.shape.packets) (unheld : holds v.state.held p ≡ false) (taken : w ≡ after (Take q p) n v) (bit : has_bit n (p % word_bits) ≡ true) where
  w-state : w.state ≡ record v.state { held = put_packet v.state.held p; reserved = false }
  w-state = ap (λ (z : View). z.state) taken ∙ won-state v.shape v.state q p n k.reserved bit

  w-shape : w.shape ≡ v.shape
  w-shape = ap (λ (z : View). z.shape) taken

  pub w-there : p < w.shape.packets
  w-there = subst (λ (sh : Shape). p < sh.packets) (sym w-shape) there

  pub w-holds : holds w.state.held p ≡ true
  w-holds = ap (λ (s : SeatState). holds s.held p) w-state ∙ holds-put_same v.state.held p k.free

  pub w-unread : has_length w.state.held p ≡ false
  w-unread = ap (λ (s : SeatState). has_length s.held p) w-state ∙ unread-put v.state.held p unheld

  module _ (x : View) (m len : ℕ) (read : x ≡ after (ReadLength p) m w) (f : Finds (ReadLength p) m w) (is : len ≡ reference_in m) where
    x-shape : x.shape ≡ v.shape
    x-shape = ap (λ (z : View). z.shape) read ∙ w-shape

    fetched : (is_in_range w.shape q m ≡ true) × (reference_in m ≡ m)
    fetched = fetched-range w q p m k.pool w-there w-holds w-unread (last-taken v w q p n taken bit) f

    in-range : is_in_range v.shape q len ≡ true
    in-range = ap (is_in_range v.shape q) (is ∙ fetched.1) ∙ (ap (λ (sh : Shape). is_in_range sh q m) (sym w-shape) ∙ fetched.0)

    pub fits : len ≤ v.shape.entries
    fits = range-fits v.shape q len k.pool in-range

    pub x-state : x.state ≡ record v.state { held = with_packet v.state.held p len; reserved = false }
    x-state =
        ap (λ (z : View). z.state) read
        ∙ (ap (λ (s : SeatState). record s { held = set_length s.held p (reference_in m) true }) w-state ∙ ap (λ l. record v.state { held = with_packet v.state.held p l; reserved = false }) (sym is))

    pub only-traced : Finds (Take q p) n v → OnlyTraced v x
    only-traced found = traced-join v w x (traced-take v w n q p found taken) (traced-read_length w x m p f read)

    took : Grows v w
    took = subst (Grows v) (sym taken) (grows-after v (Take q p) n)

    after_read : Grows w x
    after_read = subst (Grows w) (sym read) (grows-after w (ReadLength p) m)

    pub held : HoldsPacket (record { packet = p; length = len }) x
    held =
        record {
          there = subst (λ (sh : Shape). p < sh.packets) (sym x-shape) there;
          known = ap (λ (s : SeatState). known_length s.held p) x-state ∙ known-with v.state.held p len k.free;
          fits = subst (λ (sh : Shape). len ≤ sh.entries) (sym x-shape) fits;
        }

    pub both : events v x ≡ entry_of (Take q p) n ∷ entry_of (ReadLength p) m ∷ []
    both =
        events-join v w x took after_read
        ∙ (λ i. events-after v w (Take q p) n taken i ++ events-after w x (ReadLength p) m read i)

    -- the packet is kept
    pub gains : (not_full : Bool) → (IsTrue not_full → len < v.shape.entries) → Gains q not_full (record { packet = p; length = len }) v x
    gains not_full roomy =
        record {
          unheld = unheld;
          held = held;
          state = x-state;
          range = in-range;
          roomy = roomy;
          got = ap (some_event (gets_from q p)) both ∙ or_left _ _ (got-from q p n bit);
          read = ap (was_filled len p) both ∙ or_left _ false (and_from _ _ (eq-eqb p p refl) (le-leb len (reference_in m + 0) (omega (arith, is))));
          moves = ap (only_moves (q ∷ [])) both ∙ and_from _ _ (take-moves q p) refl;
        }

    -- the seat may give it back
    pub traces : Finds (Take q p) n v → Traces x
    traces found = record { may = traces-later v x (only-traced found) k.may; unreserved = ap (λ (s : SeatState). s.reserved) x-state; uncredited = ap (λ (s : SeatState). s.credit) x-state ∙ k.uncredited }

    pub keeps-another : (work_in_hand v.shape.fields v.state ≡ true → holds_any v.state.held ≡ true) → work_in_hand x.shape.fields x.state ≡ true → holds_another x.state.held p ≡ true
    keeps-another h e =
        ap (λ (s : SeatState). holds_another s.held p) x-state
        ∙ (ap holds_any (drop-with v.state.held p len unheld) ∙ h ((λ i. work_in_hand (sym x-shape i).fields (record v.state { held = v.state.held })) ∙ (ap (λ (s : SeatState). work_in_hand x.shape.fields s) (sym x-state) ∙ e)))

    module _ (y : View) (high : q ≡ high_pool_number) (gave : y.state ≡ record x.state { held = drop_packet x.state.held p }) (after_it : OnlyTraced x y) (d : Bool) (steps : steps_of (events x y) ≡ StoreLength p ∷ Give p false ∷ (cond d (Credit ∷ []) [])) (full : len ≡ v.shape.entries) where
      -- it is back, and the record is as it was
      pub back-state : y.state ≡ v.state
      back-state =
          gave
          ∙ (ap (λ (s : SeatState). record s { held = drop_packet s.held p }) x-state
          ∙ (λ i. record v.state { held = drop-with v.state.held p len unheld i; reserved = sym (k.reserved ∙ ap (λ z. z == 0) high) i }))

      none-else : (z : ℕ) → was_got z (events x y) ≡ false
      none-else z = none-given z p d (events x y) steps

      moving : (b : Bool) → all_move (q ∷ []) (StoreLength p ∷ Give p false ∷ (cond b (Credit ∷ []) [])) ≡ true
      moving true = refl
      moving false = refl

      all-events : events v y ≡ (entry_of (Take q p) n ∷ entry_of (ReadLength p) m ∷ []) ++ events x y
      all-events = events-join v x y (grows-join v w x took after_read) after_it.log ∙ ap (λ es. es ++ events x y) both

      seen-full : was_full v.shape.entries p (entry_of (Take q p) n ∷ entry_of (ReadLength p) m ∷ []) ≡ true
      seen-full =
          or_left _ _
          (and_from _ _
          (subst (λ z. gets_from z p (Take q p) n ≡ true) high (got-from q p n bit))
          (or_left _ _ (and_from _ _ (eq-eqb p p refl) (le-leb v.shape.entries (reference_in m) (let e : v.shape.entries ≡ reference_in m = sym full ∙ is in omega (arith, e))))))

      -- the packet is full, and no other was taken
      pub back-misses : MissesPackets v.shape q true p (p + 1) (events v y)
      back-misses =
          record {
            all =
                λ z l h low.
                let same : p ≡ z = omega (arith, l, h) in
                subst (λ t. IsTrue (missed v.shape.entries q true t (events v y))) same
                (ap (missed v.shape.entries q true p) all-events ∙ or_right _ _ (full-left v.shape.entries p (entry_of (Take q p) n ∷ entry_of (ReadLength p) m ∷ []) (events x y) seen-full));
            got =
                λ z g.
                let asked : z ≡ p =
                ⊎_elim
                (λ (h : was_got z (entry_of (Take q p) n ∷ entry_of (ReadLength p) m ∷ []) ≡ true).
                ⊎_elim (λ (t : gets z (Take q p) n ≡ true). got-asked q p n z t) (λ (t : false ≡ true). absurd (false≢true t)) (or_cases (gets z (Take q p) n) false h))
                (λ (h : was_got z (events x y) ≡ true). absurd (true≢false (sym h ∙ none-else z)))
                (some-parts (gets z) (entry_of (Take q p) n ∷ entry_of (ReadLength p) m ∷ []) (events x y) (ap (was_got z) (sym all-events) ∙ g)) in
                (refl, omega (arith, asked));
            moves = ap (only_moves (q ∷ [])) all-events ∙ moves-join (q ∷ []) (entry_of (Take q p) n ∷ entry_of (ReadLength p) m ∷ []) (events x y) (and_from _ _ (take-moves q p) refl) (moves-steps (q ∷ []) (events x y) ∙ (ap (all_move (q ∷ [])) steps ∙ moving d));
          }
