-- Each event that is allowed keeps the rules of packets.
use Rattle.std.proofs.Common.{ℕ, ◌≡◌, List, [], ◌∷◌, ◌++◌, set, arith, refl, sym, ◌∙◌, subst, Bool, true, false, not, ◌&&◌, eqb, Option, Some, None, ⊎_elim, ◌+◌, ◌*◌, ◌/◌, ◌<◌, get_or, length, ap, cond, ◌||◌}
use Rattle.std.specs.Prelude.{IsTrue, IsFalse, slice_get, is_none, is_some, nat_lt}
use Rattle.std.specs.List.{count_by}
use Rattle.std.proofs.lemmas.Bool.{cases_Bool, true≢false, false≢true, and_parts, not-true, eqb-true, eqb-false, ltb-true}
use Rattle.std.proofs.lemmas.List.{map_push, set-get_or}
use Rattle.std.proofs.lemmas.List.Elements.{All-push}
use Rattle.std.proofs.lemmas.List.Sums.{sum_by_push}
use Rattle.std.proofs.lemmas.Option.{slice_get_within, get_or_from_slice_get}
use Rattle.mark_core.specs.Layout.{Words, pool_words, put_word, words_of, region_sizes}
use Rattle.mark_core.specs.Held.{Slots, holds, holds_any, is_stored, has_free_slot, put_packet, length_in_hand}
use Rattle.mark_core.specs.Seats.{work_in_hand, empty_handed}
use Rattle.mark_core.specs.Views.{hands}
use Rattle.mark_core.specs.Start.{start_seat, spent_seat}
use Rattle.mark_core.specs.Rules.PacketRules.{Pools, HeadsAgree, has_reservation, has_credit}
use Rattle.mark_core.specs.Steps.WorldSteps.{other_has_nothing}
use Rattle.mark_core.specs.Laws.{PacketsSound, ArePacketsSound, EventsKeepPackets}
use Rattle.mark_core.proofs.Count.CountMoves.{bit, agrees-but-one}
use Rattle.mark_core.proofs.Known.{unheld-unknown, Acted, acted, found, words_left, reaches_from}
use Rattle.mark_core.proofs.Pool.PoolSlots.{SameInHand, none-held, stored-held, put-other, known-put_same, any-put}
use Rattle.mark_core.proofs.Pool.PoolPlaces.{holders-push, among-push, pools-still, same-hands, OneBit, pool-without, empty_packets-moves}
use Rattle.mark_core.proofs.Pool.PoolLengths.{At, holding, sound-moved, mine, one-debt, work-holds, sound-give, sound-push, sound-pop, sound-store_length, sound-read_length}
use Rattle.mark_core.specs.declared.kinds.Shape.{Shape}
use Rattle.mark_core.specs.declared.seat.SeatState.{SeatState}
use Rattle.mark_core.specs.Cells.{in_pool, empty_packets}
use Rattle.mark_core.specs.Parts.{parts}
use Rattle.mark_core.specs.Effects.{place, written, seat_after}
use Rattle.mark_core.specs.Steps.{AllTrue, Core, after_event, after_of, others_after}
use Rattle.mark_core.proofs.Pool.PoolMoves.{pools-take, pools-untaken, same-inside}
use Rattle.mark_core.proofs.Writing.Ranges.{word-below, in-row, pool_for-below}
use Rattle.mark_core.specs.declared.kinds.Step.TheVariants.{Take, Reserve, Give, Credit, Push, Pop, Look, ReadCount, ReadAlloc, ReadField, ReadRoot, SetMark, DirtyCard, ClearCard, ReadMarks, StoreField, Split, Join, StoreLength, ReadLength, ExchangeField, LoadSlot, CheckCard}
use Rattle.mark_core.specs.Steps.PacketSteps.{pool_for}
use Rattle.mark_core.specs.WellFormed.{IsWellFormed}
use Rattle.mark_core.proofs.Writing.Places.{words-get, region-length}
use Rattle.mark_core.proofs.Count.CountWork.{sound-reserve, sound-credit, sound-work, sound-other, work-after, is_tracing}
use Rattle.mark_core.proofs.Writing.Frames.{held_of, debts_of}
use Rattle.mark_core.specs.declared.kinds.Event.{Event}
use Rattle.mark_core.specs.declared.kinds.Step.{Step}

-- A further seat, and the end of a seat's record, keep the rules of packets.
-- a hand with no packet
abbrev nothing : Slots
nothing = None ∷ None ∷ None ∷ None ∷ []

no_reservation : (sh : Shape) (seats : List SeatState) (k : ℕ) → count_by has_reservation (seats ++ start_seat sh k ∷ []) ≡ count_by has_reservation seats
no_reservation sh seats k = let e = sum_by_push (λ (x : SeatState). bit (has_reservation x)) seats (start_seat sh k) in omega (arith, e)

no_credit : (sh : Shape) (seats : List SeatState) (k : ℕ) → count_by has_credit (seats ++ start_seat sh k ∷ []) ≡ count_by has_credit seats
no_credit sh seats k = let e = sum_by_push (λ (x : SeatState). bit (has_credit x)) seats (start_seat sh k) in omega (arith, e)

-- 31: a new seat
pub sound-split : (sh : Shape) (w : Words) (seats : List SeatState) (k : ℕ) → PacketsSound sh w seats → PacketsSound sh w (seats ++ start_seat sh k ∷ [])
sound-split sh w seats k p =
    let c = p.counts in
    let new : SeatState = start_seat sh k in
    record {
      pools =
          subst (Pools sh w.heads w.pools) (sym (map_push (λ (x : SeatState). x.held) seats new))
          (pools-still sh w.heads w.heads w.pools w.pools (hands seats) (hands seats ++ nothing ∷ []) p.pools (λ q x d l. refl)
          (λ x h. record { inside = λ q. refl; head = refl; holders = omega (arith, holders-push (hands seats) nothing x); known = among-push (hands seats) nothing x refl }));
      counts =
          record {
            counted = omega (arith, c.counted, no_reservation sh seats k, no_credit sh seats k);
            one_debt = All-push (λ (x : SeatState). IsFalse (x.reserved && x.credit)) seats new c.one_debt refl;
            heads_agree = All-push (HeadsAgree sh w.heads) seats new c.heads_agree (λ x h e. absurd (false≢true e));
            work_holds = All-push (λ (x : SeatState). IsTrue (work_in_hand sh.fields x) → IsTrue (holds_any x.held)) seats new c.work_holds (λ e. absurd (false≢true e));
          };
    }

not_stored : (hs : Slots) (x : ℕ) → holds hs x ≡ false → is_stored hs x ≡ false
not_stored hs x h =
    ⊎_elim
    (λ (e : is_stored hs x ≡ true). absurd (true≢false (sym (stored-held hs x e) ∙ h)))
    (λ (e : is_stored hs x ≡ false). e)
    (cases_Bool (is_stored hs x))

-- two hands with no packet
same_nothing : (hs : Slots) (x : ℕ) → holds_any hs ≡ false → SameInHand hs nothing x
same_nothing hs x e =
    let h : holds hs x ≡ false = none-held hs x e in
    record { holds_same = sym h; known_same = sym (unheld-unknown hs x h); stored_same = sym (not_stored hs x h) }

-- a seat with nothing in hand ends
ended : (sh : Shape) (w : Words) (seats : List SeatState) (i : ℕ) (s : SeatState) → At sh w seats i s → empty_handed s ≡ true → PacketsSound sh w (set seats i (spent_seat sh i))
ended sh w seats i s a e =
    let credit = and_parts (not (holds_any s.held) && not s.reserved) (not s.credit) e in
    let hand = and_parts (not (holds_any s.held)) (not s.reserved) credit.0 in
    let none : holds_any s.held ≡ false = not-true _ hand.0 in
    let r : s.reserved ≡ false = not-true _ hand.1 in
    let c : s.credit ≡ false = not-true _ credit.1 in
    let k = holding sh w seats i s a in
    sound-moved sh w w seats i s (spent_seat sh i) a
    (pools-still sh w.heads w.heads w.pools w.pools (hands seats) (set (hands seats) i nothing) k.rule (λ q x d l. refl)
    (λ x h. let m = same-hands (hands seats) i x s.held nothing k.seat k.is (same_nothing s.held x none) in record { inside = λ q. refl; head = refl; holders = m.0; known = m.1 }))
    (record { counted = rw (r, c) refl; one_debt = refl; heads_agree = λ x h f. absurd (false≢true f); work_holds = λ f. absurd (false≢true f) })
    (λ j d n l. a.packets.counts.heads_agree j d l)

first_of : (a b c d e f : Bool) → (a && b && c && d && e && f) ≡ true → a ≡ true
first_of true b c d e f h = refl
first_of false b c d e f h = absurd (false≢true h)

join_at : (sh : Shape) (w : Words) (seats : List SeatState) (i j : ℕ) (s : SeatState) (o : Option SeatState) → At sh w seats i s → slice_get seats j ≡ o → other_has_nothing sh o ≡ true → PacketsSound sh w (set seats j (spent_seat sh j))
join_at sh w seats i j s None a g e = absurd (false≢true e)
join_at sh w seats i j s (Some o) a g e =
    let b : At sh w seats j o =
    record {
      shaped = a.shaped;
      few = a.few;
      pools_long = a.pools_long;
      heads_long = a.heads_long;
      packets = a.packets;
      seat = slice_get_within seats j o g;
      is = get_or_from_slice_get seats j o o g;
    } in
    ended sh w seats j o b (first_of (empty_handed o) (not (work_in_hand sh.fields o)) (is_none o.owes) (is_none o.cache) (is_none o.block) (eqb o.got 0 && eqb o.lags 0) e)

-- 32: the record of another seat ends
pub sound-join : (sh : Shape) (w : Words) (seats : List SeatState) (i j : ℕ) (s : SeatState) → At sh w seats i s → other_has_nothing sh (slice_get seats j) ≡ true → PacketsSound sh w (set seats j (spent_seat sh j))
sound-join sh w seats i j s a e = join_at sh w seats i j s (slice_get seats j) a refl e

-- Taking a packet out of a pool keeps the rules of packets.
-- a packet of the empty pool ends the reservation, and another leaves it
take_counts : (e c n m : ℕ) (z r : Bool) → (z ≡ true → m + 1 ≡ n) → (z ≡ false → m ≡ n) → (not z || r) ≡ true → e + bit (r && not (z && true)) + c + n ≡ e + bit r + c + m
take_counts e c n m true true f g h = omega (arith, f refl)
take_counts e c n m true false f g h = absurd (false≢true h)
take_counts e c n m false true f g h = omega (arith, g refl)
take_counts e c n m false false f g h = omega (arith, g refl)

still_one : (r c b : Bool) → (r && c) ≡ false → ((r && b) && c) ≡ false
still_one true c true h = h
still_one true c false h = refl
still_one false c b h = refl

kept : (z r : Bool) → (r && not (z && false)) ≡ r
kept true true = refl
kept true false = refl
kept false true = refl
kept false false = refl

-- the seat that takes the packet, if its bit was set
abbrev taker : SeatState → ℕ → ℕ → Bool → SeatState
taker s q p b = record s { held = cond b (put_packet s.held p) s.held; reserved = s.reserved && not ((eqb q 0) && b) }

take_by : (sh : Shape) (w w' : Words) (seats : List SeatState) (i q p : ℕ) (s : SeatState) (b : Bool) → At sh w seats i s → q < 4 → p < sh.packets → holds s.held p ≡ false → (not (eqb q 0) || s.reserved) ≡ true → has_free_slot s.held ≡ true
    → w'.heads ≡ w.heads → w'.empty ≡ w.empty → OneBit sh w.pools w'.pools q p false → in_pool sh w.pools q p ≡ b → PacketsSound sh w' (set seats i (taker s q p b))
take_by sh w w' seats i q p s true a hq hp n enough free heads empty o e =
    let t : SeatState = taker s q p true in
    let moves = empty_packets-moves sh w.pools w'.pools q p false hp o in
    sound-moved sh w w' seats i s t a
    (rw heads (pools-take sh w.heads w.pools w'.pools (hands seats) i q p s.held (holding sh w seats i s a) hq o e n free))
    (record {
      counted =
          rw empty
          (take_counts w.empty (bit s.credit) (empty_packets sh w.pools) (empty_packets sh w'.pools) (eqb q 0) s.reserved
          (λ z. let f : q ≡ 0 = eqb-true q 0 z in omega (arith, moves, ap bit (rw f at e), ap bit (rw f at o.here)))
          (λ z. omega (arith, moves, ap bit (o.there 0 p hp (λ f g. eqb-false q 0 z (sym f)))))
          enough);
      one_debt = still_one s.reserved s.credit (not (eqb q 0 && true)) (one-debt sh w seats i s a);
      heads_agree = agrees-but-one sh w.heads w'.heads s t p (mine sh w seats i s a) (λ x d. rw heads refl) (λ x d. put-other s.held p x d) (λ _ f g. absurd (false≢true (sym (ap is_some (known-put_same s.held p n)) ∙ g)));
      work_holds = λ f. any-put s.held p (work-holds sh w seats i s a f);
    })
    (λ j d f h. rw heads (a.packets.counts.heads_agree j d h))
take_by sh w w' seats i q p s false a hq hp n enough free heads empty o e =
    let t : SeatState = taker s q p false in
    let same : empty_packets sh w'.pools ≡ empty_packets sh w.pools = omega (arith, empty_packets-moves sh w.pools w'.pools q p false hp o, ap bit (same-inside sh w.pools w'.pools q p o e 0 p hp)) in
    let reserved : t.reserved ≡ s.reserved = kept (eqb q 0) s.reserved in
    sound-moved sh w w' seats i s t a
    (rw heads (pools-untaken sh w.heads w.pools w'.pools (hands seats) i q p s.held (holding sh w seats i s a) o e))
    (record {
      counted = rw (empty, same, reserved) refl;
      one_debt = rw reserved (one-debt sh w seats i s a);
      heads_agree = rw heads (mine sh w seats i s a);
      work_holds = work-holds sh w seats i s a;
    })
    (λ j d f h. rw heads (a.packets.counts.heads_agree j d h))

-- 2: a tracer takes a packet
pub sound-take : (sh : Shape) (w : Words) (seats : List SeatState) (i q p : ℕ) (s : SeatState) → At sh w seats i s → AllTrue (parts sh w seats s (Take q p))
    → PacketsSound sh (put_word (place sh s (Take q p)) (written sh s (Take q p) (get_or w.pools (q * pool_words sh + p / 64) 0)) w) (set seats i (seat_after sh s (Take q p) (get_or w.pools (q * pool_words sh + p / 64) 0)))
sound-take sh w seats i q p s a ok =
    let old : ℕ = get_or w.pools (q * pool_words sh + p / 64) 0 in
    let range = and_parts (nat_lt q 4) (nat_lt p sh.packets) (and_parts _ _ ok.0).0 in
    let hq : q < 4 = ltb-true q 4 range.0 in
    let hp : p < sh.packets = ltb-true p sh.packets range.1 in
    let inside : q * pool_words sh + p / 64 < length w.pools = rw a.pools_long (in-row q 4 (pool_words sh) (p / 64) hq (word-below sh p hp)) in
    take_by sh w (put_word (place sh s (Take q p)) (written sh s (Take q p) old) w) seats i q p s (in_pool sh w.pools q p) a hq hp (not-true _ ok.1.0) ok.1.1.0 ok.1.1.1.0 refl refl (pool-without sh w.pools q p inside hp) refl

-- what the proof needs of the state before
at_seat : (c : Core) (i : ℕ) (s : SeatState) → IsWellFormed c → ArePacketsSound c → slice_get c.seats i ≡ Some s → At c.shape (words_of c.shape c.words) c.seats i s
at_seat c i s k p g =
    record {
      shaped = k.shaped;
      few = k.seat_count.1;
      pools_long = region-length (region_sizes c.shape) 12 c.words (omega (arith, k.words));
      heads_long = region-length (region_sizes c.shape) 7 c.words (omega (arith, k.words));
      packets = p;
      seat = slice_get_within c.seats i s g;
      is = get_or_from_slice_get c.seats i s s g;
    }

-- what the step leaves, if its word was `old`
abbrev Left : Core → ℕ → SeatState → Step → ℕ → Type 0
Left c i s step old =
    PacketsSound c.shape (put_word (place c.shape s step) (written c.shape s step old) (words_of c.shape c.words)) (others_after c.shape step (set c.seats i (seat_after c.shape s step old)))

-- a seat's record that is written back
same_seats : (c : Core) (i : ℕ) (s : SeatState) → At c.shape (words_of c.shape c.words) c.seats i s → set c.seats i s ≡ c.seats
same_seats c i s a = subst (λ (t : SeatState). set c.seats i t ≡ c.seats) a.is (set-get_or c.seats i s)

-- a step of tracing
tracing : (c : Core) (i : ℕ) (s : SeatState) (step : Step) → At c.shape (words_of c.shape c.words) c.seats i s
    → ((words_left c s step).empty ≡ (words_of c.shape c.words).empty)
    × ((words_left c s step).heads ≡ (words_of c.shape c.words).heads)
    × ((words_left c s step).pools ≡ (words_of c.shape c.words).pools)
    → held_of (seat_after c.shape s step (found c s step)) ≡ held_of s → debts_of (seat_after c.shape s step (found c s step)) ≡ debts_of s
    → AllTrue (parts c.shape (words_of c.shape c.words) c.seats s step) → is_tracing step ≡ true
    → PacketsSound c.shape (words_left c s step) (set c.seats i (seat_after c.shape s step (found c s step)))
tracing c i s step a same held debts ok t =
    let w : Words = words_of c.shape c.words in
    sound-work c.shape w (words_left c s step) c.seats i s (seat_after c.shape s step (found c s step)) a same held debts (work-after c.shape w c.seats i s step (found c s step) a ok t)

packets_at : (c : Core) (i : ℕ) (s : SeatState) (step : Step) → At c.shape (words_of c.shape c.words) c.seats i s → AllTrue (parts c.shape (words_of c.shape c.words) c.seats s step) → Left c i s step (found c s step)
packets_at c i s Reserve a ok = sound-reserve c.shape (words_of c.shape c.words) c.seats i s a ok
packets_at c i s (Take q p) a ok =
    let range = and_parts (nat_lt q 4) (nat_lt p c.shape.packets) (and_parts _ _ ok.0).0 in
    let k : ℕ = q * pool_words c.shape + p / 64 in
    let h : k < 4 * pool_words c.shape = in-row q 4 (pool_words c.shape) (p / 64) (ltb-true q 4 range.0) (word-below c.shape p (ltb-true p c.shape.packets range.1)) in
    subst (Left c i s (Take q p)) (sym (words-get (region_sizes c.shape) 12 c.words k 0 h)) (sound-take c.shape (words_of c.shape c.words) c.seats i q p s a ok)
packets_at c i s (Give p d) a ok =
    let n : ℕ = length_in_hand s.held p in
    let hp : p < c.shape.packets = ltb-true p c.shape.packets (and_parts _ _ ok.0).0 in
    let k : ℕ = pool_for c.shape n d * pool_words c.shape + p / 64 in
    let h : k < 4 * pool_words c.shape = in-row (pool_for c.shape n d) 4 (pool_words c.shape) (p / 64) (pool_for-below c.shape n d) (word-below c.shape p hp) in
    subst (Left c i s (Give p d)) (sym (words-get (region_sizes c.shape) 12 c.words k 0 h)) (sound-give c.shape (words_of c.shape c.words) c.seats i p d s a ok)
packets_at c i s Credit a ok = sound-credit c.shape (words_of c.shape c.words) c.seats i s a ok
packets_at c i s (Push p x) a ok = sound-push c.shape (words_of c.shape c.words) c.seats i p x (found c s (Push p x)) s a ok
packets_at c i s (Pop p) a ok = sound-pop c.shape (words_of c.shape c.words) c.seats i p (found c s (Pop p)) s a ok
packets_at c i s (Look q g) a ok =
    let range = and_parts (nat_lt q 4) (nat_lt g (pool_words c.shape)) ok.0 in
    let w : Words = words_of c.shape c.words in
    let k : ℕ = q * pool_words c.shape + g in
    let h : k < 4 * pool_words c.shape = in-row q 4 (pool_words c.shape) g (ltb-true q 4 range.0) (ltb-true g (pool_words c.shape) range.1) in
    subst (Left c i s (Look q g)) (sym (words-get (region_sizes c.shape) 12 c.words k 0 h))
    (sound-work c.shape w (put_word (place c.shape s (Look q g)) (get_or w.pools k 0) w) c.seats i s s a (refl, refl, set-get_or w.pools k 0) refl refl (work-holds c.shape w c.seats i s a))
packets_at c i s ReadCount a ok =
    let w : Words = words_of c.shape c.words in
    sound-work c.shape w (put_word (place c.shape s ReadCount) w.empty w) c.seats i s s a (refl, refl, refl) refl refl (work-holds c.shape w c.seats i s a)
packets_at c i s (ReadAlloc b) a ok = tracing c i s (ReadAlloc b) a (refl, refl, refl) refl refl ok refl
packets_at c i s (ReadField x f) a ok = tracing c i s (ReadField x f) a (refl, refl, refl) refl refl ok refl
packets_at c i s (ReadRoot section v) a ok = tracing c i s (ReadRoot section v) a (refl, refl, refl) refl refl ok refl
packets_at c i s (LoadSlot section k) a ok = tracing c i s (LoadSlot section k) a (refl, refl, refl) refl refl ok refl
packets_at c i s (SetMark x) a ok = tracing c i s (SetMark x) a (refl, refl, refl) refl refl ok refl
packets_at c i s (DirtyCard card) a ok = tracing c i s (DirtyCard card) a (refl, refl, refl) refl refl ok refl
packets_at c i s (ClearCard card) a ok = tracing c i s (ClearCard card) a (refl, refl, refl) refl refl ok refl
packets_at c i s (ReadMarks b) a ok = tracing c i s (ReadMarks b) a (refl, refl, refl) refl refl ok refl
packets_at c i s (StoreField v f x) a ok =
    let w : Words = words_of c.shape c.words in
    let step : Step = StoreField v f x in
    sound-work c.shape w (words_left c s step) c.seats i s (seat_after c.shape s step (found c s step)) a (refl, refl, refl) refl refl (work-holds c.shape w c.seats i s a)
packets_at c i s (ExchangeField v f x y) a ok =
    let w : Words = words_of c.shape c.words in
    let step : Step = ExchangeField v f x y in
    sound-work c.shape w (words_left c s step) c.seats i s (seat_after c.shape s step (found c s step)) a (refl, refl, refl) refl refl (work-holds c.shape w c.seats i s a)
packets_at c i s (CheckCard card) a ok =
    let w : Words = words_of c.shape c.words in
    let step : Step = CheckCard card in
    sound-work c.shape w (words_left c s step) c.seats i s (seat_after c.shape s step (found c s step)) a (refl, refl, refl) refl refl (work-holds c.shape w c.seats i s a)
packets_at c i s Split a ok =
    let w : Words = words_of c.shape c.words in
    let w' : Words = words_left c s Split in
    sound-split c.shape w' (set c.seats i s) (length (set c.seats i s)) (sound-work c.shape w w' c.seats i s s a (refl, refl, refl) refl refl (work-holds c.shape w c.seats i s a))
packets_at c i s (Join other) a ok =
    let w : Words = words_of c.shape c.words in
    let ended : PacketsSound c.shape w (set c.seats other (spent_seat c.shape other)) = sound-join c.shape w c.seats i other s a (and_parts _ _ ok.1.0).1 in
    rw (same_seats c i s a) (record { pools = ended.pools; counts = ended.counts })
packets_at c i s (StoreLength p) a ok = sound-store_length c.shape (words_of c.shape c.words) c.seats i p (found c s (StoreLength p)) s a ok
packets_at c i s (ReadLength p) a ok =
    let hp : p < c.shape.packets = ltb-true p c.shape.packets (and_parts _ _ ok.0).0 in
    subst (Left c i s (ReadLength p)) (sym (words-get (region_sizes c.shape) 7 c.words p 0 hp)) (sound-read_length c.shape (words_of c.shape c.words) c.seats i p s a ok)
packets_at c i s step a ok = sound-other c.shape (words_of c.shape c.words) c.seats i s step (written c.shape s step (found c s step)) (found c s step) a refl refl refl refl refl refl

shape_of : (c : Core) (i : ℕ) (o : Option SeatState) (step : Step) → (after_of c i o step).shape ≡ c.shape
shape_of c i None step = refl
shape_of c i (Some s) step = refl

-- no event changes the shape
pub shape-kept : (c : Core) (e : Event) → (after_event c e).shape ≡ c.shape
shape-kept c e = shape_of c e.seat (slice_get c.seats e.seat) e.step

-- each event that is allowed keeps the rules of packets
pub packets_kept : EventsKeepPackets
packets_kept c e k names p f =
    let r : (s : SeatState) × Acted c e s = acted c e k.words (λ s g. reaches_from c e.seat s e.step k names p.pools g) f in
    let a : Acted c e r.0 = r.1 in
    let s : SeatState = r.0 in
    let w : Words = words_left c s e.step in
    let P : List SeatState → Type 0 = λ seats. PacketsSound c.shape w seats in
    let Q : Words → Type 0 = λ x. PacketsSound c.shape x (after_event c e).seats in
    let R : Shape → Type 0 = λ sh. PacketsSound sh (words_of sh (after_event c e).words) (after_event c e).seats in
    subst R (sym (shape-kept c e)) (subst Q (sym a.words) (subst P (sym a.seats) (packets_at c e.seat s e.step (at_seat c e.seat s k p a.seat) a.ok)))
