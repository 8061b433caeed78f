-- A new length of a packet in hand keeps the rules of packets.
use Rattle.std.proofs.Common.{ℕ, ◌≡◌, ◌≢◌, ◌+◌, ◌-◌, ◌<◌, ◌≤◌, List, set, get_or, length, arith, refl, sym, ap, ◌∙◌, Bool, true, false, not, Option, Some, None, ⊎_elim, ◌*◌, ◌/◌, eqb, ◌&&◌, ◌||◌, subst}
use Rattle.std.specs.Prelude.{is_some, nat_lt, slice_index, unwrap_or, IsTrue, IsFalse}
use Rattle.std.proofs.lemmas.Bool.{cases_eq, false≢true, and_parts, ltb-true, ne_eqb, true≢false, eqb-true, eqb-false}
use Rattle.std.proofs.lemmas.List.{get_or-set_same, get_or-set_other, set-get_or, length-map, get_or-map, map-set}
use Rattle.mark_core.specs.Layout.{Words, put_word, pool_words}
use Rattle.mark_core.specs.Bits.{reference_in}
use Rattle.mark_core.specs.Held.{holds, known_length, length_in_hand, set_length, has_length, drop_packet, holds_any, is_stored}
use Rattle.mark_core.specs.Cells.{packet_length, in_pool, empty_packets}
use Rattle.mark_core.specs.Views.{hands}
use Rattle.mark_core.specs.Rules.PacketRules.{HeadsAgree, Pools}
use Rattle.mark_core.specs.Parts.{parts}
use Rattle.mark_core.specs.Effects.{place, written, seat_after}
use Rattle.mark_core.specs.Steps.{AllTrue}
use Rattle.mark_core.specs.Laws.{PacketsSound}
use Rattle.mark_core.proofs.Count.CountMoves.{agrees-but-one, bit, neither, follows, CountMove, counts-moved}
use Rattle.mark_core.proofs.Pool.PoolSlots.{set-other, holds-set_same, known-set_same, stored-set_same, stored-held, any-held, drop-other, holds-drop_same, same-in-hand}
use Rattle.mark_core.proofs.Pool.PoolPlaces.{only-holder, pools-still, same-hands, OneBit, pool-with, empty_packets-moves, in-no-pool}
use Rattle.mark_core.proofs.Pool.PoolMoves.{pools-length, held-alone, held-length, empty-fits, empty-chosen, pools-give, Holding}
use Rattle.mark_core.proofs.Basics.{some-positive, whole-length, not-not}
use Rattle.mark_core.specs.declared.kinds.Shape.{Shape}
use Rattle.mark_core.specs.declared.kinds.Step.TheVariants.{Push, Pop, StoreLength, ReadLength, Give}
use Rattle.mark_core.specs.declared.seat.SeatState.{SeatState}
use Rattle.mark_core.specs.Seats.{work_in_hand}
use Rattle.mark_core.specs.Steps.PacketSteps.{pool_for}
use Rattle.mark_core.proofs.Writing.Ranges.{word-below, in-row, pool_for-below}
use Rattle.mark_core.specs.Shapes.{IsShape}

-- Giving a packet back to a pool keeps the rules of packets.
-- What a step of one seat leaves of the rules of packets.
-- a state that meets the rules of packets, and seat i of it
pub record At (sh : Shape) (w : Words) (seats : List SeatState) (i : ℕ) (s : SeatState) : Type 0 where
  pub shaped : IsShape sh
  pub few : length seats ≤ 41
  pub pools_long : length w.pools ≡ 4 * pool_words sh
  pub heads_long : length w.heads ≡ sh.packets
  pub packets : PacketsSound sh w seats
  pub seat : i < length seats
  pub is : get_or seats i s ≡ s

-- what the seat holds
pub holding : (sh : Shape) (w : Words) (seats : List SeatState) (i : ℕ) (s : SeatState) → At sh w seats i s → Holding sh w.heads w.pools (hands seats) i s.held
holding sh w seats i s a =
    record {
      rule = a.packets.pools;
      seat = rw length-map a.seat;
      is = get_or-map (λ (t : SeatState). t.held) seats i s s.held a.seat ∙ ap (λ (t : SeatState). t.held) a.is;
    }

-- a fact of each seat, at this one
pub mine : (sh : Shape) (w : Words) (seats : List SeatState) (i : ℕ) (s : SeatState) → At sh w seats i s → HeadsAgree sh w.heads s
mine sh w seats i s a = subst (HeadsAgree sh w.heads) a.is (a.packets.counts.heads_agree i s a.seat)

pub one-debt : (sh : Shape) (w : Words) (seats : List SeatState) (i : ℕ) (s : SeatState) → At sh w seats i s → IsFalse (s.reserved && s.credit)
one-debt sh w seats i s a = subst (λ (t : SeatState). IsFalse (t.reserved && t.credit)) a.is (a.packets.counts.one_debt i s a.seat)

pub work-holds : (sh : Shape) (w : Words) (seats : List SeatState) (i : ℕ) (s : SeatState) → At sh w seats i s → IsTrue (work_in_hand sh.fields s) → IsTrue (holds_any s.held)
work-holds sh w seats i s a = subst (λ (t : SeatState). IsTrue (work_in_hand sh.fields t) → IsTrue (holds_any t.held)) a.is (a.packets.counts.work_holds i s a.seat)

pub sound-moved : (sh : Shape) (w w' : Words) (seats : List SeatState) (i : ℕ) (s t : SeatState) → At sh w seats i s → Pools sh w'.heads w'.pools (set (hands seats) i t.held)
    → CountMove sh s t w.empty w'.empty w'.heads w.pools w'.pools → ((j : ℕ) (d : SeatState) → j ≢ i → j < length seats → HeadsAgree sh w'.heads (get_or seats j d)) → PacketsSound sh w' (set seats i t)
sound-moved sh w w' seats i s t a p m others =
    record {
      pools = subst (Pools sh w'.heads w'.pools) (sym (map-set (λ (x : SeatState). x.held) seats i t)) p;
      counts = counts-moved sh w.empty w'.empty w.heads w'.heads w.pools w'.pools seats i s t a.packets.counts a.seat a.is m others;
    }

-- a step that leaves the heads and the pools, and what its seat holds
pub record Still (sh : Shape) (w w' : Words) (s t : SeatState) : Type 0 where
  pub heads : w'.heads ≡ w.heads
  pub pools : w'.pools ≡ w.pools
  pub held : t.held ≡ s.held
  pub counted : w'.empty + bit t.reserved + bit t.credit ≡ w.empty + bit s.reserved + bit s.credit
  pub one_debt : IsFalse (t.reserved && t.credit)
  pub work_holds : IsTrue (work_in_hand sh.fields t) → IsTrue (holds_any s.held)

pub sound-still : (sh : Shape) (w w' : Words) (seats : List SeatState) (i : ℕ) (s t : SeatState) → At sh w seats i s → Still sh w w' s t → PacketsSound sh w' (set seats i t)
sound-still sh w w' seats i s t a m =
    let k = holding sh w seats i s a in
    let rule : Pools sh w.heads w.pools (set (hands seats) i s.held) =
    pools-still sh w.heads w.heads w.pools w.pools (hands seats) (set (hands seats) i s.held) k.rule (λ q x d l. refl)
    (λ x h. let e = same-hands (hands seats) i x s.held s.held k.seat k.is (same-in-hand s.held x) in record { inside = λ q. refl; head = refl; holders = e.0; known = e.1 }) in
    sound-moved sh w w' seats i s t a (rw (m.heads, m.pools, m.held) rule)
    (record {
      counted = rw m.pools (omega (arith, m.counted));
      one_debt = m.one_debt;
      heads_agree = rw (m.heads, m.held) (mine sh w seats i s a);
      work_holds = λ e. rw m.held (m.work_holds e);
    })
    (λ j d n h. rw m.heads (a.packets.counts.heads_agree j d h))

either_length : (o : Option ℕ) (x y : ℕ) → is_some o ≡ true → unwrap_or o x ≡ unwrap_or o y
either_length None x y e = absurd (false≢true e)
either_length (Some n) x y e = refl

-- what a seat knows of a packet's length is within its room
pub known-within : (sh : Shape) (w : Words) (seats : List SeatState) (i p : ℕ) (s : SeatState) → At sh w seats i s → p < sh.packets → holds s.held p ≡ true → has_length s.held p ≡ true → length_in_hand s.held p ≤ sh.entries
known-within sh w seats i p s a hp h e =
    let k = holding sh w seats i s a in
    let long : packet_length w.heads (hands seats) p ≡ length_in_hand s.held p = rw (held-length sh w.heads w.pools (hands seats) i p s.held k hp h) (either_length (known_length s.held p) (slice_index w.heads p) 0 e) in
    omega (arith, long, a.packets.pools.rooms p hp)

some_entries : (d z : Bool) (n : ℕ) → eqb n 0 ≡ z → (not d || not z) ≡ true → d ≡ true → 0 < n
some_entries true true n e h f = absurd (false≢true h)
some_entries true false n e h f = grind (arith, eqb-false)
some_entries false z n e h f = absurd (false≢true f)

zero_not : (n : ℕ) → 0 < n → eqb n 0 ≡ false
zero_not n h = ne_eqb n 0 (λ e. omega (arith, h, e))

-- an empty packet that comes into its pool is owed to the count
gives_one : (sh : Shape) (pools pools' : List ℕ) (p n : ℕ) (d z : Bool) → p < sh.packets → OneBit sh pools pools' (pool_for sh n d) p true → in_pool sh pools 0 p ≡ false → eqb n 0 ≡ z → (d ≡ true → 0 < n) → empty_packets sh pools' ≡ empty_packets sh pools + bit z
gives_one sh pools pools' p n true z hp o out e f =
    let far : 0 ≡ pool_for sh n true → ⊥ = λ g. omega (arith, f refl, empty-fits sh n true (sym g)) in
    let moves = empty_packets-moves sh pools pools' (pool_for sh n true) p true hp o in
    let no : z ≡ false = sym e ∙ zero_not n (f refl) in
    omega (arith, moves, ap bit no, ap bit (o.there 0 p hp (λ g _. far g)))
gives_one sh pools pools' p n false true hp o out e f =
    let moves = empty_packets-moves sh pools pools' (pool_for sh n false) p true hp o in
    let here : in_pool sh pools' 0 p ≡ true = rw (empty-chosen sh n (eqb-true n 0 e)) at o.here in
    omega (arith, moves, ap bit out, ap bit here)
gives_one sh pools pools' p n false false hp o out e f =
    let far : 0 ≡ pool_for sh n false → ⊥ = λ g. eqb-false n 0 e (empty-fits sh n false (sym g)) in
    let moves = empty_packets-moves sh pools pools' (pool_for sh n false) p true hp o in
    omega (arith, moves, ap bit (o.there 0 p hp (λ g _. far g)))

give_by : (sh : Shape) (w w' : Words) (seats : List SeatState) (i p : ℕ) (d : Bool) (s : SeatState) → At sh w seats i s → p < sh.packets → holds s.held p ≡ true → has_length s.held p ≡ true
    → (not d || not (eqb (length_in_hand s.held p) 0)) ≡ true → (not (work_in_hand sh.fields s) || holds_any (drop_packet s.held p)) ≡ true → (not s.credit && not s.reserved) ≡ true → is_stored s.held p ≡ true
    → w'.heads ≡ w.heads → w'.empty ≡ w.empty → OneBit sh w.pools w'.pools (pool_for sh (length_in_hand s.held p) d) p true
    → PacketsSound sh w' (set seats i (record s { held = drop_packet s.held p; credit = not (not (eqb (length_in_hand s.held p) 0)) }))
give_by sh w w' seats i p d s a hp h e entries rest debts stored heads empty o =
    let n : ℕ = length_in_hand s.held p in
    let t : SeatState = record s { held = drop_packet s.held p; credit = not (not (eqb n 0)) } in
    let k = holding sh w seats i s a in
    let head : slice_index w.heads p ≡ n = mine sh w seats i s a p hp stored e in
    let free = neither s.credit s.reserved debts in
    let some = some_entries d (eqb n 0) n refl entries in
    let out : in_pool sh w.pools 0 p ≡ false = in-no-pool sh w.pools 0 p (omega arith) (held-alone sh w.heads w.pools (hands seats) i p s.held k hp h).0 in
    let one = gives_one sh w.pools w'.pools p n d (eqb n 0) hp o out refl some in
    sound-moved sh w w' seats i s t a
    (rw heads (pools-give sh w.heads w.pools w'.pools (hands seats) i p n d s.held k o h head (known-within sh w seats i p s a hp h e) some))
    (record {
      counted = rw (empty, not-not (eqb n 0), free.0) (omega (arith, one));
      one_debt = rw free.1 refl;
      heads_agree =
          agrees-but-one sh w.heads w'.heads s t p (mine sh w seats i s a) (λ x f. rw heads refl) (λ x f. drop-other s.held p x f)
          (λ _ f g. absurd (true≢false (sym (stored-held (drop_packet s.held p) p f) ∙ holds-drop_same s.held p)));
      work_holds = follows (work_in_hand sh.fields s) (holds_any (drop_packet s.held p)) rest;
    })
    (λ j f g l. rw heads (a.packets.counts.heads_agree j f l))

-- 3: the holder gives a packet back
pub sound-give : (sh : Shape) (w : Words) (seats : List SeatState) (i p : ℕ) (d : Bool) (s : SeatState) → At sh w seats i s → AllTrue (parts sh w seats s (Give p d))
    → PacketsSound sh (put_word (place sh s (Give p d)) (written sh s (Give p d) (get_or w.pools (pool_for sh (length_in_hand s.held p) d * pool_words sh + p / 64) 0)) w)
    (set seats i (seat_after sh s (Give p d) (get_or w.pools (pool_for sh (length_in_hand s.held p) d * pool_words sh + p / 64) 0)))
sound-give sh w seats i p d s a ok =
    let q : ℕ = pool_for sh (length_in_hand s.held p) d in
    let old : ℕ = get_or w.pools (q * pool_words sh + p / 64) 0 in
    let first = and_parts (nat_lt p sh.packets) (holds s.held p) ok.0 in
    let second = and_parts (has_length s.held p) _ ok.1.0 in
    let hp : p < sh.packets = ltb-true p sh.packets first.0 in
    let inside : q * pool_words sh + p / 64 < length w.pools = rw a.pools_long (in-row q 4 (pool_words sh) (p / 64) (pool_for-below sh (length_in_hand s.held p) d) (word-below sh p hp)) in
    give_by sh w (put_word (place sh s (Give p d)) (written sh s (Give p d) old) w) seats i p d s a hp first.1 second.0 second.1 ok.1.1.0 ok.1.1.1.0 ok.1.1.1.1.0 refl refl (pool-with sh w.pools q p inside hp)

-- a step after which seat i knows that packet p, which it holds, is n long
pub record Lengthens (sh : Shape) (w w' : Words) (s t : SeatState) (p n : ℕ) (b : Bool) : Type 0 where
  pub held : t.held ≡ set_length s.held p n b
  pub debts : (t.reserved ≡ s.reserved) × (t.credit ≡ s.credit)
  pub pools : w'.pools ≡ w.pools
  pub empty : w'.empty ≡ w.empty
  pub others : (x : ℕ) → x ≢ p → slice_index w'.heads x ≡ slice_index w.heads x
  pub head : b ≡ true → slice_index w'.heads p ≡ n

-- no other seat holds the packet, and so none says what its head holds
others_agree : (sh : Shape) (w w' : Words) (seats : List SeatState) (i p : ℕ) (s : SeatState) → At sh w seats i s → holds s.held p ≡ true → ((x : ℕ) → x ≢ p → slice_index w'.heads x ≡ slice_index w.heads x)
    → (j : ℕ) (d : SeatState) → j ≢ i → j < length seats → HeadsAgree sh w'.heads (get_or seats j d)
others_agree sh w w' seats i p s a h others j d n l x hx e f =
    let o : SeatState = get_or seats j d in
    let k = holding sh w seats i s a in
    ⊎_elim
    (λ (c : x ≡ p).
    let theirs : holds o.held p ≡ true = rw c at (stored-held o.held x e) in
    let long : j < length (hands seats) = rw length-map l in
    let at : get_or (hands seats) j s.held ≡ o.held = get_or-map (λ (t : SeatState). t.held) seats j d s.held l in
    let one = (held-alone sh w.heads w.pools (hands seats) i p s.held k (rw c at hx) h).1 in
    absurd (n (sym (only-holder (hands seats) i j p s.held k.seat long (omega (arith, one)) (rw k.is h) (rw at theirs)))))
    (λ (c : x ≡ p → ⊥). others x c ∙ a.packets.counts.heads_agree j d l x hx e f)
    (cases_eq x p)

lengthened : (sh : Shape) (w w' : Words) (seats : List SeatState) (i p n : ℕ) (b : Bool) (s t : SeatState) → At sh w seats i s → holds s.held p ≡ true → n ≤ sh.entries → Lengthens sh w w' s t p n b → PacketsSound sh w' (set seats i t)
lengthened sh w w' seats i p n b s t a h l m =
    let any : holds t.held p ≡ true = rw m.held (holds-set_same s.held p n b ∙ h) in
    sound-moved sh w w' seats i s t a
    (rw (m.pools, m.held) (pools-length sh w.heads w'.heads w.pools (hands seats) i p n b s.held (holding sh w seats i s a) m.others h l))
    (record {
      counted = rw (m.empty, m.pools, m.debts.0, m.debts.1) refl;
      one_debt = rw (m.debts.0, m.debts.1) (one-debt sh w seats i s a);
      heads_agree =
          agrees-but-one sh w.heads w'.heads s t p (mine sh w seats i s a) m.others (λ x d. rw m.held (set-other s.held p n b x d))
          (λ _ f g. m.head (stored-set_same s.held p n b (rw m.held at f)) ∙ sym (rw m.held (rw (known-set_same s.held p n b h) refl)));
      work_holds = λ _. any-held t.held p any;
    })
    (others_agree sh w w' seats i p s a h m.others)

-- 5: a cell goes into a packet
pub sound-push : (sh : Shape) (w : Words) (seats : List SeatState) (i p c old : ℕ) (s : SeatState) → At sh w seats i s → AllTrue (parts sh w seats s (Push p c))
    → PacketsSound sh (put_word (place sh s (Push p c)) (written sh s (Push p c) old) w) (set seats i (seat_after sh s (Push p c) old))
sound-push sh w seats i p c old s a ok =
    let n : ℕ = length_in_hand s.held p in
    lengthened sh w (put_word (place sh s (Push p c)) (written sh s (Push p c) old) w) seats i p (n + 1) false s (seat_after sh s (Push p c) old) a (and_parts _ _ ok.0).1 (omega (arith, ltb-true n sh.entries (and_parts _ _ ok.1.0).1))
    (record { held = refl; debts = (refl, refl); pools = refl; empty = refl; others = λ x d. refl; head = λ e. absurd (false≢true e) })

-- 6: a cell is taken from a packet
pub sound-pop : (sh : Shape) (w : Words) (seats : List SeatState) (i p old : ℕ) (s : SeatState) → At sh w seats i s → AllTrue (parts sh w seats s (Pop p))
    → PacketsSound sh (put_word (place sh s (Pop p)) (written sh s (Pop p) old) w) (set seats i (seat_after sh s (Pop p) old))
sound-pop sh w seats i p old s a ok =
    let n : ℕ = length_in_hand s.held p in
    let first = and_parts (nat_lt p sh.packets) (holds s.held p) ok.0 in
    let known = known-within sh w seats i p s a (ltb-true p sh.packets first.0) first.1 (some-positive (known_length s.held p) ok.1.0) in
    lengthened sh w (put_word (place sh s (Pop p)) (written sh s (Pop p) old) w) seats i p (n - 1) false s (seat_after sh s (Pop p) old) a first.1 (omega (arith, known))
    (record { held = refl; debts = (refl, refl); pools = refl; empty = refl; others = λ x d. refl; head = λ e. absurd (false≢true e) })

-- 41: the holder stores the length of its packet in the head
pub sound-store_length : (sh : Shape) (w : Words) (seats : List SeatState) (i p old : ℕ) (s : SeatState) → At sh w seats i s → AllTrue (parts sh w seats s (StoreLength p))
    → PacketsSound sh (put_word (place sh s (StoreLength p)) (written sh s (StoreLength p) old) w) (set seats i (seat_after sh s (StoreLength p) old))
sound-store_length sh w seats i p old s a ok =
    let n : ℕ = length_in_hand s.held p in
    let first = and_parts (nat_lt p sh.packets) (holds s.held p) ok.0 in
    let hp : p < sh.packets = ltb-true p sh.packets first.0 in
    let long : p < length w.heads = rw a.heads_long hp in
    lengthened sh w (put_word (place sh s (StoreLength p)) (written sh s (StoreLength p) old) w) seats i p n true s (seat_after sh s (StoreLength p) old) a first.1 (known-within sh w seats i p s a hp first.1 ok.1.0)
    (record { held = refl; debts = (refl, refl); pools = refl; empty = refl; others = λ x d. get_or-set_other w.heads p x n 0 d; head = λ e. get_or-set_same w.heads p n 0 long })

unknown : (o : Option ℕ) → not (is_some o) ≡ true → o ≡ None
unknown None e = refl
unknown (Some n) e = absurd (false≢true e)

-- 42: the holder reads the length of its packet from the head
pub sound-read_length : (sh : Shape) (w : Words) (seats : List SeatState) (i p : ℕ) (s : SeatState) → At sh w seats i s → AllTrue (parts sh w seats s (ReadLength p))
    → PacketsSound sh (put_word (place sh s (ReadLength p)) (written sh s (ReadLength p) (get_or w.heads p 0)) w) (set seats i (seat_after sh s (ReadLength p) (get_or w.heads p 0)))
sound-read_length sh w seats i p s a ok =
    let old : ℕ = get_or w.heads p 0 in
    let first = and_parts (nat_lt p sh.packets) (holds s.held p) ok.0 in
    let hp : p < sh.packets = ltb-true p sh.packets first.0 in
    let k = holding sh w seats i s a in
    let none : known_length s.held p ≡ None = unknown (known_length s.held p) ok.1.0 in
    let long : packet_length w.heads (hands seats) p ≡ old = rw (held-length sh w.heads w.pools (hands seats) i p s.held k hp first.1, none) refl in
    let within : old ≤ sh.entries = omega (arith, long, a.packets.pools.rooms p hp) in
    let same : reference_in old ≡ old = whole-length old sh.entries within a.shaped.entries.1 in
    let back : set w.heads p old ≡ w.heads = set-get_or w.heads p 0 in
    lengthened sh w (put_word (place sh s (ReadLength p)) (written sh s (ReadLength p) old) w) seats i p (reference_in old) true s (seat_after sh s (ReadLength p) old) a first.1 (rw same within)
    (record { held = refl; debts = (refl, refl); pools = refl; empty = refl; others = λ x d. ap (λ (hs : List ℕ). get_or hs x 0) back; head = λ e. ap (λ (hs : List ℕ). get_or hs p 0) back ∙ sym same })
