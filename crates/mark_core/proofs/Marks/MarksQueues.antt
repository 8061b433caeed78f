-- The lengths and the entries of packets after a step that is allowed.
use Rattle.std.proofs.Common.{ℕ, ◌≡◌, ◌≢◌, ◌<◌, ◌≤◌, List, set, get_or, length, arith, refl, sym, ap, ◌∙◌, Bool, true, false, cond, Option, Some, None, ⊎_elim, ◌+◌, ◌-◌, ◌*◌, ◌%◌, [], ◌∷◌, ◌++◌, subst, eqb, ◌&&◌}
use Rattle.std.specs.Prelude.{is_some, slice_index, unwrap_or, slice_get, nat_lt}
use Rattle.std.proofs.lemmas.Bool.{true≢false, false≢true, cases_eq, and_parts, ltb-true, not-true}
use Rattle.std.proofs.lemmas.List.{length-set, get_or-set_same, map-set, map_push, length-map, get_or-map, get_or-set_other, set-get_or}
use Rattle.mark_core.specs.Held.{Slots, holds, known_length, has_length, has_entry, length_in_hand, put_packet, drop_packet, set_length}
use Rattle.mark_core.specs.Cells.{packet_length, holder_count, length_among, entry}
use Rattle.mark_core.proofs.Count.CountMoves.{bit}
use Rattle.mark_core.proofs.Known.{unheld-unknown, known-among, in_range, found, words_left, seats_left}
use Rattle.mark_core.proofs.Pool.PoolSlots.{put-other, drop-other, set-other, holds-set_same, known-set_same, known-put_same, holds-drop_same, none-held}
use Rattle.mark_core.proofs.Pool.PoolPlaces.{holders-set, among-set, among-unheld, among-push}
use Rattle.mark_core.proofs.Pool.PoolMoves.{Holding, held-alone, held-length}
use Rattle.mark_core.proofs.Basics.{some-positive, positive, whole-length}
use Rattle.mark_core.specs.declared.kinds.Shape.{Shape}
use Rattle.std.proofs.lemmas.Option.{slice_get_within, get_or_from_slice_get}
use Rattle.mark_core.specs.Layout.{Words, words_of, region_sizes}
use Rattle.mark_core.specs.Bits.{has_bit, reference_in}
use Rattle.mark_core.specs.Views.{hands}
use Rattle.mark_core.specs.Rules.PacketRules.{HeadsAgree}
use Rattle.mark_core.specs.Steps.WorldSteps.{has_nothing, other_has_nothing}
use Rattle.mark_core.specs.Start.{spent_seat}
use Rattle.mark_core.specs.Parts.{parts}
use Rattle.mark_core.specs.Effects.{written, seat_after}
use Rattle.mark_core.specs.Steps.{Core, AllTrue}
use Rattle.mark_core.specs.Laws.{IsCore}
use Rattle.mark_core.proofs.Writing.Ranges.{placed}
use Rattle.mark_core.proofs.Writing.Places.{region-length}
use Rattle.mark_core.proofs.Writing.Frames.{held_of, held-kept, projection-kept}
use Rattle.mark_core.proofs.Writing.RegionWrites.{heads-kept, entries-kept}
use Rattle.mark_core.proofs.Marks.MarksIdle.{at-seat, lacks-from, found-word}
use Rattle.mark_core.proofs.Marks.MarksBefore.{EntriesGo, Pushes, entries-fewer, entries-pushed}
use Rattle.mark_core.specs.declared.kinds.Step.{Step}
use Rattle.mark_core.specs.declared.kinds.Step.TheVariants.{Take, Give, Push, Pop, Split, Join, StoreLength, ReadLength}
use Rattle.mark_core.specs.declared.seat.SeatState.{SeatState}

-- How many entries each packet has after a step.
-- packet q, of which seat i says the same as before, has as many entries
pub same-length : (heads heads' : List ℕ) (hss : List Slots) (i q : ℕ) (hs gs : Slots) → i < length hss → get_or hss i hs ≡ hs → known_length gs q ≡ known_length hs q → slice_index heads' q ≡ slice_index heads q
    → packet_length heads' (set hss i gs) q ≡ packet_length heads hss q
same-length heads heads' hss i q hs gs l is e h = let a = among-set hss i q hs gs l (e ∙ ap (λ (x : Slots). known_length x q) (sym is)) in rw (a, h) refl

-- packet p, of which seat i now says that it is n long, is so
pub new-length : (sh : Shape) (heads heads' pools : List ℕ) (hss : List Slots) (i p n : ℕ) (b : Bool) (hs : Slots) → Holding sh heads pools hss i hs → p < sh.packets → holds hs p ≡ true → packet_length heads' (set hss i (set_length hs p n b)) p ≡ n
new-length sh heads heads' pools hss i p n b hs k hp h =
    let gs : Slots = set_length hs p n b in
    let one = held-alone sh heads pools hss i p hs k hp h in
    let held : holds gs p ≡ true = holds-set_same hs p n b ∙ h in
    let count : holder_count (set hss i gs) p ≤ 1 = omega (arith, holders-set hss i p hs gs k.seat k.is, one.1, ap bit h, ap bit held) in
    let long : i < length (set hss i gs) = rw length-set k.seat in
    let mine : known_length (get_or (set hss i gs) i gs) p ≡ Some n = rw (get_or-set_same hss i gs gs k.seat) (known-set_same hs p n b h) in
    rw (known-among (set hss i gs) i p n gs long mine count) refl

some_or : (o : Option ℕ) (d : ℕ) → is_some o ≡ true → unwrap_or o d ≡ unwrap_or o 0
some_or None d e = absurd (false≢true e)
some_or (Some n) d e = refl

none_or : (o : Option ℕ) (d : ℕ) → is_some o ≡ false → unwrap_or o d ≡ d
none_or None d e = refl
none_or (Some n) d e = absurd (true≢false e)

-- the length of a packet whose length the seat knows, and of one whose length it doesn't know
pub known-length : (sh : Shape) (heads pools : List ℕ) (hss : List Slots) (i p : ℕ) (hs : Slots) → Holding sh heads pools hss i hs → p < sh.packets → holds hs p ≡ true → has_length hs p ≡ true → packet_length heads hss p ≡ length_in_hand hs p
known-length sh heads pools hss i p hs k hp h e = rw (held-length sh heads pools hss i p hs k hp h) (some_or (known_length hs p) (slice_index heads p) e)

pub unread-length : (sh : Shape) (heads pools : List ℕ) (hss : List Slots) (i p : ℕ) (hs : Slots) → Holding sh heads pools hss i hs → p < sh.packets → holds hs p ≡ true → has_length hs p ≡ false → packet_length heads hss p ≡ slice_index heads p
unread-length sh heads pools hss i p hs k hp h e = rw (held-length sh heads pools hss i p hs k hp h) (none_or (known_length hs p) (slice_index heads p) e)

pub entry-known : (hs : Slots) (p : ℕ) → has_entry hs p ≡ true → has_length hs p ≡ true
entry-known hs p e = some-positive (known_length hs p) e

-- 2: a packet that is taken, or isn't there any more
pub taken-length : (heads : List ℕ) (hss : List Slots) (i p q : ℕ) (b : Bool) (hs : Slots) → i < length hss → get_or hss i hs ≡ hs → holds hs p ≡ false → packet_length heads (set hss i (cond b (put_packet hs p) hs)) q ≡ packet_length heads hss q
taken-length heads hss i p q false hs l is n = same-length heads heads hss i q hs hs l is refl refl
taken-length heads hss i p q true hs l is n =
    same-length heads heads hss i q hs (put_packet hs p) l is
    (⊎_elim
    (λ (e : q ≡ p). rw e (known-put_same hs p n ∙ sym (unheld-unknown hs p n)))
    (λ (d : q ≡ p → ⊥). (put-other hs p q d).known_same)
    (cases_eq q p))
    refl

-- 3: a packet that is given back with its length in its head
pub given-length : (sh : Shape) (heads pools : List ℕ) (hss : List Slots) (i p q : ℕ) (hs : Slots) → Holding sh heads pools hss i hs → p < sh.packets → holds hs p ≡ true → has_length hs p ≡ true → slice_index heads p ≡ length_in_hand hs p
    → packet_length heads (set hss i (drop_packet hs p)) q ≡ packet_length heads hss q
given-length sh heads pools hss i p q hs k hp h e head =
    let gs : Slots = drop_packet hs p in
    ⊎_elim
    (λ (s : q ≡ p).
    let one = held-alone sh heads pools hss i p hs k hp h in
    let none : holder_count (set hss i gs) p ≡ 0 = omega (arith, holders-set hss i p hs gs k.seat k.is, one.1, ap bit h, ap bit (holds-drop_same hs p)) in
    let now : packet_length heads (set hss i gs) p ≡ slice_index heads p = rw (among-unheld (set hss i gs) p none) refl in
    rw s (now ∙ (head ∙ sym (known-length sh heads pools hss i p hs k hp h e))))
    (λ (d : q ≡ p → ⊥). same-length heads heads hss i q hs gs k.seat k.is (drop-other hs p q d).known_same refl)
    (cases_eq q p)

-- 41, 42: a packet of which the seat says its length anew
pub set-length : (sh : Shape) (heads heads' pools : List ℕ) (hss : List Slots) (i p n q : ℕ) (b : Bool) (hs : Slots) → Holding sh heads pools hss i hs → p < sh.packets → holds hs p ≡ true → (q ≢ p → slice_index heads' q ≡ slice_index heads q) → n ≡ packet_length heads hss p
    → packet_length heads' (set hss i (set_length hs p n b)) q ≡ packet_length heads hss q
set-length sh heads heads' pools hss i p n q b hs k hp h others same =
    ⊎_elim
    (λ (s : q ≡ p). rw s (new-length sh heads heads' pools hss i p n b hs k hp h ∙ same))
    (λ (d : q ≡ p → ⊥). same-length heads heads' hss i q hs (set_length hs p n b) k.seat k.is (set-other hs p n b q d).known_same (others d))
    (cases_eq q p)

-- what the seat holds
pub held-by : (c : Core) (i : ℕ) (s : SeatState) → IsCore c → slice_get c.seats i ≡ Some s → Holding c.shape (words_of c.shape c.words).heads (words_of c.shape c.words).pools (hands c.seats) i s.held
held-by c i s k g =
    let h : i < length c.seats = slice_get_within c.seats i s g in
    record {
      rule = k.sound.pools;
      seat = rw length-map h;
      is = get_or-map (λ (t : SeatState). t.held) c.seats i s s.held h ∙ ap (λ (t : SeatState). t.held) (get_or_from_slice_get c.seats i s s g);
    }

-- a hand with no packet
abbrev nothing : Slots
nothing = None ∷ None ∷ None ∷ None ∷ []

-- the lengths of packets when one seat is replaced
pub lengths-set : (heads : List ℕ) (seats : List SeatState) (i q n : ℕ) (t : SeatState) → packet_length heads (set (hands seats) i t.held) q ≡ n → packet_length heads (hands (set seats i t)) q ≡ n
lengths-set heads seats i q n t e = subst (λ (hss : List Slots). packet_length heads hss q ≡ n) (sym (map-set (λ (x : SeatState). x.held) seats i t)) e

-- what the holder of packet p knows of it
pub held-packet : (sh : Shape) (p : ℕ) (b : Bool) → (nat_lt p sh.packets && b) ≡ true → (p < sh.packets) × (b ≡ true)
held-packet sh p b e = let a = and_parts (nat_lt p sh.packets) b e in (ltb-true p sh.packets a.0, a.1)

-- the packet that is pushed on exists, is held, and has room
pub pushed-packet : (sh : Shape) (p x n : ℕ) (h b : Bool) → (nat_lt p sh.packets && nat_lt x sh.cells && h) ≡ true → (b && nat_lt n sh.entries) ≡ true → (p < sh.packets) × (h ≡ true) × (b ≡ true) × (n < sh.entries)
pushed-packet sh p x n h b e f =
    let q = and_parts (nat_lt p sh.packets && nat_lt x sh.cells) h e in
    let r = and_parts b (nat_lt n sh.entries) f in
    (ltb-true p sh.packets (and_parts (nat_lt p sh.packets) (nat_lt x sh.cells) q.0).0, q.1, r.0, ltb-true n sh.entries r.1)

-- a push, by the lengths before and after
pub pushes-on : (c : Core) (i : ℕ) (s : SeatState) (p x : ℕ) → IsCore c → slice_get c.seats i ≡ Some s → AllTrue (parts c.shape (words_of c.shape c.words) c.seats s (Push p x))
    → Pushes c.shape (words_of c.shape c.words).heads (words_of c.shape c.words).entries (hands c.seats) (hands (seats_left c i s (Push p x))) p (length_in_hand s.held p)
pushes-on c i s p x k g ok =
    let sh : Shape = c.shape in
    let w : Words = words_of sh c.words in
    let hss : List Slots = hands c.seats in
    let n : ℕ = length_in_hand s.held p in
    let gs : Slots = set_length s.held p (n + 1) false in
    let h = held-by c i s k g in
    let a = pushed-packet sh p x n (holds s.held p) (has_length s.held p) ok.0 ok.1.0 in
    let t : SeatState = seat_after sh s (Push p x) (found c s (Push p x)) in
    let long : length w.entries ≡ sh.packets * sh.entries = region-length (region_sizes sh) 8 c.words (omega (arith, k.formed.words)) in
    record {
      before = known-length sh w.heads w.pools hss i p s.held h a.0 a.1 a.2;
      after = lengths-set w.heads c.seats i p (n + 1) t (new-length sh w.heads w.heads w.pools hss i p (n + 1) false s.held h a.0 a.1);
      others = λ q d. lengths-set w.heads c.seats i q (packet_length w.heads hss q) t (same-length w.heads w.heads hss i q s.held gs h.seat h.is (set-other s.held p (n + 1) false q d).known_same refl);
      rooms = k.sound.pools.rooms;
      room = a.3;
      place = rw long (placed sh w c.seats s (Push p x) (in_range c i s k g) ok);
    }

-- a pop takes the last entry
pub record Pops (sh : Shape) (heads entries : List ℕ) (hss gss : List Slots) (p n old : ℕ) : Type 0 where
  pub packet : p < sh.packets
  pub some : 0 < n
  pub before : packet_length heads hss p ≡ n
  pub after : packet_length heads gss p ≡ n - 1
  pub others : (q : ℕ) → q ≢ p → packet_length heads gss q ≡ packet_length heads hss q
  pub word : old ≡ entry sh entries p (n - 1)

pub pops-off : (c : Core) (i : ℕ) (s : SeatState) (p : ℕ) → IsCore c → slice_get c.seats i ≡ Some s → AllTrue (parts c.shape (words_of c.shape c.words) c.seats s (Pop p))
    → Pops c.shape (words_of c.shape c.words).heads (words_of c.shape c.words).entries (hands c.seats) (hands (seats_left c i s (Pop p))) p (length_in_hand s.held p) (found c s (Pop p))
pops-off c i s p k g ok =
    let sh : Shape = c.shape in
    let w : Words = words_of sh c.words in
    let hss : List Slots = hands c.seats in
    let n : ℕ = length_in_hand s.held p in
    let gs : Slots = set_length s.held p (n - 1) false in
    let h = held-by c i s k g in
    let a = held-packet sh p (holds s.held p) ok.0 in
    let t : SeatState = seat_after sh s (Pop p) (found c s (Pop p)) in
    record {
      packet = a.0;
      some = positive n (not-true (eqb n 0) ok.1.0);
      before = known-length sh w.heads w.pools hss i p s.held h a.0 a.1 (entry-known s.held p ok.1.0);
      after = lengths-set w.heads c.seats i p (n - 1) t (new-length sh w.heads w.heads w.pools hss i p (n - 1) false s.held h a.0 a.1);
      others = λ q d. lengths-set w.heads c.seats i q (packet_length w.heads hss q) t (same-length w.heads w.heads hss i q s.held gs h.seat h.is (set-other s.held p (n - 1) false q d).known_same refl);
      word = found-word c i s (Pop p) k g ok;
    }

nothing_known : (sh : Shape) (o : SeatState) (q : ℕ) → has_nothing sh o ≡ true → known_length o.held q ≡ None
nothing_known sh o q e = unheld-unknown o.held q (none-held o.held q (lacks-from sh o e).held)

-- 32: a seat that holds nothing ends
joined : (sh : Shape) (heads : List ℕ) (seats : List SeatState) (j q : ℕ) (o : Option SeatState) → slice_get seats j ≡ o → other_has_nothing sh o ≡ true → packet_length heads (hands (set seats j (spent_seat sh j))) q ≡ packet_length heads (hands seats) q
joined sh heads seats j q None g e = absurd (false≢true e)
joined sh heads seats j q (Some o) g e =
    let h : j < length seats = slice_get_within seats j o g in
    let at : get_or (hands seats) j o.held ≡ o.held = get_or-map (λ (t : SeatState). t.held) seats j o o.held h ∙ ap (λ (t : SeatState). t.held) (get_or_from_slice_get seats j o o g) in
    lengths-set heads seats j q (packet_length heads (hands seats) q) (spent_seat sh j)
    (same-length heads heads (hands seats) j q o.held (spent_seat sh j).held (rw length-map h) at (sym (nothing_known sh o q e)) refl)

-- a packet whose length the seat sets to what it was
reset_length : (c : Core) (i p n q : ℕ) (s t : SeatState) (b : Bool) (heads' : List ℕ) → IsCore c → slice_get c.seats i ≡ Some s → p < c.shape.packets → holds s.held p ≡ true → t.held ≡ set_length s.held p n b
    → (q ≢ p → slice_index heads' q ≡ slice_index (words_of c.shape c.words).heads q) → n ≡ packet_length (words_of c.shape c.words).heads (hands c.seats) p
    → packet_length heads' (hands (set c.seats i t)) q ≡ packet_length (words_of c.shape c.words).heads (hands c.seats) q
reset_length c i p n q s t b heads' k g hp h e others same =
    let w : Words = words_of c.shape c.words in
    lengths-set heads' c.seats i q (packet_length w.heads (hands c.seats) q) t (rw e (set-length c.shape w.heads heads' w.pools (hands c.seats) i p n q b s.held (held-by c i s k g) hp h others same))

-- the step makes a packet longer or shorter
abbrev pub fills : Step → Bool
fills (Push p x) = true
fills (Pop p) = true
fills step = false

-- each other step leaves the lengths of packets
pub lengths-stay : (c : Core) (i : ℕ) (s : SeatState) (step : Step) → IsCore c → slice_get c.seats i ≡ Some s → AllTrue (parts c.shape (words_of c.shape c.words) c.seats s step) → fills step ≡ false
    → (q : ℕ) → packet_length (words_left c s step).heads (hands (seats_left c i s step)) q ≡ packet_length (words_of c.shape c.words).heads (hands c.seats) q
lengths-stay c i s (Push p x) k g ok f q = absurd (true≢false f)
lengths-stay c i s (Pop p) k g ok f q = absurd (true≢false f)
lengths-stay c i s (Take d p) k g ok f q =
    let heads : List ℕ = (words_of c.shape c.words).heads in
    let h = held-by c i s k g in
    let old : ℕ = found c s (Take d p) in
    lengths-set heads c.seats i q (packet_length heads (hands c.seats) q) (seat_after c.shape s (Take d p) old) (taken-length heads (hands c.seats) i p q (has_bit old (p % 64)) s.held h.seat h.is (not-true _ ok.1.0))
lengths-stay c i s (Give p d) k g ok f q =
    let sh : Shape = c.shape in
    let w : Words = words_of sh c.words in
    let first = held-packet sh p (holds s.held p) ok.0 in
    let known = (and_parts (has_length s.held p) _ ok.1.0).0 in
    let agree : HeadsAgree sh w.heads s = at-seat (HeadsAgree sh w.heads) c i s g k.sound.counts.heads_agree in
    lengths-set w.heads c.seats i q (packet_length w.heads (hands c.seats) q) (seat_after sh s (Give p d) (found c s (Give p d)))
    (given-length sh w.heads w.pools (hands c.seats) i p q s.held (held-by c i s k g) first.0 first.1 known (agree p first.0 ok.1.1.1.1.0 known))
lengths-stay c i s (StoreLength p) k g ok f q =
    let sh : Shape = c.shape in
    let w : Words = words_of sh c.words in
    let n : ℕ = length_in_hand s.held p in
    let first = held-packet sh p (holds s.held p) ok.0 in
    let before : packet_length w.heads (hands c.seats) p ≡ n = known-length sh w.heads w.pools (hands c.seats) i p s.held (held-by c i s k g) first.0 first.1 ok.1.0 in
    reset_length c i p n q s (seat_after sh s (StoreLength p) (found c s (StoreLength p))) true (set w.heads p n) k g first.0 first.1 refl (λ d. get_or-set_other w.heads p q n 0 d) (sym before)
lengths-stay c i s (ReadLength p) k g ok f q =
    let sh : Shape = c.shape in
    let w : Words = words_of sh c.words in
    let old : ℕ = found c s (ReadLength p) in
    let first = held-packet sh p (holds s.held p) ok.0 in
    let here : old ≡ get_or w.heads p 0 = found-word c i s (ReadLength p) k g ok in
    let before : packet_length w.heads (hands c.seats) p ≡ get_or w.heads p 0 = unread-length sh w.heads w.pools (hands c.seats) i p s.held (held-by c i s k g) first.0 first.1 (not-true _ ok.1.0) in
    let same : reference_in old ≡ old = whole-length old sh.entries (omega (arith, here, before, k.sound.pools.rooms p first.0)) k.formed.shaped.entries.1 in
    let back : set w.heads p old ≡ w.heads = rw here (set-get_or w.heads p 0) in
    let t : SeatState = seat_after sh s (ReadLength p) old in
    subst (λ (heads : List ℕ). packet_length heads (hands (set c.seats i t)) q ≡ packet_length w.heads (hands c.seats) q) (sym back) (reset_length c i p (reference_in old) q s t true w.heads k g first.0 first.1 refl (λ d. refl) (same ∙ (here ∙ sym before)))
lengths-stay c i s Split k g ok f q =
    let back : set c.seats i s ≡ c.seats = subst (λ (t : SeatState). set c.seats i t ≡ c.seats) (get_or_from_slice_get c.seats i s s g) (set-get_or c.seats i s) in
    let none : length_among (hands c.seats ++ nothing ∷ []) q ≡ length_among (hands c.seats) q = among-push (hands c.seats) nothing q refl in
    rw back (rw map_push (rw none refl))
lengths-stay c i s (Join other) k g ok f q =
    let sh : Shape = c.shape in
    let back : set c.seats i s ≡ c.seats = subst (λ (t : SeatState). set c.seats i t ≡ c.seats) (get_or_from_slice_get c.seats i s s g) (set-get_or c.seats i s) in
    rw back (joined sh (words_of sh c.words).heads c.seats other q (slice_get c.seats other) refl (and_parts (has_nothing sh s) _ ok.1.0).1)
lengths-stay c i s step k g ok f q =
    let sh : Shape = c.shape in
    let w : Words = words_of sh c.words in
    let old : ℕ = found c s step in
    let t : SeatState = seat_after sh s step old in
    let same : hands (set c.seats i t) ≡ hands c.seats = projection-kept held_of c.seats i s t (slice_get_within c.seats i s g) (get_or_from_slice_get c.seats i s s g) (held-kept sh s step old refl) in
    rw (heads-kept sh s step (written sh s step old) w refl, same) refl

-- no step but a push changes an entry
pub entries-stay : (c : Core) (i : ℕ) (s : SeatState) (step : Step) → IsCore c → slice_get c.seats i ≡ Some s → AllTrue (parts c.shape (words_of c.shape c.words) c.seats s step) → fills step ≡ false → (words_left c s step).entries ≡ (words_of c.shape c.words).entries
entries-stay c i s (Push p x) k g ok f = absurd (true≢false f)
entries-stay c i s (Pop p) k g ok f = absurd (true≢false f)
entries-stay c i s step k g ok f = entries-kept c.shape s step (written c.shape s step (found c s step)) (words_of c.shape c.words) refl

pub popped-back : (c : Core) (i : ℕ) (s : SeatState) (p : ℕ) → IsCore c → slice_get c.seats i ≡ Some s → AllTrue (parts c.shape (words_of c.shape c.words) c.seats s (Pop p)) → (words_left c s (Pop p)).entries ≡ (words_of c.shape c.words).entries
popped-back c i s p k g ok =
    let w : Words = words_of c.shape c.words in
    let at : ℕ = p * c.shape.entries + (length_in_hand s.held p - 1) in
    subst (λ (v : ℕ). set w.entries at v ≡ w.entries) (sym (found-word c i s (Pop p) k g ok)) (set-get_or w.entries at 0)

-- a cell that is pushed is of this kind
abbrev pub IsPushed : (ℕ → Bool) → Step → Type 0
IsPushed m (Push p x) = m x ≡ true
IsPushed m step = Unit {0}

-- the entries after a step
pub entries-after : (c : Core) (i : ℕ) (s : SeatState) (step : Step) → IsCore c → slice_get c.seats i ≡ Some s → AllTrue (parts c.shape (words_of c.shape c.words) c.seats s step) → (m : ℕ → Bool) → IsPushed m step
    → EntriesGo c.shape m (words_of c.shape c.words).heads (words_of c.shape c.words).entries (hands c.seats)
    → EntriesGo c.shape m (words_left c s step).heads (words_left c s step).entries (hands (seats_left c i s step))
entries-after c i s (Push p x) k g ok m u a =
    let w : Words = words_of c.shape c.words in
    entries-pushed c.shape m w.heads w.entries (hands c.seats) (hands (seats_left c i s (Push p x))) p (length_in_hand s.held p) x (pushes-on c i s p x k g ok) u a
entries-after c i s (Pop p) k g ok m u a =
    let w : Words = words_of c.shape c.words in
    let o = pops-off c i s p k g ok in
    rw (popped-back c i s p k g ok)
    (entries-fewer c.shape m w.heads w.heads w.entries (hands c.seats) (hands (seats_left c i s (Pop p)))
    (λ q h. ⊎_elim (λ (e : q ≡ p). rw e (omega (arith, o.before, o.after))) (λ (d : q ≡ p → ⊥). omega (arith, o.others q d)) (cases_eq q p)) a)
entries-after c i s step k g ok m u a =
    let w : Words = words_of c.shape c.words in
    rw (entries-stay c i s step k g ok refl) (entries-fewer c.shape m w.heads (words_left c s step).heads w.entries (hands c.seats) (hands (seats_left c i s step)) (λ q h. omega (arith, lengths-stay c i s step k g ok refl q)) a)
