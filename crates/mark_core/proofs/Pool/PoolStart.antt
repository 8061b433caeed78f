-- The state in which nothing has happened meets the rules of packets.
use Rattle.std.proofs.Common.{ℕ, ◌≡◌, ◌+◌, ◌-◌, ◌*◌, ◌/◌, ◌%◌, ◌<◌, ◌≤◌, zero, suc, List, [], ◌∷◌, ◌++◌, ◌&&◌, append_assoc, replicate, get_or, length, arith, refl, sym, ap, ◌∙◌, Bool, true, false, min}
use Rattle.std.specs.Prelude.{IsTrue, IsFalse, slice_index}
use Rattle.std.specs.List.{All, count_by, range_with_len}
use Rattle.std.proofs.lemmas.Bool.{true≢false, false≢true, eq-eqb, ne_eqb}
use Rattle.std.proofs.lemmas.Nat.Bits.{bit_at_ones, bit_at_ones_above}
use Rattle.std.proofs.lemmas.List.{get_or-append_right, get_or_append_left, get_or-replicate, length-replicate}
use Rattle.std.proofs.lemmas.List.Elements.{All-map}
use Rattle.std.proofs.lemmas.List.FromFn.{length-map-range_with_len, get_or-map-range_with_len}
use Rattle.mark_core.specs.Layout.{Words, words_of, address, region_base, region_sizes, pool_words}
use Rattle.mark_core.specs.Places.{pool_at}
use Rattle.mark_core.specs.Bits.{has_bit}
use Rattle.mark_core.specs.Held.{Slots, holds, holds_any}
use Rattle.mark_core.specs.Seats.{work_in_hand}
use Rattle.mark_core.specs.Views.{hands}
use Rattle.mark_core.specs.Cells.{in_pool, pool_count, holder_count, empty_packets}
use Rattle.mark_core.specs.Start.{start_seat, start_seats, start_words, full_pool, packet_bits}
use Rattle.mark_core.specs.Rules.PacketRules.{HeadsAgree, NoStrays, has_reservation, has_credit}
use Rattle.mark_core.specs.Laws.{StartMeetsPackets}
use Rattle.mark_core.proofs.Writing.Places.{words-get}
use Rattle.mark_core.proofs.Count.CountMoves.{bit, count-cons, count-none, count-same}
use Rattle.mark_core.proofs.Pool.PoolPlaces.{among-unheld}
use Rattle.mark_core.proofs.Writing.CellBits.{no-bit}
use Rattle.mark_core.proofs.Writing.Ranges.{word-below, in-row}
use Rattle.mark_core.specs.declared.kinds.Shape.{Shape}
use Rattle.mark_core.specs.declared.seat.SeatState.{SeatState}

count_all : (a n : ℕ) → count_by (λ (x : ℕ). true) (range_with_len a n) ≡ n
count_all a zero = refl
count_all a (suc n) = omega (arith, count-cons (λ (x : ℕ). true) a (range_with_len (a + 1) n), count_all (a + 1) n)

-- the words before the pools that aren't single
abbrev pub gap : Shape → ℕ
gap sh = address sh (pool_at sh 0 0) - 11

abbrev pub singles : Shape → List ℕ
singles sh = 0 ∷ 0 ∷ (64 + sh.packets) ∷ 0 ∷ 0 ∷ 0 ∷ 0 ∷ 0 ∷ 0 ∷ sh.cells ∷ 0 ∷ []

-- a word among the first n after a words
pub in-gap : (xs bs cs : List ℕ) (a n j : ℕ) → length xs ≡ a → a ≤ j → j < a + n → get_or (xs ++ (replicate n 0 ++ bs ++ cs)) j 0 ≡ 0
in-gap xs bs cs a n j l h g =
    let within : j - a < length (replicate {A = ℕ} n 0) = rw length-replicate (omega (arith, h, g)) in
    get_or-append_right xs (replicate n 0 ++ bs ++ cs) a j 0 l h
    ∙ (ap (λ (ys : List ℕ). get_or ys (j - a) 0) (append_assoc (replicate n 0) bs cs) ∙ (get_or_append_left (replicate n 0) (bs ++ cs) 0 (j - a) within ∙ get_or-replicate n (j - a) 0 0 (omega (arith, h, g))))

-- a word past them
pub past-gap : (xs bs cs : List ℕ) (a n j k : ℕ) → length xs ≡ a → j ≡ a + n + k → get_or (xs ++ (replicate n 0 ++ bs ++ cs)) j 0 ≡ get_or (bs ++ cs) k 0
past-gap xs bs cs a n j k l e =
    let first = get_or-append_right xs (replicate n 0 ++ bs ++ cs) a j 0 l (omega (arith, e)) in
    let second = get_or-append_right (replicate n 0) (bs ++ cs) n (j - a) 0 (length-replicate n 0) (omega (arith, e)) in
    let at : j - a - n ≡ k = omega (arith, e) in
    first ∙ (ap (λ (ys : List ℕ). get_or ys (j - a) 0) (append_assoc (replicate n 0) bs cs) ∙ (second ∙ ap (λ (i : ℕ). get_or (bs ++ cs) i 0) at))

-- the words after the pools
abbrev pub tail_words : Shape → List ℕ
tail_words sh = replicate (3 * pool_words sh + 2) 0

-- a head is nil
pub no-head : (sh : Shape) (p : ℕ) → p < sh.packets → slice_index (words_of sh (start_words sh)).heads p ≡ 0
no-head sh p h =
    sym (words-get (region_sizes sh) 7 (start_words sh) p 0 h)
    ∙ in-gap (singles sh) (full_pool sh) (tail_words sh) 11 (gap sh) (region_base (region_sizes sh) 7 + p) refl (omega arith) (omega (arith, h))

-- a word of the pools
pool_word : (sh : Shape) (k : ℕ) → k < 4 * pool_words sh → slice_index (words_of sh (start_words sh)).pools k ≡ slice_index (full_pool sh ++ tail_words sh) k
pool_word sh k h =
    sym (words-get (region_sizes sh) 12 (start_words sh) k 0 h)
    ∙ past-gap (singles sh) (full_pool sh) (tail_words sh) 11 (gap sh) (region_base (region_sizes sh) 12 + k) k refl (omega arith)

-- the bit of a packet in its word of the empty pool
own_bit : (n p : ℕ) → p < n → has_bit (packet_bits n (p / 64)) (p % 64) ≡ true
own_bit n p h = eq-eqb _ _ (bit_at_ones (min 64 (n - 64 * (p / 64))) (p % 64) (omega (arith, h)))

-- the word of the empty pool in which the packet's bit stands
own_word : (sh : Shape) (p : ℕ) → p / 64 < pool_words sh → slice_index (words_of sh (start_words sh)).pools (0 * pool_words sh + p / 64) ≡ packet_bits sh.packets (p / 64)
own_word sh p h =
    let g : ℕ = 0 * pool_words sh + p / 64 in
    let below : g < pool_words sh = omega (arith, h) in
    let long : length (full_pool sh) ≡ pool_words sh = length-map-range_with_len (packet_bits sh.packets) 0 (pool_words sh) in
    pool_word sh g (omega (arith, below))
    ∙ (get_or_append_left (full_pool sh) (tail_words sh) 0 g (omega (arith, long, below)) ∙ get_or-map-range_with_len (packet_bits sh.packets) 0 (pool_words sh) g (p / 64) 0 below (omega arith))

-- each packet is in the empty pool
starts_in : (sh : Shape) (p : ℕ) → p < sh.packets → in_pool sh (words_of sh (start_words sh)).pools 0 p ≡ true
starts_in sh p h = ap (λ (w : ℕ). has_bit w (p % 64)) (own_word sh p (word-below sh p h)) ∙ own_bit sh.packets p h

-- the word of the empty pool has no bit past the packets
past_bit : (n p : ℕ) → n ≤ p → has_bit (packet_bits n (p / 64)) (p % 64) ≡ false
past_bit n p h = ne_eqb _ _ (λ e. omega (arith, bit_at_ones_above (min 64 (n - 64 * (p / 64))) (p % 64) (omega (arith, h)), e))

-- a packet whose bit the words have is in no other pool
out_by : (sh : Shape) (q p : ℕ) → 0 < q → q < 4 → p / 64 < pool_words sh → in_pool sh (words_of sh (start_words sh)).pools q p ≡ false
out_by sh q p hq h4 h =
    let w : ℕ = pool_words sh in
    let g : ℕ = q * w + p / 64 in
    let first : w ≤ g = grind arith in
    let last : g < 4 * w = in-row q 4 w (p / 64) h4 h in
    let long : length (full_pool sh) ≡ w = length-map-range_with_len (packet_bits sh.packets) 0 w in
    let word : slice_index (words_of sh (start_words sh)).pools g ≡ 0 =
    pool_word sh g last ∙ (get_or-append_right (full_pool sh) (tail_words sh) w g 0 long first ∙ get_or-replicate (3 * w + 2) (g - w) 0 0 (omega (arith, first, last))) in
    ap (λ (v : ℕ). has_bit v (p % 64)) word ∙ no-bit (p % 64)

starts_out : (sh : Shape) (q p : ℕ) → 0 < q → q < 4 → p < sh.packets → in_pool sh (words_of sh (start_words sh)).pools q p ≡ false
starts_out sh q p hq h4 h = out_by sh q p hq h4 (word-below sh p h)

-- no pool has a packet that doesn't exist
starts_past : (sh : Shape) → NoStrays sh (words_of sh (start_words sh)).pools
starts_past sh zero p h4 n l = ap (λ (w : ℕ). has_bit w (p % 64)) (own_word sh p (omega (arith, l))) ∙ past_bit sh.packets p n
starts_past sh (suc q) p h4 n l = out_by sh (suc q) p (omega arith) h4 (omega (arith, l))

starts_once : (sh : Shape) (p : ℕ) → p < sh.packets → pool_count sh (words_of sh (start_words sh)).pools p ≡ 1
starts_once sh p h =
    omega (arith, ap bit (starts_in sh p h), ap bit (starts_out sh 1 p (omega arith) (omega arith) h), ap bit (starts_out sh 2 p (omega arith) (omega arith) h), ap bit (starts_out sh 3 p (omega arith) (omega arith) h))

-- what holds of each new seat
pub each-seat : (P : SeatState → Type 0) (sh : Shape) (n : ℕ) → ((k : ℕ) → P (start_seat sh k)) → All P (start_seats sh n)
each-seat P sh n h = All-map P (start_seat sh) (range_with_len 0 n) (λ k d l. h (get_or (range_with_len 0 n) k d))

nobody : (sh : Shape) (n p : ℕ) → holder_count (hands (start_seats sh n)) p ≡ 0
nobody sh n p =
    count-none (λ (h : Slots). holds h p) (hands (start_seats sh n)) (All-map (λ (h : Slots). holds h p ≡ false) (λ (s : SeatState). s.held) (start_seats sh n) (each-seat (λ (s : SeatState). holds s.held p ≡ false) sh n (λ k. refl)))

never_in : (P : Type 0) (b : Bool) → b ≡ false → IsTrue b → P
never_in P b e f = absurd (true≢false (sym f ∙ e))

pub start : StartMeetsPackets
start sh n z =
    let w : Words = words_of sh (start_words sh) in
    let seats : List SeatState = start_seats sh n in
    let all : empty_packets sh w.pools ≡ sh.packets = count-same (λ (x : ℕ). true) (in_pool sh w.pools 0) 0 sh.packets (λ x l h. starts_in sh x (omega (arith, h))) ∙ count_all 0 sh.packets in
    let none = λ (P : SeatState → Bool) (h : (k : ℕ) → P (start_seat sh k) ≡ false). count-none P seats (each-seat (λ (s : SeatState). P s ≡ false) sh n h) in
    record {
      pools =
          record {
            one_place = λ p h. omega (arith, starts_once sh p h, nobody sh n p);
            empty_pool = λ p h e. no-head sh p h;
            low_pool = λ p h. never_in _ _ (starts_out sh 1 p (omega arith) (omega arith) h);
            high_pool = λ p h. never_in _ _ (starts_out sh 2 p (omega arith) (omega arith) h);
            no_strays = starts_past sh;
            deferred_pool = λ p h. never_in _ _ (starts_out sh 3 p (omega arith) (omega arith) h);
            rooms = λ p h. rw (among-unheld (hands seats) p (nobody sh n p)) (omega (arith, no-head sh p h));
          };
      counts =
          record {
            counted = omega (arith, all, none has_reservation (λ k. refl), none has_credit (λ k. refl));
            one_debt = each-seat (λ (s : SeatState). IsFalse (s.reserved && s.credit)) sh n (λ k. refl);
            heads_agree = each-seat (HeadsAgree sh w.heads) sh n (λ k p h e. absurd (false≢true e));
            work_holds = each-seat (λ (s : SeatState). IsTrue (work_in_hand sh.fields s) → IsTrue (holds_any s.held)) sh n (λ k e. absurd (false≢true e));
          };
    }
