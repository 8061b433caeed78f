-- The search of one word of a pool, packet by packet.
use Rattle.std.proofs.Common.{ℕ, ◌≡◌, ◌<◌, ◌≤◌, ◌+◌, ◌*◌, ◌/◌, ◌%◌, List, [], ◌∷◌, ◌++◌, length, arith, refl, sym, ap, ◌∙◌, subst, ⊎_elim, Bool, true, false, eq-eqb}
use Rattle.std.specs.Prelude.{IsTrue, IsFalse, Some, slice_index, ◌==◌, ◌-◌, ◌^◌}
use Rattle.std.proofs.lemmas.Bool.{cases_lt, true≢false, false≢true, and_from, or_left, not_from_false, false_from_ne_true}
use Rattle.std.specs.Int.{trailing_zeros}
use mir.Syntax.{w64}
use Rattle.std.proofs.lemmas.Nat.{trailing_le}
use Rattle.std.proofs.lemmas.Nat.Bits.{bit_at-trailing_zeros, bit_at-zero}
use Rattle.std.proofs.lemmas.List.{get_or-map, length-map}
use Rattle.std.proofs.lemmas.Option.{slice_get_within, get_or_from_slice_get}
use Rattle.mark_core.specs.Bits.{has_bit}
use Rattle.mark_core.specs.Held.{holds, has_free_slot}
use Rattle.mark_core.specs.Cells.{in_pool, pool_count, holder_count}
use Rattle.mark_core.specs.Layout.{words_of, pool_words}
use Rattle.mark_core.specs.Numbers.{pools_in_all, word_bits}
use Rattle.mark_core.specs.Views.{hands}
use Rattle.mark_core.specs.Steps.{Core}
use Rattle.mark_core.specs.declared.kinds.Shape.{Shape}
use Rattle.mark_core.specs.declared.kinds.Step.TheVariants.{Look}
use Rattle.mark_core.specs.declared.seat.SeatState.{SeatState}
use Rattle.mark_core.proofs.Pool.PoolMoves.{held-alone}
use Rattle.mark_core.proofs.Pool.PoolPlaces.{in-no-pool}
use Rattle.gc_table.specs.declared.view.View.{View}
use Rattle.gc_table.specs.Fetching.{is_in_range}
use Rattle.gc_table.specs.Taking.{after, Finds}
use Rattle.gc_table.specs.Seats.{Found}
use Rattle.gc_table.specs.Notes.{look}
use Rattle.mark_core.specs.Places.{pool_at}
use Rattle.packet_pools.proofs.Outside.{look-noted}
use Rattle.packet_pools.specs.declared.held.Held.{Held}
use Rattle.packet_pools.specs.OnlyTraced.{OnlyTraced}
use Rattle.gc_table.specs.Log.{events}
use Rattle.packet_pools.specs.Hands.{with_packet}
use Rattle.packet_pools.specs.Seeking.{gets, gets_from, some_event, shows_outside, seen_outside, was_got, only_moves}
use Rattle.packet_pools.specs.Gains.{Seeks, Gains, MissesPackets, missed}
use Rattle.gc_table.proofs.History.Log.{entry_of, events-after, events-join}
use Rattle.packet_pools.proofs.TracedSteps.{traced-join}
use Rattle.packet_pools.proofs.Conditions.{traces-later}
use Rattle.packet_pools.proofs.Doing.{traced-look}
use Rattle.packet_pools.specs.Tried.{was_filled}
use Rattle.packet_pools.proofs.Tried.{filled-right}
use Rattle.packet_pools.proofs.Searches.{before-left, missed-left, missed-right, some-parts, some-right, ungot, moves-join}

-- a packet that a look found in a pool isn't in the seat's hand
pub shown-unheld : (v : View) (q g n p : ℕ) → Finds (Look q g) n v → q < pools_in_all → p < v.shape.packets → p / word_bits ≡ g → has_bit n (p % word_bits) ≡ true → holds v.state.held p ≡ false
shown-unheld v q g n p f b low here bit = false_from_ne_true (holds v.state.held p) (λ h. true≢false (sym shown ∙ in-no-pool sh pools q p b (alone h).0))
  where
    c : Core
    c = f.state.core

    sh : Shape
    sh = c.shape

    pools : List ℕ
    pools = (words_of sh c.words).pools

    shown : in_pool sh pools q p ≡ true
    shown = ap (λ x. has_bit (slice_index pools (q * pool_words sh + x)) (p % word_bits)) here ∙ (ap (λ x. has_bit x (p % word_bits)) f.word ∙ bit)

    within : f.index < length c.seats
    within = slice_get_within c.seats f.index v.state f.agrees.seat

    alone : holds v.state.held p ≡ true → (pool_count sh pools p ≡ 0) × (holder_count (hands c.seats) p ≡ 1)
    alone h =
        held-alone sh (words_of sh c.words).heads pools (hands c.seats) f.index p v.state.held
        (record {
          rule = f.whole.core.sound.pools;
          seat = rw length-map within;
          is = get_or-map (λ (t : SeatState). t.held) c.seats f.index v.state v.state.held within ∙ ap (λ (t : SeatState). t.held) (get_or_from_slice_get c.seats f.index v.state v.state f.agrees.seat);
        })
        (subst (λ (s : Shape). p < s.packets) f.agrees.shape low)
        h

-- the search goes on
pub seeks-on : (q : ℕ) (v w : View) → OnlyTraced v w → w.state ≡ v.state → Seeks q v → Seeks q w
seeks-on q v w l e k =
    record {
      may = traces-later v w l k.may;
      pool = k.pool;
      reserved = ap (λ (s : SeatState). s.reserved) e ∙ k.reserved;
      uncredited = ap (λ (s : SeatState). s.credit) e ∙ k.uncredited;
      free = ap (λ (s : SeatState). has_free_slot s.held) e ∙ k.free;
    }

-- what is taken later in a call
pub gains-from : (q : ℕ) (not_full : Bool) (h : Held) (v w u : View) → OnlyTraced v w → OnlyTraced w u → w.state ≡ v.state → only_moves (q ∷ []) (events v w) ≡ true → Gains q not_full h w u → Gains q not_full h v u
gains-from q not_full h v w u a b e before g =
    record {
      unheld = ap (λ (s : SeatState). holds s.held h.packet) (sym e) ∙ g.unheld;
      held = g.held;
      state = g.state ∙ ap (λ (s : SeatState). record s { held = with_packet s.held h.packet h.length; reserved = false }) e;
      range = ap (λ (s : Shape). is_in_range s q h.length) (sym a.shape) ∙ g.range;
      roomy = λ r. subst (λ (s : Shape). h.length < s.entries) a.shape (g.roomy r);
      got = ap (some_event (gets_from q h.packet)) (events-join v w u a.log b.log) ∙ some-right (gets_from q h.packet) (events v w) (events w u) g.got;
      read = ap (was_filled h.length h.packet) (events-join v w u a.log b.log) ∙ filled-right h.packet h.length (events v w) (events w u) g.read;
      moves = ap (only_moves (q ∷ [])) (events-join v w u a.log b.log) ∙ moves-join (q ∷ []) (events v w) (events w u) before g.moves;
    }

-- so far in word g of pool q
pub record WordSeeks (sh : Shape) (q : ℕ) (not_full : Bool) (g word p : ℕ) (v w : View) : Type 0 where
  pub only : OnlyTraced v w
  pub state : w.state ≡ v.state
  pub misses : MissesPackets sh q not_full (word_bits * g) p (events v w)
  pub shown : (x : ℕ) → x / word_bits ≡ g → has_bit word (x % word_bits) ≡ false → seen_outside q x (events v w) ≡ true
  pub unheld : (x : ℕ) → x < sh.packets → x / word_bits ≡ g → has_bit word (x % word_bits) ≡ true → holds v.state.held x ≡ false

pub word-starts : (sh : Shape) (q : ℕ) (not_full : Bool) (g n : ℕ) (v w : View) → v.shape ≡ sh → q < pools_in_all → w ≡ after (Look q g) n v → Finds (Look q g) n v → WordSeeks sh q not_full g n (word_bits * g) v w
word-starts sh q not_full g n v w shape b e f =
    let es : events v w ≡ entry_of (Look q g) n ∷ [] = events-after v w (Look q g) n e in
    record {
      only = traced-look v w n q g f e;
      state = ap (λ (x : View). x.state) e;
      misses = record { all = λ x l h. absurd (omega (arith, l, h)); got = λ x t. absurd (false≢true (ap (was_got x) (sym es) ∙ t)); moves = ap (only_moves (q ∷ [])) es };
      shown = λ x here clear. ap (seen_outside q x) es ∙ or_left _ _ (and_from _ _ (and_from _ _ (eq-eqb q q refl) (eq-eqb g (x / word_bits) (sym here))) (not_from_false _ clear));
      unheld = λ x low here bit. shown-unheld v q g n x f b (subst (λ (s : Shape). x < s.packets) (sym shape) low) here bit;
    }

-- the bits below the lowest one that is set are clear
pub clear-below : (word i : ℕ) → word < 2 ^ 64 → i < trailing_zeros w64 word → i < word_bits → has_bit word i ≡ false
clear-below word i small below l =
    ⊎_elim
    (λ (some : 0 < word). ap (λ b. b == 1) ((bit_at-trailing_zeros w64 word some small).2 i below))
    (λ (none : word ≤ 0). let z : word ≡ 0 = omega (arith, none) in ap (λ n. has_bit n i) z ∙ ap (λ b. b == 1) (bit_at-zero i))
    (cases_lt 0 word)

-- the search begins at the first packet whose bit is set
pub word-begins : (sh : Shape) (q : ℕ) (not_full : Bool) (g n z : ℕ) (v w : View) → n < 2 ^ 64 → z ≡ trailing_zeros w64 n → WordSeeks sh q not_full g n (word_bits * g) v w → WordSeeks sh q not_full g n (word_bits * g + z) v w
word-begins sh q not_full g n z v w small is k =
    let most = trailing_le 64 n in
    record {
      only = k.only;
      state = k.state;
      misses =
          record {
            all =
                λ x a b low.
                let here : x / word_bits ≡ g = omega (arith, a, b, is, most) in
                let place : x % word_bits ≡ x - word_bits * g = omega (arith, a, b, is, most) in
                let below : x % word_bits < trailing_zeros w64 n = omega (arith, a, b, is, place) in
                or_left _ _ (or_left _ _ (k.shown x here (clear-below n (x % word_bits) small below (omega arith))));
            got = λ x e. let r = k.misses.got x e in let l = r.1 in (r.0, omega (arith, l));
            moves = k.misses.moves;
          };
      shown = k.shown;
      unheld = k.unheld;
    }

in-word : (g p : ℕ) → word_bits * g ≤ p → p < word_bits * g + word_bits → p / word_bits ≡ g
in-word g p l h = omega (arith, l, h)

pub word-next : (sh : Shape) (q : ℕ) (not_full : Bool) (g word p : ℕ) (v w u : View) → word_bits * g ≤ p → p < word_bits * g + word_bits → WordSeeks sh q not_full g word p v w → OnlyTraced w u → u.state ≡ w.state
    → ((x : ℕ) → IsTrue (was_got x (events w u)) → IsTrue not_full × (x < p + 1)) → (p < sh.packets → IsTrue (has_bit word (p % word_bits)) → IsTrue (missed sh.entries q not_full p (events w u))) → only_moves (q ∷ []) (events w u) ≡ true → WordSeeks sh q not_full g word (p + 1) v u
word-next sh q not_full g word p v w u l h k later same got miss moving =
    let es = events-join v w u k.only.log later.log in
    record {
      only = traced-join v w u k.only later;
      state = same ∙ k.state;
      misses =
          record {
            all =
                λ x a b low.
                ap (missed sh.entries q not_full x) es
                ∙ ⊎_elim
                (λ (e : x < p). missed-left sh.entries q not_full x (events v w) (events w u) (k.misses.all x a e low))
                (λ (e : p ≤ x).
                let is : p ≡ x = omega (arith, b, e) in
                subst (λ y. missed sh.entries q not_full y (events v w ++ events w u) ≡ true) is (this (subst (λ y. y < sh.packets) (sym is) low) (has_bit word (p % word_bits)) refl))
                (cases_lt x p);
            got =
                λ x e.
                ⊎_elim
                (λ t. let r = k.misses.got x t in let z = r.1 in (r.0, omega (arith, z)))
                (λ t. got x t)
                (some-parts (gets x) (events v w) (events w u) (ap (was_got x) (sym es) ∙ e));
            moves = ap (only_moves (q ∷ [])) es ∙ moves-join (q ∷ []) (events v w) (events w u) k.misses.moves moving;
          };
      shown = λ x here clear. ap (seen_outside q x) es ∙ before-left x (shows_outside q x) (events v w) (events w u) (k.shown x here clear);
      unheld = k.unheld;
    }
  where
    this : p < sh.packets → (b : Bool) → has_bit word (p % word_bits) ≡ b → missed sh.entries q not_full p (events v w ++ events w u) ≡ true
    this low true e = missed-right sh.entries q not_full p (events v w) (events w u) (ungot sh q not_full (word_bits * g) p p (events v w) k.misses (omega arith)) (miss low e)
    this low false e = missed-left sh.entries q not_full p (events v w) (events w u) (or_left _ _ (or_left _ _ (k.shown p (in-word g p l h) e)))

-- the word was read, and has the bit of no packet below p
pub record LooksBelow (sh : Shape) (q g word p : ℕ) (v w : View) : Type 0 where
  pub found : Found (Look q g) word v w
  pub clear : (x : ℕ) → x < sh.packets → x < p → x / word_bits ≡ g → has_bit word (x % word_bits) ≡ false

pub below-starts : (sh : Shape) (q g n z : ℕ) (v w : View) → n < 2 ^ 64 → z ≡ trailing_zeros w64 n → Found (Look q g) n v w → LooksBelow sh q g n (word_bits * g + z) v w
below-starts sh q g n z v w small is f =
    record {
      found = f;
      clear =
          λ x there low here.
          let most = trailing_le 64 n in
          let place : x % word_bits ≡ x - word_bits * g = omega (arith, here) in
          let below : x % word_bits < trailing_zeros w64 n = omega (arith, here, low, is, place) in
          clear-below n (x % word_bits) small below (omega arith);
    }

pub below-next : (sh : Shape) (q g word p : ℕ) (v w u : View) → LooksBelow sh q g word p v w → v.state.alone ≡ true → p / word_bits ≡ g
    → (p < sh.packets → look (pool_at w.shape q (p / word_bits)) w.known ≡ Some word → IsFalse (has_bit word (p % word_bits))) → ((p < sh.packets → IsFalse (has_bit word (p % word_bits))) → u ≡ w) → LooksBelow sh q g word (p + 1) v u
below-next sh q g word p v w u k alone here clear same =
    let noted : look (pool_at w.shape q (p / word_bits)) w.known ≡ Some word = subst (λ x. look (pool_at w.shape q x) w.known ≡ Some word) (sym here) (look-noted v w q g word alone k.found.0) in
    let none : p < sh.packets → has_bit word (p % word_bits) ≡ false = λ low. clear low noted in
    record {
      found = (same none ∙ k.found.0, k.found.1);
      clear =
          λ x there low at.
          ⊎_elim
          (λ (e : x < p). k.clear x there e at)
          (λ (e : p ≤ x). let is : p ≡ x = omega (arith, e, low) in subst (λ y. has_bit word (y % word_bits) ≡ false) is (none (subst (λ y. y < sh.packets) (sym is) there)))
          (cases_lt x p);
    }
