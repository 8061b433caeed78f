-- The rule of the pools for one packet, and what a step on one packet leaves of it for the others.
use Rattle.std.proofs.Common.{ℕ, ◌≡◌, ◌≢◌, ◌+◌, ◌*◌, ◌<◌, ◌≤◌, List, set, get_or, length, arith, sym, ap, ◌∙◌, ⊎_elim, zero, suc, [], ◌∷◌, ◌++◌, refl, true, false, Option, Some, None, ◌/◌, ◌%◌, Bool}
use Rattle.std.specs.Prelude.{IsTrue, slice_index}
use Rattle.std.proofs.lemmas.Bool.{cases_eq, cases_Bool, cases_order}
use Rattle.mark_core.specs.Shapes.{EachPacket}
use Rattle.mark_core.specs.Held.{Slots, known_length, holds}
use Rattle.mark_core.specs.Cells.{in_pool, pool_count, holder_count, packet_length, length_among, or_else, empty_packets}
use Rattle.mark_core.specs.Rules.PacketRules.{NoStrays, Pools}
use Rattle.mark_core.proofs.Count.CountMoves.{bit, count-cons, bit-zero, count-but-one}
use Rattle.mark_core.proofs.Pool.PoolSlots.{SameInHand}
use Rattle.mark_core.specs.declared.kinds.Shape.{Shape}
use Rattle.std.proofs.lemmas.List.Sums.{sum_by-set, sum_by_push, get_or-le-sum_by}
use Rattle.mark_core.proofs.Known.{unheld-unknown}
use Rattle.std.proofs.lemmas.Nat.{mul-add-lt}
use Rattle.std.proofs.lemmas.List.{get_or-set_same, get_or-set_other}
use Rattle.mark_core.specs.Layout.{pool_words}
use Rattle.mark_core.specs.Bits.{has_bit, with_bit, without_bit}
use Rattle.mark_core.proofs.Writing.CellBits.{with_same, with_other, without_same, without_other, same-index}
use Rattle.mark_core.proofs.Writing.Ranges.{word-below}

-- One bit of a pool's word: what setting or clearing it does to the pools.
-- rows of the same width don't overlap
pub same_place : (w q r a b : ℕ) → a < w → b < w → q * w + a ≡ r * w + b → (q ≡ r) × (a ≡ b)
same_place w q r a b ha hb e =
    ⊎_elim
    (λ (s : q ≡ r). (s, omega (arith, e, ap (λ x. x * w) s)))
    (λ u. absurd (⊎_elim (λ (h : q < r). grind (arith, mul-add-lt q w a r)) (λ (h : r < q). grind (arith, mul-add-lt r w b q)) u))
    (cases_order q r)

-- the bits past the packets are the same
abbrev pub SamePast : Shape → List ℕ → List ℕ → Type 0
SamePast sh pools pools' = (q p : ℕ) → sh.packets ≤ p → p < 64 * pool_words sh → in_pool sh pools' q p ≡ in_pool sh pools q p

pub strays-kept : (sh : Shape) (pools pools' : List ℕ) → SamePast sh pools pools' → NoStrays sh pools → NoStrays sh pools'
strays-kept sh pools pools' same k q p h n l = same q p n l ∙ k q p h n l

-- what is in the pools differs at packet p of pool q at most, which is there as b says
pub record OneBit (sh : Shape) (pools pools' : List ℕ) (q p : ℕ) (b : Bool) : Type 0 where
  pub here : in_pool sh pools' q p ≡ b
  pub past : SamePast sh pools pools'
  pub there : (r x : ℕ) → x < sh.packets → (r ≡ q → x ≡ p → ⊥) → in_pool sh pools' r x ≡ in_pool sh pools r x

-- a bit of another place
bit_elsewhere : (sh : Shape) (pools : List ℕ) (q p v : ℕ) → q * pool_words sh + p / 64 < length pools → p / 64 < pool_words sh
    → ((k : ℕ) → k < 64 → k ≢ p % 64 → has_bit v k ≡ has_bit (get_or pools (q * pool_words sh + p / 64) 0) k)
    → (r x : ℕ) → x / 64 < pool_words sh → (r ≡ q → x ≡ p → ⊥) → in_pool sh (set pools (q * pool_words sh + p / 64) v) r x ≡ in_pool sh pools r x
bit_elsewhere sh pools q p v l h others r x hx n =
    let i : ℕ = q * pool_words sh + p / 64 in
    let j : ℕ = r * pool_words sh + x / 64 in
    ⊎_elim
    (λ (e : j ≡ i).
    let s = same_place (pool_words sh) r q (x / 64) (p / 64) hx h e in
    let far : x % 64 ≢ p % 64 = λ f. n s.0 (same-index x p s.1 f) in
    rw e (rw get_or-set_same (others (x % 64) (omega arith) far)))
    (λ (d : j ≡ i → ⊥). ap (λ w. has_bit w (x % 64)) (get_or-set_other pools i j v 0 d))
    (cases_eq j i)

one_bit : (sh : Shape) (pools : List ℕ) (q p v : ℕ) → q * pool_words sh + p / 64 < length pools → p < sh.packets
    → ((k : ℕ) → k < 64 → k ≢ p % 64 → has_bit v k ≡ has_bit (get_or pools (q * pool_words sh + p / 64) 0) k)
    → OneBit sh pools (set pools (q * pool_words sh + p / 64) v) q p (has_bit v (p % 64))
one_bit sh pools q p v l h others =
    let elsewhere = bit_elsewhere sh pools q p v l (word-below sh p h) others in
    record {
      here = rw get_or-set_same refl;
      past = λ r x n hx. elsewhere r x (omega (arith, hx)) (λ e f. omega (arith, h, n, f));
      there = λ r x hx n. elsewhere r x (word-below sh x hx) n;
    }

-- packet p is put into pool q
pub pool-with : (sh : Shape) (pools : List ℕ) (q p : ℕ) → q * pool_words sh + p / 64 < length pools → p < sh.packets
    → OneBit sh pools (set pools (q * pool_words sh + p / 64) (with_bit (get_or pools (q * pool_words sh + p / 64) 0) (p % 64))) q p true
pool-with sh pools q p l h =
    let old : ℕ = get_or pools (q * pool_words sh + p / 64) 0 in
    rw (with_same old (p % 64)) at (one_bit sh pools q p (with_bit old (p % 64)) l h (λ k hk d. with_other old (p % 64) k d))

-- packet p is taken out of pool q
pub pool-without : (sh : Shape) (pools : List ℕ) (q p : ℕ) → q * pool_words sh + p / 64 < length pools → p < sh.packets
    → OneBit sh pools (set pools (q * pool_words sh + p / 64) (without_bit (get_or pools (q * pool_words sh + p / 64) 0) (p % 64))) q p false
pool-without sh pools q p l h =
    let old : ℕ = get_or pools (q * pool_words sh + p / 64) 0 in
    rw (without_same old (p % 64) (omega arith)) at
    (one_bit sh pools q p (without_bit old (p % 64)) l h (λ k hk d. without_other old (p % 64) k (omega arith) hk d))

-- in how many pools packet p is, by the pool that changed
pub pool_count-moves : (sh : Shape) (pools pools' : List ℕ) (q p : ℕ) (b : Bool) → q < 4 → p < sh.packets → OneBit sh pools pools' q p b → pool_count sh pools' p + bit (in_pool sh pools q p) ≡ pool_count sh pools p + bit b
pool_count-moves sh pools pools' zero p b h hp o =
    let other = λ (r : ℕ) (n : r ≡ 0 → ⊥). ap bit (o.there r p hp (λ e f. n e)) in
    omega (arith, ap bit o.here, other 1 (λ e. omega arith), other 2 (λ e. omega arith), other 3 (λ e. omega arith))
pool_count-moves sh pools pools' (suc zero) p b h hp o =
    let other = λ (r : ℕ) (n : r ≡ 1 → ⊥). ap bit (o.there r p hp (λ e f. n e)) in
    omega (arith, ap bit o.here, other 0 (λ e. omega arith), other 2 (λ e. omega arith), other 3 (λ e. omega arith))
pool_count-moves sh pools pools' (suc (suc zero)) p b h hp o =
    let other = λ (r : ℕ) (n : r ≡ 2 → ⊥). ap bit (o.there r p hp (λ e f. n e)) in
    omega (arith, ap bit o.here, other 0 (λ e. omega arith), other 1 (λ e. omega arith), other 3 (λ e. omega arith))
pool_count-moves sh pools pools' (suc (suc (suc zero))) p b h hp o =
    let other = λ (r : ℕ) (n : r ≡ 3 → ⊥). ap bit (o.there r p hp (λ e f. n e)) in
    omega (arith, ap bit o.here, other 0 (λ e. omega arith), other 1 (λ e. omega arith), other 2 (λ e. omega arith))
pool_count-moves sh pools pools' (suc (suc (suc (suc q)))) p b h hp o = absurd (omega arith)

-- a packet that is in no pool isn't in this one
pub in-no-pool : (sh : Shape) (pools : List ℕ) (q p : ℕ) → q < 4 → pool_count sh pools p ≡ 0 → in_pool sh pools q p ≡ false
in-no-pool sh pools zero p h e = bit-zero _ (omega (arith, e))
in-no-pool sh pools (suc zero) p h e = bit-zero _ (omega (arith, e))
in-no-pool sh pools (suc (suc zero)) p h e = bit-zero _ (omega (arith, e))
in-no-pool sh pools (suc (suc (suc zero))) p h e = bit-zero _ (omega (arith, e))
in-no-pool sh pools (suc (suc (suc (suc q)))) p h e = absurd (omega arith)

-- how many packets are in the empty pool, by the pool that changed
pub empty_packets-moves : (sh : Shape) (pools pools' : List ℕ) (q p : ℕ) (b : Bool) → p < sh.packets → OneBit sh pools pools' q p b
    → empty_packets sh pools' + bit (in_pool sh pools 0 p) ≡ empty_packets sh pools + bit (in_pool sh pools' 0 p)
empty_packets-moves sh pools pools' q p b hp o = count-but-one (in_pool sh pools 0) (in_pool sh pools' 0) p 0 sh.packets (omega arith) (omega arith) (λ x l h n. o.there 0 x (omega (arith, h)) (λ e f. n f))

-- Who holds a packet, and its length, when what one seat holds is replaced.
-- the count of holders, once seat i holds gs in place of hs
pub holders-set : (hss : List Slots) (i q : ℕ) (hs gs : Slots) → i < length hss → get_or hss i hs ≡ hs → holder_count (set hss i gs) q + bit (holds hs q) ≡ holder_count hss q + bit (holds gs q)
holders-set hss i q hs gs l is = rw is at (sum_by-set (λ (h : Slots). bit (holds h q)) hss i gs hs l)

pub holders-push : (hss : List Slots) (gs : Slots) (q : ℕ) → holder_count (hss ++ gs ∷ []) q ≡ holder_count hss q + bit (holds gs q)
holders-push hss gs q = sum_by_push (λ (h : Slots). bit (holds h q)) hss gs

-- a holder counts
pub holder-counts : (hss : List Slots) (i q : ℕ) (d : Slots) → i < length hss → holds (get_or hss i d) q ≡ true → 1 ≤ holder_count hss q
holder-counts hss i q d l h =
    let one : bit (holds (get_or hss i d) q) ≡ 1 = ap bit h in
    omega (arith, get_or-le-sum_by (λ (g : Slots). bit (holds g q)) hss i d l)

-- if nobody holds the packet, nobody knows its length
pub among-unheld : (hss : List Slots) (q : ℕ) → holder_count hss q ≡ 0 → length_among hss q ≡ None
among-unheld [] q e = refl
among-unheld (hs ∷ hss) q e =
    let c = count-cons (λ (h : Slots). holds h q) hs hss in
    ⊎_elim
    (λ (b : holds hs q ≡ true). absurd (let one : bit (holds hs q) ≡ 1 = ap bit b in omega (arith, c, e)))
    (λ (b : holds hs q ≡ false). rw (unheld-unknown hs q b) (among-unheld hss q (omega (arith, c, e))))
    (cases_Bool (holds hs q))

or_none : (o : Option ℕ) → or_else o None ≡ o
or_none None = refl
or_none (Some n) = refl

-- the one holder knows the packet's length, or nobody does
pub among-held : (hss : List Slots) (i q : ℕ) (d : Slots) → i < length hss → holds (get_or hss i d) q ≡ true → holder_count hss q ≤ 1 → length_among hss q ≡ known_length (get_or hss i d) q
among-held [] i q d l h o = absurd (omega (arith, l))
among-held (hs ∷ hss) zero q d l h o =
    let c = count-cons (λ (g : Slots). holds g q) hs hss in
    let one : bit (holds hs q) ≡ 1 = ap bit h in
    ap (or_else (known_length hs q)) (among-unheld hss q (omega (arith, c, o))) ∙ or_none (known_length hs q)
among-held (hs ∷ hss) (suc i) q d l h o =
    let c = count-cons (λ (g : Slots). holds g q) hs hss in
    let least : 1 ≤ holder_count hss q = holder-counts hss i q d (omega (arith, l)) h in
    ⊎_elim
    (λ (b : holds hs q ≡ true). absurd (let one : bit (holds hs q) ≡ 1 = ap bit b in omega (arith, c, o)))
    (λ (b : holds hs q ≡ false). rw (unheld-unknown hs q b) (among-held hss i q d (omega (arith, l)) h (omega (arith, c, o))))
    (cases_Bool (holds hs q))

-- a packet of which seat i knows as much as before
pub among-set : (hss : List Slots) (i q : ℕ) (d gs : Slots) → i < length hss → known_length gs q ≡ known_length (get_or hss i d) q → length_among (set hss i gs) q ≡ length_among hss q
among-set [] i q d gs l e = refl
among-set (hs ∷ hss) zero q d gs l e = ap (λ o. or_else o (length_among hss q)) e
among-set (hs ∷ hss) (suc i) q d gs l e = ap (or_else (known_length hs q)) (among-set hss i q d gs (omega (arith, l)) e)

-- a further seat that holds nothing
pub among-push : (hss : List Slots) (gs : Slots) (q : ℕ) → known_length gs q ≡ None → length_among (hss ++ gs ∷ []) q ≡ length_among hss q
among-push [] gs q e = rw e refl
among-push (hs ∷ hss) gs q e = ap (or_else (known_length hs q)) (among-push hss gs q e)

-- a packet that one seat holds isn't in another's hand
pub only-holder : (hss : List Slots) (i j q : ℕ) (d : Slots) → i < length hss → j < length hss → holder_count hss q ≤ 1 → holds (get_or hss i d) q ≡ true → holds (get_or hss j d) q ≡ true → i ≡ j
only-holder [] i j q d hi hj o a b = absurd (omega (arith, hi))
only-holder (hs ∷ hss) zero zero q d hi hj o a b = refl
only-holder (hs ∷ hss) zero (suc j) q d hi hj o a b =
    let one : bit (holds hs q) ≡ 1 = ap bit a in
    absurd (omega (arith, o, count-cons (λ (g : Slots). holds g q) hs hss, holder-counts hss j q d (omega (arith, hj)) b))
only-holder (hs ∷ hss) (suc i) zero q d hi hj o a b =
    let one : bit (holds hs q) ≡ 1 = ap bit b in
    absurd (omega (arith, o, count-cons (λ (g : Slots). holds g q) hs hss, holder-counts hss i q d (omega (arith, hi)) a))
only-holder (hs ∷ hss) (suc i) (suc j) q d hi hj o a b =
    ap suc (only-holder hss i j q d (omega (arith, hi)) (omega (arith, hj)) (omega (arith, o, count-cons (λ (g : Slots). holds g q) hs hss)) a b)

-- the rule for packet p
pub record IsPlaced (sh : Shape) (heads pools : List ℕ) (hss : List Slots) (p : ℕ) : Type 0 where
  pub one_place : pool_count sh pools p + holder_count hss p ≡ 1
  pub empty_pool : IsTrue (in_pool sh pools 0 p) → slice_index heads p ≡ 0
  pub low_pool : IsTrue (in_pool sh pools 1 p) → (0 < slice_index heads p) × (2 * slice_index heads p < sh.entries)
  pub high_pool : IsTrue (in_pool sh pools 2 p) → (sh.entries ≤ 2 * slice_index heads p) × (slice_index heads p ≤ sh.entries)
  pub deferred_pool : IsTrue (in_pool sh pools 3 p) → (0 < slice_index heads p) × (slice_index heads p ≤ sh.entries)
  pub room : packet_length heads hss p ≤ sh.entries

placed_in : (sh : Shape) (heads pools : List ℕ) (hss : List Slots) → Pools sh heads pools hss → EachPacket sh (IsPlaced sh heads pools hss)
placed_in sh heads pools hss k p h =
    record {
      one_place = k.one_place p h;
      empty_pool = k.empty_pool p h;
      low_pool = k.low_pool p h;
      high_pool = k.high_pool p h;
      deferred_pool = k.deferred_pool p h;
      room = k.rooms p h;
    }

pools_from : (sh : Shape) (heads pools : List ℕ) (hss : List Slots) → EachPacket sh (IsPlaced sh heads pools hss) → NoStrays sh pools → Pools sh heads pools hss
pools_from sh heads pools hss k strays =
    record {
      one_place = λ p h. (k p h).one_place;
      empty_pool = λ p h. (k p h).empty_pool;
      low_pool = λ p h. (k p h).low_pool;
      high_pool = λ p h. (k p h).high_pool;
      deferred_pool = λ p h. (k p h).deferred_pool;
      no_strays = strays;
      rooms = λ p h. (k p h).room;
    }

-- packet p is where it was, and as long
pub record SamePlace (sh : Shape) (heads heads' pools pools' : List ℕ) (hss gss : List Slots) (p : ℕ) : Type 0 where
  pub inside : (q : ℕ) → in_pool sh pools' q p ≡ in_pool sh pools q p
  pub head : slice_index heads' p ≡ slice_index heads p
  pub holders : holder_count gss p ≡ holder_count hss p
  pub known : length_among gss p ≡ length_among hss p

placed_same : (sh : Shape) (heads heads' pools pools' : List ℕ) (hss gss : List Slots) (p : ℕ) → SamePlace sh heads heads' pools pools' hss gss p → IsPlaced sh heads pools hss p → IsPlaced sh heads' pools' gss p
placed_same sh heads heads' pools pools' hss gss p s k =
    let at = λ (q : ℕ). ap bit (s.inside q) in
    let one : pool_count sh pools' p ≡ pool_count sh pools p = omega (arith, at 0, at 1, at 2, at 3) in
    record {
      one_place = omega (arith, one, s.holders, k.one_place);
      empty_pool = λ e. s.head ∙ k.empty_pool (sym (s.inside 0) ∙ e);
      low_pool = λ e. rw s.head (k.low_pool (sym (s.inside 1) ∙ e));
      high_pool = λ e. rw s.head (k.high_pool (sym (s.inside 2) ∙ e));
      deferred_pool = λ e. rw s.head (k.deferred_pool (sym (s.inside 3) ∙ e));
      room = rw (s.known, s.head) k.room;
    }

-- seat i has gs in its hand in place of hs, and says the same of packet p
pub same-hands : (hss : List Slots) (i p : ℕ) (hs gs : Slots) → i < length hss → get_or hss i hs ≡ hs → SameInHand hs gs p → (holder_count (set hss i gs) p ≡ holder_count hss p) × (length_among (set hss i gs) p ≡ length_among hss p)
same-hands hss i p hs gs l is s = (
  omega (arith, holders-set hss i p hs gs l is, ap bit s.holds_same),
  among-set hss i p hs gs l (s.known_same ∙ ap (λ (h : Slots). known_length h p) (sym is)),
)

-- the rule is kept if it is kept for the one packet that a step of seat i is about
pub pools-but-one : (sh : Shape) (heads heads' pools pools' : List ℕ) (hss : List Slots) (i p : ℕ) (hs gs : Slots) → Pools sh heads pools hss → i < length hss → get_or hss i hs ≡ hs
    → SamePast sh pools pools' → ((q x : ℕ) → x < sh.packets → x ≢ p → in_pool sh pools' q x ≡ in_pool sh pools q x) → ((x : ℕ) → x ≢ p → slice_index heads' x ≡ slice_index heads x) → ((x : ℕ) → x ≢ p → SameInHand hs gs x)
    → (p < sh.packets → IsPlaced sh heads' pools' (set hss i gs) p) → Pools sh heads' pools' (set hss i gs)
pools-but-one sh heads heads' pools pools' hss i p hs gs k l is past inside head hand here =
    pools_from sh heads' pools' (set hss i gs)
    (λ x h.
    ⊎_elim
    (λ (e : x ≡ p). rw e (here (rw e at h)))
    (λ (n : x ≡ p → ⊥).
    let s = same-hands hss i x hs gs l is (hand x n) in
    placed_same sh heads heads' pools pools' hss (set hss i gs) x (record { inside = λ q. inside q x h n; head = head x n; holders = s.0; known = s.1 }) (placed_in sh heads pools hss k x h))
    (cases_eq x p))
    (strays-kept sh pools pools' past k.no_strays)

-- the rule is kept if each packet is where it was
pub pools-still : (sh : Shape) (heads heads' pools pools' : List ℕ) (hss gss : List Slots) → Pools sh heads pools hss → SamePast sh pools pools' → EachPacket sh (SamePlace sh heads heads' pools pools' hss gss) → Pools sh heads' pools' gss
pools-still sh heads heads' pools pools' hss gss k past s =
    pools_from sh heads' pools' gss (λ x h. placed_same sh heads heads' pools pools' hss gss x (s x h) (placed_in sh heads pools hss k x h)) (strays-kept sh pools pools' past k.no_strays)
