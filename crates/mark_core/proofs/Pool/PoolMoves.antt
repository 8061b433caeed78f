-- The rule of the pools is kept when a packet is taken, given back, or gets another length in hand.
use Rattle.std.proofs.Common.{ℕ, ◌≡◌, ◌≢◌, ◌<◌, ◌≤◌, List, set, get_or, length, arith, refl, sym, ap, ◌∙◌, Bool, true, false, ⊎_elim, Some, None, ◌*◌, cond, eqb}
use Rattle.std.specs.Prelude.{IsTrue, slice_index, nat_le}
use Rattle.std.proofs.lemmas.Bool.{cases_eq, true≢false, eqb-true, leb-true, leb-false}
use Rattle.std.proofs.lemmas.List.{get_or-set_same, length-set}
use Rattle.mark_core.specs.Held.{Slots, holds, known_length, has_free_slot, put_packet, drop_packet, set_length}
use Rattle.mark_core.specs.Cells.{in_pool, pool_count, holder_count, packet_length, length_among}
use Rattle.mark_core.specs.Rules.PacketRules.{Pools}
use Rattle.mark_core.specs.Steps.PacketSteps.{pool_for}
use Rattle.mark_core.proofs.Count.CountMoves.{bit}
use Rattle.mark_core.proofs.Pool.PoolSlots.{same-in-hand, put-other, drop-other, set-other, holds-put_same, known-put_same, holds-drop_same, holds-set_same, known-set_same}
use Rattle.mark_core.proofs.Pool.PoolPlaces.{OneBit, pool_count-moves, in-no-pool, holders-set, holder-counts, among-held, among-unheld, IsPlaced, pools-but-one, pools-still, same-hands}
use Rattle.mark_core.proofs.Writing.Ranges.{pool_for-below}
use Rattle.mark_core.specs.declared.kinds.Shape.{Shape}
use Rattle.mark_core.proofs.Basics.{positive}

-- The pool to which a packet goes back, by its length.
-- deferred, empty, or at least half full
abbrev choice : Bool → Bool → Bool → ℕ
choice d a b = cond d 3 (cond a 0 (cond b 2 1))

is_empty : (d a b : Bool) → choice d a b ≡ 0 → a ≡ true
is_empty true a b e = absurd (omega arith)
is_empty false true b e = refl
is_empty false false true e = absurd (omega arith)
is_empty false false false e = absurd (omega arith)

is_low : (d a b : Bool) → choice d a b ≡ 1 → (a ≡ false) × (b ≡ false)
is_low true a b e = absurd (omega arith)
is_low false true b e = absurd (omega arith)
is_low false false true e = absurd (omega arith)
is_low false false false e = (refl, refl)

is_high : (d a b : Bool) → choice d a b ≡ 2 → b ≡ true
is_high true a b e = absurd (omega arith)
is_high false true b e = absurd (omega arith)
is_high false false true e = refl
is_high false false false e = absurd (omega arith)

is_deferred : (d a b : Bool) → choice d a b ≡ 3 → d ≡ true
is_deferred true a b e = refl
is_deferred false true b e = absurd (omega arith)
is_deferred false false true e = absurd (omega arith)
is_deferred false false false e = absurd (omega arith)

pub empty-fits : (sh : Shape) (n : ℕ) (d : Bool) → pool_for sh n d ≡ 0 → n ≡ 0
empty-fits sh n d e = eqb-true n 0 (is_empty d (eqb n 0) (nat_le sh.entries (2 * n)) e)

-- an empty packet that isn't deferred goes to the empty pool
pub empty-chosen : (sh : Shape) (n : ℕ) → n ≡ 0 → pool_for sh n false ≡ 0
empty-chosen sh n e = rw e refl

pub low-fits : (sh : Shape) (n : ℕ) (d : Bool) → pool_for sh n d ≡ 1 → (0 < n) × (2 * n < sh.entries)
low-fits sh n d e = let f = is_low d (eqb n 0) (nat_le sh.entries (2 * n)) e in (positive n f.0, leb-false sh.entries (2 * n) f.1)

pub high-fits : (sh : Shape) (n : ℕ) (d : Bool) → pool_for sh n d ≡ 2 → sh.entries ≤ 2 * n
high-fits sh n d e = leb-true sh.entries (2 * n) (is_high d (eqb n 0) (nat_le sh.entries (2 * n)) e)

pub deferred-fits : (sh : Shape) (n : ℕ) (d : Bool) → pool_for sh n d ≡ 3 → d ≡ true
deferred-fits sh n d e = is_deferred d (eqb n 0) (nat_le sh.entries (2 * n)) e

-- seat i holds hs, if the rule of the pools is met
pub record Holding (sh : Shape) (heads pools : List ℕ) (hss : List Slots) (i : ℕ) (hs : Slots) : Type 0 where
  pub rule : Pools sh heads pools hss
  pub seat : i < length hss
  pub is : get_or hss i hs ≡ hs

-- a packet in hand is in no pool, and in no other hand
pub held-alone : (sh : Shape) (heads pools : List ℕ) (hss : List Slots) (i p : ℕ) (hs : Slots) → Holding sh heads pools hss i hs → p < sh.packets → holds hs p ≡ true → (pool_count sh pools p ≡ 0) × (holder_count hss p ≡ 1)
held-alone sh heads pools hss i p hs k hp h =
    let one = holder-counts hss i p hs k.seat (rw k.is h) in
    let all = k.rule.one_place p hp in
    (omega (arith, one, all), omega (arith, one, all))

-- the holder's length of a packet is the packet's
pub held-length : (sh : Shape) (heads pools : List ℕ) (hss : List Slots) (i p : ℕ) (hs : Slots) → Holding sh heads pools hss i hs → p < sh.packets → holds hs p ≡ true → length_among hss p ≡ known_length hs p
held-length sh heads pools hss i p hs k hp h =
    among-held hss i p hs k.seat (rw k.is h) (omega (arith, (held-alone sh heads pools hss i p hs k hp h).1)) ∙ ap (λ (g : Slots). known_length g p) k.is

-- a packet in a pool is in no hand, and in no other pool
in_one_pool : (sh : Shape) (heads pools pools' : List ℕ) (hss : List Slots) (q p : ℕ) (b : Bool) → Pools sh heads pools hss → q < 4 → p < sh.packets → OneBit sh pools pools' q p false → in_pool sh pools q p ≡ true
    → (pool_count sh pools' p ≡ 0) × (holder_count hss p ≡ 0)
in_one_pool sh heads pools pools' hss q p b k hq hp o e =
    let m = pool_count-moves sh pools pools' q p false hq hp o in
    let one : bit (in_pool sh pools q p) ≡ 1 = ap bit e in
    let all = k.one_place p hp in
    (omega (arith, m, all), omega (arith, m, all))

none_in : (sh : Shape) (pools : List ℕ) (q p : ℕ) (P : Type 0) → q < 4 → pool_count sh pools p ≡ 0 → IsTrue (in_pool sh pools q p) → P
none_in sh pools q p P h z e = absurd (true≢false (sym e ∙ in-no-pool sh pools q p h z))

-- a packet that one seat holds, and no pool
placed_in_hand : (sh : Shape) (heads pools : List ℕ) (hss : List Slots) (p : ℕ) → pool_count sh pools p ≡ 0 → holder_count hss p ≡ 1 → packet_length heads hss p ≤ sh.entries → IsPlaced sh heads pools hss p
placed_in_hand sh heads pools hss p z h r =
    record {
      one_place = omega arith;
      empty_pool = none_in sh pools 0 p _ (omega arith) z;
      low_pool = none_in sh pools 1 p _ (omega arith) z;
      high_pool = none_in sh pools 2 p _ (omega arith) z;
      deferred_pool = none_in sh pools 3 p _ (omega arith) z;
      room = r;
    }

others_inside : (sh : Shape) (pools pools' : List ℕ) (q p : ℕ) (b : Bool) → OneBit sh pools pools' q p b → (r x : ℕ) → x < sh.packets → x ≢ p → in_pool sh pools' r x ≡ in_pool sh pools r x
others_inside sh pools pools' q p b o r x h n = o.there r x h (λ e f. n f)

-- packet p goes from pool q into the hand of seat i
pub pools-take : (sh : Shape) (heads pools pools' : List ℕ) (hss : List Slots) (i q p : ℕ) (hs : Slots) → Holding sh heads pools hss i hs → q < 4 → OneBit sh pools pools' q p false → in_pool sh pools q p ≡ true
    → holds hs p ≡ false → has_free_slot hs ≡ true → Pools sh heads pools' (set hss i (put_packet hs p))
pools-take sh heads pools pools' hss i q p hs k hq o e n f =
    let gs : Slots = put_packet hs p in
    let gss : List Slots = set hss i gs in
    pools-but-one sh heads heads pools pools' hss i p hs gs k.rule k.seat k.is o.past (others_inside sh pools pools' q p false o) (λ x d. refl) (λ x d. put-other hs p x d)
    (λ hp.
    let was = in_one_pool sh heads pools pools' hss q p false k.rule hq hp o e in
    let long : i < length gss = rw length-set k.seat in
    let mine : holds (get_or gss i gs) p ≡ true = rw (get_or-set_same hss i gs gs k.seat) (holds-put_same hs p f) in
    let now : holder_count gss p ≡ 1 = omega (arith, holders-set hss i p hs gs k.seat k.is, was.1, ap bit n, ap bit (holds-put_same hs p f)) in
    let known : length_among gss p ≡ None = among-held gss i p gs long mine (omega (arith, now)) ∙ (ap (λ (g : Slots). known_length g p) (get_or-set_same hss i gs gs k.seat) ∙ known-put_same hs p n) in
    let before : packet_length heads hss p ≡ slice_index heads p = rw (among-unheld hss p was.1) refl in
    placed_in_hand sh heads pools' gss p was.0 now (rw known (omega (arith, before, k.rule.rooms p hp))))

-- a bit that was clear is cleared
pub same-inside : (sh : Shape) (pools pools' : List ℕ) (q p : ℕ) → OneBit sh pools pools' q p false → in_pool sh pools q p ≡ false → (r x : ℕ) → x < sh.packets → in_pool sh pools' r x ≡ in_pool sh pools r x
same-inside sh pools pools' q p o e r x h =
    ⊎_elim
    (λ (d : x ≡ p).
    ⊎_elim
    (λ (f : r ≡ q). rw (d, f) (o.here ∙ sym e))
    (λ (f : r ≡ q → ⊥). o.there r x h (λ g _. f g))
    (cases_eq r q))
    (λ (d : x ≡ p → ⊥). o.there r x h (λ _ g. d g))
    (cases_eq x p)

-- a pool's word that is written back as it was
pub pools-untaken : (sh : Shape) (heads pools pools' : List ℕ) (hss : List Slots) (i q p : ℕ) (hs : Slots) → Holding sh heads pools hss i hs → OneBit sh pools pools' q p false → in_pool sh pools q p ≡ false → Pools sh heads pools' (set hss i hs)
pools-untaken sh heads pools pools' hss i q p hs k o e =
    pools-still sh heads heads pools pools' hss (set hss i hs) k.rule o.past
    (λ x h.
    let s = same-hands hss i x hs hs k.seat k.is (same-in-hand hs x) in
    record { inside = λ r. same-inside sh pools pools' q p o e r x h; head = refl; holders = s.0; known = s.1 })

-- packet p was put only into pool q, so if it is in pool r, r is q
in_that_pool : (sh : Shape) (pools pools' : List ℕ) (q p r : ℕ) → p < sh.packets → r < 4 → pool_count sh pools p ≡ 0 → OneBit sh pools pools' q p true → IsTrue (in_pool sh pools' r p) → q ≡ r
in_that_pool sh pools pools' q p r hp hr z o e =
    ⊎_elim
    (λ (s : q ≡ r). s)
    (λ (n : q ≡ r → ⊥). none_in sh pools r p _ hr z (sym (o.there r p hp (λ f g. n (sym f))) ∙ e))
    (cases_eq q r)

-- packet p goes from the hand of seat i into the pool of its length
pub pools-give : (sh : Shape) (heads pools pools' : List ℕ) (hss : List Slots) (i p n : ℕ) (d : Bool) (hs : Slots) → Holding sh heads pools hss i hs → OneBit sh pools pools' (pool_for sh n d) p true → holds hs p ≡ true
    → slice_index heads p ≡ n → n ≤ sh.entries → (d ≡ true → 0 < n) → Pools sh heads pools' (set hss i (drop_packet hs p))
pools-give sh heads pools pools' hss i p n d hs k o h head l deferred =
    let gs : Slots = drop_packet hs p in
    let gss : List Slots = set hss i gs in
    let q : ℕ = pool_for sh n d in
    pools-but-one sh heads heads pools pools' hss i p hs gs k.rule k.seat k.is o.past (others_inside sh pools pools' q p true o) (λ x e. refl) (λ x e. drop-other hs p x e)
    (λ hp.
    let was = held-alone sh heads pools hss i p hs k hp h in
    let now : holder_count gss p ≡ 0 = omega (arith, holders-set hss i p hs gs k.seat k.is, was.1, ap bit h, ap bit (holds-drop_same hs p)) in
    let before : bit (in_pool sh pools q p) ≡ 0 = ap bit (in-no-pool sh pools q p (pool_for-below sh n d) was.0) in
    let put : pool_count sh pools' p ≡ 1 = omega (arith, pool_count-moves sh pools pools' q p true (pool_for-below sh n d) hp o, was.0, before) in
    let that = λ (r : ℕ) (hr : r < 4) (e : IsTrue (in_pool sh pools' r p)). in_that_pool sh pools pools' q p r hp hr was.0 o e in
    record {
      one_place = omega (arith, put, now);
      empty_pool = λ e. head ∙ empty-fits sh n d (that 0 (omega arith) e);
      low_pool = λ e. rw head (low-fits sh n d (that 1 (omega arith) e));
      high_pool = λ e. rw head (high-fits sh n d (that 2 (omega arith) e), l);
      deferred_pool = λ e. rw head (deferred (deferred-fits sh n d (that 3 (omega arith) e)), l);
      room = rw (among-unheld gss p now) (rw head l);
    })

-- packet p, of which seat i knows the length, goes into no pool, and its length becomes n
pub pools-length : (sh : Shape) (heads heads' pools : List ℕ) (hss : List Slots) (i p n : ℕ) (b : Bool) (hs : Slots) → Holding sh heads pools hss i hs → ((x : ℕ) → x ≢ p → slice_index heads' x ≡ slice_index heads x)
    → holds hs p ≡ true → n ≤ sh.entries → Pools sh heads' pools (set hss i (set_length hs p n b))
pools-length sh heads heads' pools hss i p n b hs k others h l =
    let gs : Slots = set_length hs p n b in
    let gss : List Slots = set hss i gs in
    pools-but-one sh heads heads' pools pools hss i p hs gs k.rule k.seat k.is (λ q x d l. refl) (λ q x hx d. refl) others (λ x d. set-other hs p n b x d)
    (λ hp.
    let was = held-alone sh heads pools hss i p hs k hp h in
    let long : i < length gss = rw length-set k.seat in
    let held : holds gs p ≡ true = holds-set_same hs p n b ∙ h in
    let mine : holds (get_or gss i gs) p ≡ true = rw (get_or-set_same hss i gs gs k.seat) held in
    let now : holder_count gss p ≡ 1 = omega (arith, holders-set hss i p hs gs k.seat k.is, was.1, ap bit h, ap bit held) in
    let known : length_among gss p ≡ Some n = among-held gss i p gs long mine (omega (arith, now)) ∙ (ap (λ (g : Slots). known_length g p) (get_or-set_same hss i gs gs k.seat) ∙ known-set_same hs p n b h) in
    placed_in_hand sh heads' pools gss p was.0 now (rw known l))
