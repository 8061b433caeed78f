-- Each seat stays in range over each step that is allowed.
use Rattle.std.proofs.Common.{ℕ, ◌≡◌, ◌+◌, ◌/◌, ◌%◌, ◌<◌, ◌≤◌, List, arith, refl, Bool, true, false, Option, Some, None, cond, eqb, ◌-◌, [], ◌∷◌, length, ap, ◌∙◌, ◌*◌, ◌^◌, zero, suc, ◌++◌, map, replicate, get_or, append_assoc, sym, subst, min, pow_mono}
use Rattle.std.specs.Prelude.{IfSome, nat_le, nat_lt, slice_get}
use Rattle.std.proofs.lemmas.Bool.{and_parts, and_from, ltb-true, leb-true, eq-eqb, not-true}
use Rattle.mark_core.specs.Layout.{Words, block_count, pool_words}
use Rattle.mark_core.specs.Seats.{free_in}
use Rattle.mark_core.specs.Steps.MutatorSteps.{with_free, with_making, with_made, without_used, seat_variable}
use Rattle.mark_core.specs.Parts.{parts}
use Rattle.mark_core.specs.Effects.{seat_after}
use Rattle.mark_core.specs.Steps.{AllTrue, start_core}
use Rattle.mark_core.specs.WellFormed.{IsCache, IsApart, IsHeldList, IsSeat, IsWellFormed}
use Rattle.mark_core.proofs.Writing.SeatBoundsKept.{choose, block-after, made-after}
use Rattle.mark_core.proofs.Formed.FormedGrasps.{with-fits, without-fits, complement-fits, Learns, popped-after, scan-after, value-after, fresh-after, owes-after, cleaning-after}
use Rattle.mark_core.proofs.Caches.CachesSeat.{MakesFree, next-free, free-block}
use Rattle.mark_core.proofs.Writing.CellBits.{with_same}
use Rattle.mark_core.specs.declared.kinds.Shape.{Shape}
use Rattle.mark_core.specs.declared.kinds.Step.{Step}
use Rattle.mark_core.specs.declared.kinds.Step.TheVariants.{ClaimBlock, ReleaseBlock, ReadFree, StoreNew, PublishCells, Take, Give, Push, Pop, StoreRoot, StoreLength, ReadLength, HoldRoot}
use Rattle.mark_core.specs.declared.seat.SeatState.{SeatState}
use Rattle.mark_core.specs.declared.seat.CacheState.{CacheState}
use Rattle.std.specs.List.{All, AllPairs, range_with_len}
use Rattle.std.proofs.lemmas.List.{length-set, length-replicate}
use Rattle.std.proofs.lemmas.List.Elements.{All-nil, All-cons, All-append, All-replicate, All-map}
use Rattle.std.proofs.lemmas.List.Kept.{AllPairs-cons}
use Rattle.mark_core.specs.Shapes.{IsShape}
use Rattle.mark_core.specs.Bits.{has_bit, reference_in}
use Rattle.mark_core.specs.Held.{Slot, Slots, put_packet, length_in_hand}
use Rattle.mark_core.specs.Start.{start_seat, spent_seat, start_seats, start_words, full_pool, packet_bits}
use Rattle.mark_core.proofs.Writing.Frames.{identity-kept}
use Rattle.mark_core.proofs.Formed.FormedSlots.{put-list, drop-list, set-list}
use Rattle.std.proofs.lemmas.List.FromFn.{length-map-range_with_len}
use Rattle.std.proofs.lemmas.Option.{same_Some}
use Rattle.mark_core.proofs.Known.{some_none}
use Rattle.mark_core.proofs.Opening.{start-length, start_region}
use Rattle.mark_core.proofs.Pool.PoolStart.{gap, singles, tail_words}
use Rattle.mark_core.proofs.Formed.FormedWords.{IsWord}

-- A seat's cache stays in range over each step that is allowed.
-- the cache is in range, if there is one
abbrev pub Cached : Shape → Option CacheState → Type 0
Cached sh o = IfSome o (IsCache sh)

claimed : (sh : Shape) (b : ℕ) → b < block_count sh → Cached sh (Some (record { block = b; unread = true; free = 0; used = 0; making = None; last = None }))
claimed sh b h = record { block = h; words = (omega arith, omega arith); making = tt; last = tt }

read : (sh : Shape) (o : Option CacheState) (word : ℕ) → Cached sh o → Cached sh (with_free o word)
read sh None word k = tt
read sh (Some x) word k = record { block = k.block; words = (complement-fits word, k.words.1); making = k.making; last = k.last }

making : (sh : Shape) (o : Option CacheState) (c part : ℕ) → c < sh.cells → part ≤ sh.fields → Cached sh o → Cached sh (with_making o c (part + 1))
making sh None c part h g k = tt
making sh (Some x) c part h g k = record { block = k.block; words = k.words; making = (h, omega arith, omega (arith, g)); last = k.last }

made : (sh : Shape) (o : Option CacheState) (c : ℕ) → free_in o c ≡ true → Cached sh o → Cached sh (with_made o c)
made sh None c f k = tt
made sh (Some x) c f k =
    record {
      block = k.block;
      words = (without-fits x.free (c % 64) k.words.0, with-fits x.used (c % 64) (omega arith) k.words.1);
      making = tt;
      last = and_from _ _ (eq-eqb x.block (c / 64) (free-block x c f)) (with_same x.used (c % 64));
    }

published : (sh : Shape) (o : Option CacheState) → Cached sh o → Cached sh (without_used o)
published sh None k = tt
published sh (Some x) k = record { block = k.block; words = (k.words.0, omega arith); making = k.making; last = tt }

-- the next part of a cell, or the last one
stored : (sh : Shape) (b : Bool) (o : Option CacheState) (c part : ℕ) → (b ≡ true → part ≤ sh.fields) → c < sh.cells → free_in o c ≡ true → Cached sh o → Cached sh (cond b (with_making o c (part + 1)) (with_made o c))
stored sh true o c part g h f k = making sh o c part h (g refl) k
stored sh false o c part g h f k = made sh o c f k

pub cached-after : (sh : Shape) (w : Words) (seats : List SeatState) (s : SeatState) (step : Step) (old : ℕ) → IfSome s.cache MakesFree → Cached sh s.cache → AllTrue (parts sh w seats s step) → Cached sh (seat_after sh s step old).cache
cached-after sh w seats s (ClaimBlock b) old m k ok = choose (Cached sh) (eqb old 0) _ s.cache (claimed sh b (ltb-true b (block_count sh) (and_parts _ _ ok.0).0)) k
cached-after sh w seats s ReleaseBlock old m k ok = tt
cached-after sh w seats s ReadFree old m k ok = read sh s.cache old k
cached-after sh w seats s (StoreNew c part word) old m k ok =
    stored sh (nat_le part sh.fields) s.cache c part (λ e. leb-true part sh.fields e) (ltb-true c sh.cells (and_parts _ _ (and_parts _ _ ok.0).0).0) (next-free s.cache c part m ok.1.0) k
cached-after sh w seats s PublishCells old m k ok = published sh s.cache k
cached-after sh w seats s step old m k ok = k

held-after : (sh : Shape) (w : Words) (seats : List SeatState) (s : SeatState) (step : Step) (old : ℕ) → IsHeldList sh s.held → AllTrue (parts sh w seats s step) → IsHeldList sh (seat_after sh s step old).held
held-after sh w seats s (Take q p) old k ok =
    let hp : p < sh.packets = ltb-true p sh.packets (and_parts (nat_lt q 4) (nat_lt p sh.packets) (and_parts _ _ ok.0).0).1 in
    choose (IsHeldList sh) (has_bit old (p % 64)) (put_packet s.held p) s.held (put-list sh s.held p hp (not-true _ ok.1.0) k) k
held-after sh w seats s (Give p deferred) old k ok = drop-list sh s.held p k
held-after sh w seats s (Push p c) old k ok = set-list sh s.held p (length_in_hand s.held p + 1) false k
held-after sh w seats s (Pop p) old k ok = set-list sh s.held p (length_in_hand s.held p - 1) false k
held-after sh w seats s (StoreLength p) old k ok = set-list sh s.held p (length_in_hand s.held p) true k
held-after sh w seats s (ReadLength p) old k ok = set-list sh s.held p (reference_in old) true k
held-after sh w seats s step old k ok = k

env-after : (sh : Shape) (s : SeatState) (step : Step) (old : ℕ) → length s.env ≡ 32 → length (seat_after sh s step old).env ≡ 32
env-after sh s (StoreRoot v r) old k = rw length-set k
env-after sh s (HoldRoot v r) old k = rw length-set k
env-after sh s step old k = k

-- the record of a seat after its step is in range, if what it read is
pub seat-kept : (sh : Shape) (w : Words) (seats : List SeatState) (i : ℕ) (s : SeatState) (step : Step) (old : ℕ) → IsShape sh → IsSeat sh i s → ((v : ℕ) → seat_variable s v ≤ sh.cells) → IfSome s.cache MakesFree → Learns sh step old → AllTrue (parts sh w seats s step)
    → IsSeat sh i (seat_after sh s step old)
seat-kept sh w seats i s step old k a n m l ok =
    record {
      number = ap (λ (x : ℕ × Option ℕ × Bool). x.0) (identity-kept sh s step old) ∙ a.number;
      section = ap (λ (x : ℕ × Option ℕ × Bool). x.1) (identity-kept sh s step old) ∙ a.section;
      held = held-after sh w seats s step old a.held ok;
      popped = popped-after sh s step old k a.popped l;
      scan = scan-after sh w seats s step old a.popped a.scan ok;
      value = value-after sh s step old k a.value l;
      fresh = fresh-after sh w seats s step old a.fresh ok;
      owes = owes-after sh w seats s step old k n a.owes ok;
      cleaning = cleaning-after sh w seats s step old a.cleaning ok;
      env = env-after sh s step old a.env;
      cache = cached-after sh w seats s step old m a.cache ok;
      block = block-after sh s step old k a.block;
      made = made-after sh w seats s step old a.made ok;
    }

no_pairs : AllPairs IsApart []
no_pairs i j d l h = absurd (omega (arith, h))

-- one more free slot
free_slot : (hs : Slots) → AllPairs IsApart hs → AllPairs IsApart (None ∷ hs)
free_slot hs a = AllPairs-cons IsApart None hs (λ k d h. tt) a

abbrev Exists : Shape → Slot → Type 0
Exists sh x = IfSome x (λ h. h.0 < sh.packets)

no_packet : (sh : Shape) (hs : Slots) → All (Exists sh) hs → All (Exists sh) (None ∷ hs)
no_packet sh hs a = All-cons (Exists sh) None hs tt a

-- four free slots
free_slots : (sh : Shape) → IsHeldList sh (None ∷ None ∷ None ∷ None ∷ [])
free_slots sh =
    let one : Slots = None ∷ [] in
    let two : Slots = None ∷ one in
    let three : Slots = None ∷ two in
    record {
      four = refl;
      apart = free_slot three (free_slot two (free_slot one (free_slot [] no_pairs)));
      within = no_packet sh three (no_packet sh two (no_packet sh one (no_packet sh [] (All-nil (Exists sh)))));
    }

pub new-seat : (sh : Shape) (k : ℕ) → IsSeat sh k (start_seat sh k)
new-seat sh k =
    record {
      number = refl;
      section = refl;
      held = free_slots sh;
      popped = tt;
      scan = tt;
      value = tt;
      fresh = tt;
      owes = tt;
      cleaning = tt;
      env = length-replicate {A = ℕ} 32 0;
      cache = tt;
      block = tt;
      made = omega arith;
    }

pub ended-seat : (sh : Shape) (k : ℕ) → IsSeat sh k (spent_seat sh k)
ended-seat sh k =
    let a : IsSeat sh k (start_seat sh k) = new-seat sh k in
    record {
      number = a.number;
      section = a.section;
      held = a.held;
      popped = tt;
      scan = tt;
      value = tt;
      fresh = tt;
      owes = tt;
      cleaning = tt;
      env = a.env;
      cache = tt;
      block = tt;
      made = a.made;
    }

-- The state in which nothing has happened is in range.
-- seat i of those that begin
pub seat-at : (sh : Shape) (a n i : ℕ) (s : SeatState) → slice_get (map (start_seat sh) (range_with_len a n)) i ≡ Some s → s ≡ start_seat sh (a + i)
seat-at sh a zero i s e = absurd (some_none s (sym e))
seat-at sh a (suc n) zero s e = sym (same_Some (start_seat sh a) s e) ∙ ap (start_seat sh) (omega arith)
seat-at sh a (suc n) (suc i) s e = seat-at sh (a + 1) n i s e ∙ ap (start_seat sh) (omega arith)

seat_in : (sh : Shape) (n i : ℕ) (s : SeatState) → slice_get (start_seats sh n) i ≡ Some s → IsSeat sh i s
seat_in sh n i s e = subst (IsSeat sh i) (sym (seat-at sh 0 n i s e ∙ ap (start_seat sh) (omega arith))) (new-seat sh i)

zeros_fit : (n : ℕ) → All IsWord (replicate n 0)
zeros_fit n = All-replicate IsWord n 0 (omega arith)

-- the bits of up to 64 packets
bits_fit : (n g : ℕ) → IsWord (packet_bits n g)
bits_fit n g = let p : 2 ^ min 64 (n - 64 * g) ≤ 2 ^ 64 = pow_mono {i = min 64 (n - 64 * g)} {j = 64} (omega arith) in omega (arith, p)

singles_fit : (sh : Shape) → IsShape sh → All IsWord (singles sh)
singles_fit sh k =
    let last : List ℕ = sh.cells ∷ 0 ∷ [] in
    let inner : List ℕ = replicate 6 0 ++ last in
    let rest : List ℕ = (64 + sh.packets) ∷ inner in
    let ends : All IsWord last = All-cons IsWord sh.cells (0 ∷ []) (omega (arith, k.cells)) (zeros_fit 1) in
    let counts : All IsWord rest = All-cons IsWord (64 + sh.packets) inner (omega (arith, k.packets)) (All-append IsWord (replicate 6 0) last (zeros_fit 6) ends) in
    All-cons IsWord 0 (0 ∷ rest) (omega arith) (All-cons IsWord 0 rest (omega arith) counts)

words_fit : (sh : Shape) → IsShape sh → All IsWord (start_words sh)
words_fit sh k =
    let pool : All IsWord (full_pool sh) = All-map IsWord (packet_bits sh.packets) (range_with_len 0 (pool_words sh)) (λ i d h. bits_fit sh.packets (get_or (range_with_len 0 (pool_words sh)) i d)) in
    let ends : All IsWord (full_pool sh ++ tail_words sh) = All-append IsWord (full_pool sh) (tail_words sh) pool (zeros_fit (3 * pool_words sh + 2)) in
    let inner : All IsWord (replicate (gap sh) 0 ++ (full_pool sh ++ tail_words sh)) = All-append IsWord (replicate (gap sh) 0) (full_pool sh ++ tail_words sh) (zeros_fit (gap sh)) ends in
    subst (All IsWord) (ap (λ xs. singles sh ++ xs) (sym (append_assoc (replicate (gap sh) 0) (full_pool sh) (tail_words sh)))) (All-append IsWord (singles sh) (replicate (gap sh) 0 ++ (full_pool sh ++ tail_words sh)) (singles_fit sh k) inner)

-- so all words and records are in range at the start
pub formed-starts : (sh : Shape) (n : ℕ) → IsShape sh → 1 ≤ n → n ≤ 41 → IsWellFormed (start_core sh n)
formed-starts sh n k some few =
    let l : length (start_seats sh n) ≡ n = length-map-range_with_len (start_seat sh) 0 n in
    record {
      shaped = k;
      words = start-length sh;
      words_in_range = words_fit sh k;
      phase = omega arith;
      cards = start_region sh 5 1 (omega arith);
      values = λ i d h. omega (arith, start_region sh 9 0 (omega arith) i d h);
      seat_count = (omega (arith, l), omega (arith, l));
      seats = seat_in sh n;
    }
