-- The rule of caches in a state that meets the rule of the core, and after the steps on the cache of the seat that acts.
use Rattle.std.proofs.Common.{ℕ, ◌≡◌, ◌+◌, ◌<◌, List, set, get_or, length, arith, refl, sym, ap, ◌∙◌, subst, Bool, true, false, Option, Some, None, cond, eqb}
use Rattle.std.specs.Prelude.{IfSome, slice_get, slice_index, unwrap_or, is_some, is_none, nat_lt, bit_or}
use Rattle.std.specs.Option.{option_map}
use Rattle.std.proofs.lemmas.Bool.{and_parts, ltb-true, eqb-true, false≢true, ne_eqb, true≢false}
use Rattle.std.proofs.lemmas.List.{set-get_or, length-map}
use Rattle.std.proofs.lemmas.List.Elements.{All-map}
use Rattle.std.proofs.lemmas.Option.{slice_get-map, slice_get-get_or, slice_get_within, get_or_from_slice_get}
use Rattle.mark_core.specs.Layout.{Words, words_of, region_sizes, block_count, region_base}
use Rattle.mark_core.specs.Seats.{cache_block, is_the, makes, used_in}
use Rattle.mark_core.specs.Views.{Maker, makers, maker_of}
use Rattle.mark_core.specs.Rules.HeapRules.{Caches}
use Rattle.mark_core.specs.Steps.MutatorSteps.{cached_block, with_free, without_used, used_bits}
use Rattle.mark_core.specs.Parts.{parts}
use Rattle.mark_core.specs.Effects.{seat_after}
use Rattle.mark_core.specs.Steps.{Core, AllTrue}
use Rattle.mark_core.specs.Laws.{IsCore}
use Rattle.mark_core.proofs.Writing.Places.{region-length, words-get}
use Rattle.mark_core.proofs.Known.{found, words_left, in_range, HasCache}
use Rattle.mark_core.proofs.Formed.FormedLearns.{each-read, one-of}
use Rattle.mark_core.proofs.Formed.FormedWords.{word-in}
use Rattle.mark_core.proofs.Caches.CachesSeat.{CacheFacts, all-facts}
use Rattle.mark_core.proofs.Caches.CachesSteps.{Caching, with_cache, claimed_cache, claims-kept, releases-kept, frees-kept}
use Rattle.mark_core.proofs.Caches.CachesPublish.{publish-kept}
use Rattle.mark_core.proofs.Basics.{none-is}
use Rattle.mark_core.specs.declared.kinds.Shape.{Shape}
use Rattle.mark_core.specs.declared.kinds.Step.TheVariants.{ClaimBlock, ReleaseBlock, ReadFree, PublishCells}
use Rattle.mark_core.specs.declared.seat.SeatState.{SeatState}
use Rattle.mark_core.specs.declared.seat.CacheState.{CacheState}
use Rattle.std.specs.List.{All}
use Rattle.mark_core.specs.Shapes.{IsShape}
use Rattle.mark_core.specs.Cells.{in_use}
use Rattle.mark_core.specs.Start.{start_words, start_seats, full_pool}
use Rattle.mark_core.proofs.Pool.PoolStart.{gap, singles, tail_words, in-gap, each-seat}
use Rattle.mark_core.proofs.References.ReferencesRoots.{unpublished, none-used}

-- the rule over these words and these makers
abbrev pub CachesOf : Shape → Words → List Maker → Type 0
CachesOf sh w ms = Caches sh w.owners w.allocs w.identities w.fields ms

-- what the rule of the core says of caches
pub caching : (c : Core) → IsCore c → Caching c.shape (words_of c.shape c.words).owners (words_of c.shape c.words).allocs (words_of c.shape c.words).identities (words_of c.shape c.words).fields (makers c.seats)
caching c k =
    let sh : Shape = c.shape in
    let long = λ (r : ℕ). region-length (region_sizes sh) r c.words (omega (arith, k.formed.words)) in
    record {
      shaped = k.formed.shaped;
      owners_long = long 3;
      allocs_long = long 4;
      ids_long = long 9;
      caches = k.sound.caches;
      facts = All-map (λ (m : Maker). CacheFacts m.cache) maker_of c.seats (all-facts c k);
      ranges = All-map (HasCache sh) maker_of c.seats (λ i d h. (k.formed.seats i (get_or c.seats i d) (slice_get-get_or c.seats i d h)).cache);
      sections = each-read maker_of (λ j (m : Maker). m.section ≡ cond (nat_lt j sh.sections) (Some j) None) c.seats (λ j s e. (k.formed.seats j s e).section);
    }

-- the maker of a seat
pub maker-at : (seats : List SeatState) (i : ℕ) (s : SeatState) → slice_get seats i ≡ Some s → slice_get (makers seats) i ≡ Some (maker_of s)
maker-at seats i s g = slice_get-map maker_of seats i ∙ ap (option_map maker_of) g

-- a record that is written back
pub same-maker : (ms : List Maker) (i : ℕ) (m : Maker) → slice_get ms i ≡ Some m → set ms i m ≡ ms
same-maker ms i m g = subst (λ (n : Maker). set ms i n ≡ ms) (get_or_from_slice_get ms i m m g) (set-get_or ms i m)

-- the block of a cache
pub block_named : (o : Option CacheState) → is_some o ≡ true → cache_block o ≡ Some (unwrap_or (cache_block o) 0)
block_named None e = absurd (false≢true e)
block_named (Some x) e = refl

-- a claim of a block, which succeeds if it has no owner
claim_by : (sh : Shape) (w : Words) (ms : List Maker) (i b number old : ℕ) (z : Bool) (m : Maker) → Caching sh w.owners w.allocs w.identities w.fields ms → slice_get ms i ≡ Some m → b < block_count sh → old ≡ slice_index w.owners b → (z ≡ true → old ≡ 0) → number ≡ i → m.cache ≡ None → i < length ms
    → Caches sh (set w.owners b (cond z (number + 1) old)) w.allocs w.identities w.fields (set ms i (with_cache m (cond z (claimed_cache b) m.cache)))
claim_by sh w ms i b number old true m k g hb o z n none hi =
    subst (λ a. Caches sh (set w.owners b (a + 1)) w.allocs w.identities w.fields (set ms i (with_cache m (claimed_cache b)))) (sym n) (claims-kept sh w.owners w.allocs w.identities w.fields ms i b m k g hb (sym o ∙ z refl) none hi)
claim_by sh w ms i b number old false m k g hb o z n none hi = rw (o, set-get_or w.owners b 0, same-maker ms i m g) k.caches

pub claim-at : (c : Core) (i b : ℕ) (s : SeatState) → IsCore c → slice_get c.seats i ≡ Some s → AllTrue (parts c.shape (words_of c.shape c.words) c.seats s (ClaimBlock b))
    → CachesOf c.shape (words_left c s (ClaimBlock b)) (set (makers c.seats) i (maker_of (seat_after c.shape s (ClaimBlock b) (found c s (ClaimBlock b)))))
claim-at c i b s k g ok =
    let a = and_parts (nat_lt b (block_count c.shape)) (is_none s.cache) ok.0 in
    let hb : b < block_count c.shape = ltb-true b (block_count c.shape) a.0 in
    let old : ℕ = found c s (ClaimBlock b) in
    let word : old ≡ slice_index (words_of c.shape c.words).owners b = words-get (region_sizes c.shape) 3 c.words b 0 hb in
    let inside : i < length (makers c.seats) = rw length-map (slice_get_within c.seats i s g) in
    claim_by c.shape (words_of c.shape c.words) (makers c.seats) i b s.number old (eqb old 0) (maker_of s) (caching c k) (maker-at c.seats i s g) hb word (λ e. eqb-true old 0 e) (k.formed.seats i s g).number (none-is s.cache a.1) inside

pub release-at : (c : Core) (i : ℕ) (s : SeatState) → IsCore c → slice_get c.seats i ≡ Some s → AllTrue (parts c.shape (words_of c.shape c.words) c.seats s ReleaseBlock)
    → CachesOf c.shape (words_left c s ReleaseBlock) (set (makers c.seats) i (maker_of (seat_after c.shape s ReleaseBlock (found c s ReleaseBlock))))
release-at c i s k g ok =
    let w : Words = words_of c.shape c.words in
    releases-kept c.shape w.owners w.allocs w.identities w.fields (makers c.seats) i (cached_block s) (maker_of s) (caching c k) (maker-at c.seats i s g) (in_range c i s k g).cache (block_named s.cache ok.0)

-- the word of the cache's block
block_word : (allocs : List ℕ) (o : Option CacheState) (word : ℕ) → slice_index allocs (unwrap_or (cache_block o) 0) ≡ word → IfSome o (λ (x : CacheState). slice_index allocs x.block ≡ word)
block_word allocs None word e = tt
block_word allocs (Some x) word e = e

pub read_free-at : (c : Core) (i : ℕ) (s : SeatState) → IsCore c → slice_get c.seats i ≡ Some s → CachesOf c.shape (words_left c s ReadFree) (set (makers c.seats) i (maker_of (seat_after c.shape s ReadFree (found c s ReadFree))))
read_free-at c i s k g =
    let w : Words = words_of c.shape c.words in
    let b : ℕ = cached_block s in
    let old : ℕ = found c s ReadFree in
    let word : slice_index w.allocs b ≡ old = sym (words-get (region_sizes c.shape) 4 c.words b 0 (in_range c i s k g).cache) in
    let ms : List Maker = set (makers c.seats) i (with_cache (maker_of s) (with_free s.cache old)) in
    let same : w.allocs ≡ set w.allocs b old = sym (ap (λ v. set w.allocs b v) (sym word) ∙ set-get_or w.allocs b 0) in
    subst (λ xs. Caches c.shape w.owners xs w.identities w.fields ms) same
    (frees-kept c.shape w.owners w.allocs w.identities w.fields (makers c.seats) i old (maker_of s) (caching c k) (maker-at c.seats i s g) (word-in c.words _ k.formed.words_in_range) (block_word w.allocs s.cache old word))

pub publish-at : (c : Core) (i : ℕ) (s : SeatState) → IsCore c → slice_get c.seats i ≡ Some s → AllTrue (parts c.shape (words_of c.shape c.words) c.seats s PublishCells)
    → CachesOf c.shape (words_left c s PublishCells) (set (makers c.seats) i (maker_of (seat_after c.shape s PublishCells (found c s PublishCells))))
publish-at c i s k g ok =
    let w : Words = words_of c.shape c.words in
    let b : ℕ = cached_block s in
    let hb : b < block_count c.shape = (in_range c i s k g).cache in
    let word : slice_index w.allocs b ≡ found c s PublishCells = sym (words-get (region_sizes c.shape) 4 c.words b 0 hb) in
    let ms : List Maker = set (makers c.seats) i (with_cache (maker_of s) (without_used s.cache)) in
    subst (λ v. Caches c.shape w.owners (set w.allocs b (bit_or v (used_bits s.cache))) w.identities w.fields ms) word
    (publish-kept c.shape w.owners w.allocs w.identities w.fields (makers c.seats) i b (maker_of s) (caching c k) (maker-at c.seats i s g) hb (block_named s.cache ok.0))

-- The state in which nothing has happened meets the rule of caches.
abbrev Bare : Maker → Type 0
Bare m = m.cache ≡ None

-- no seat has a cache
all_bare : (sh : Shape) (n : ℕ) → All Bare (makers (start_seats sh n))
all_bare sh n = All-map Bare maker_of (start_seats sh n) (each-seat (λ (s : SeatState). s.cache ≡ None) sh n (λ k. refl))

-- no block has an owner
no_owner : (sh : Shape) (b : ℕ) → b < block_count sh → slice_index (words_of sh (start_words sh)).owners b ≡ 0
no_owner sh b h =
    sym (words-get (region_sizes sh) 3 (start_words sh) b 0 h) ∙ in-gap (singles sh) (full_pool sh) (tail_words sh) 11 (gap sh) (region_base (region_sizes sh) 3 + b) refl (omega arith) (omega (arith, h))

-- so the rule of caches is met at the start
pub caches-starts : (sh : Shape) (n : ℕ) → IsShape sh → CachesOf sh (words_of sh (start_words sh)) (makers (start_seats sh n))
caches-starts sh n k =
    let w : Words = words_of sh (start_words sh) in
    let ms : List Maker = makers (start_seats sh n) in
    let never = λ (c : ℕ) (h : c < sh.cells) (P : Type 0) (u : in_use w.allocs ms c ≡ true). absurd {A = P} (true≢false (sym u ∙ none-used sh n k c h)) in
    record {
      owned = λ i m e b h. ap (λ o. is_the (cache_block o) b) (one-of Bare ms i m e (all_bare sh n)) ∙ sym (ne_eqb (slice_index w.owners b) (i + 1) (λ z. omega (arith, z, no_owner sh b h)));
      owners_exist = λ b h. omega (arith, no_owner sh b h);
      unpublished = λ i d l c h e. unpublished sh k c h;
      making_nil = λ i d l c part j e. absurd (false≢true (sym (ap (λ o. makes o c part) (all_bare sh n i d l)) ∙ e));
      used_own = λ i d l c h e. absurd (false≢true (sym (ap (λ o. used_in o c) (all_bare sh n i d l)) ∙ e));
      distinct = λ c h d g u. never c h _ u;
      numbers_below = λ i d l live c h u. never c h _ u;
      sections_seated = λ c h u. never c h _ u;
    }
