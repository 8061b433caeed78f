-- The rule of caches after cells are published or freed, after a field is stored, and after a seat is added or ended.
use Rattle.std.proofs.Common.{ℕ, ◌≡◌, ◌+◌, ◌*◌, ◌/◌, ◌%◌, ◌<◌, List, [], ◌∷◌, ◌++◌, set, get_or, length, arith, refl, sym, ap, ◌∙◌, true, false, ◌||◌, Option, Some, None, ⊎_elim}
use Rattle.std.specs.Prelude.{IfSome, slice_get, slice_index, bit_or, bit_and}
use Rattle.std.proofs.lemmas.Bool.{and_from, or_cases, or_left, or_right, false_from_ne_true, eq-eqb, ne_eqb, true≢false, false≢true}
use Rattle.std.proofs.lemmas.List.{length-append}
use Rattle.std.proofs.lemmas.Option.{same_Some, slice_get-get_or}
use Rattle.mark_core.specs.Shapes.{IsShape}
use Rattle.mark_core.specs.Layout.{block_count}
use Rattle.mark_core.specs.Bits.{has_bit, cell_bit}
use Rattle.mark_core.specs.Seats.{is_the, cache_block, free_in, used_in, makes}
use Rattle.mark_core.specs.Views.{Maker}
use Rattle.mark_core.specs.Cells.{in_use}
use Rattle.mark_core.specs.Rules.HeapRules.{Caches, CachesUnpublished, MakesNil, UsedOwn}
use Rattle.mark_core.specs.Steps.MutatorSteps.{used_bits, without_used}
use Rattle.mark_core.specs.WellFormed.{IsCache}
use Rattle.mark_core.proofs.Known.{some_none, HasCache}
use Rattle.mark_core.proofs.Doing.{all-push}
use Rattle.mark_core.proofs.Formed.FormedLearns.{one-of, each-push}
use Rattle.mark_core.proofs.Caches.CachesSeat.{making-free, free-block, CacheFacts}
use Rattle.mark_core.proofs.Caches.CachesClaims.{Owns, same-seat, free-unused, owns-same}
use Rattle.mark_core.proofs.Caches.CachesSteps.{Names, names-less, names-fewer, names-push, names-spent, use-fewer, use-published, use-made, use-mine, use-push, bit-set, Caching, with_cache, names-of, caches-set, unpublished-fewer, making-other, published_block, published_free, published_makes}
use Rattle.mark_core.proofs.Writing.CellBits.{bit-either, bit-first}
use Rattle.mark_core.proofs.Used.UsedSeats.{published-none}
use Rattle.mark_core.specs.declared.kinds.Shape.{Shape}
use Rattle.mark_core.specs.declared.seat.CacheState.{CacheState}

-- a bit of the used cells' word is a used cell
used_bit : (o : Option CacheState) (b c : ℕ) → cache_block o ≡ Some b → b ≡ c / 64 → has_bit (used_bits o) (c % 64) ≡ true → used_in o c ≡ true
used_bit None b c e f h = absurd (some_none b (sym e))
used_bit (Some x) b c e f h = and_from _ _ (eq-eqb x.block (c / 64) (same_Some x.block b e ∙ f)) h

-- a cell whose bit is set after publishing was published or used
newly : (P : Type 0) (allocs : List ℕ) (o : Option CacheState) (b c : ℕ) → b < length allocs → cache_block o ≡ Some b → (cell_bit allocs c ≡ true → P) → (used_in o c ≡ true → P) → cell_bit (set allocs b (bit_or (slice_index allocs b) (used_bits o))) c ≡ true → P
newly P allocs o b c h e old new =
    bit-set P allocs b (bit_or (slice_index allocs b) (used_bits o)) c h
    (λ s a.
    ⊎_elim
    (λ (f : has_bit (slice_index allocs b) (c % 64) ≡ true). old (ap (λ k. has_bit (slice_index allocs k) (c % 64)) (sym s) ∙ f))
    (λ (f : has_bit (used_bits o) (c % 64) ≡ true). new (used_bit o b c e s f))
    (bit-either (slice_index allocs b) (used_bits o) (c % 64) a))
    old

not_both : (o : Option CacheState) (c : ℕ) (P : Type 0) → CacheFacts o → free_in o c ≡ true → used_in o c ≡ true → P
not_both o c P k f u = absurd (true≢false (sym (and_from (free_in o c) (used_in o c) f u) ∙ k.free_apart_from_used c))

-- only free cells are left in a cache whose used cells were published
still_free : (o : Option CacheState) (c : ℕ) → (free_in (without_used o) c || used_in (without_used o) c) ≡ true → free_in o c ≡ true
still_free o c e =
    ⊎_elim
    (λ (f : free_in (without_used o) c ≡ true). sym (published_free o c) ∙ f)
    (λ (u : used_in (without_used o) c ≡ true). absurd (false≢true (sym (published-none o c) ∙ u)))
    (or_cases (free_in (without_used o) c) (used_in (without_used o) c) e)

-- 24: the used cells are published
pub publish-kept : (sh : Shape) (owners allocs ids fields : List ℕ) (ms : List Maker) (i b : ℕ) (m : Maker) → Caching sh owners allocs ids fields ms → slice_get ms i ≡ Some m → b < block_count sh → cache_block m.cache ≡ Some b
    → Caches sh owners (set allocs b (bit_or (slice_index allocs b) (used_bits m.cache))) ids fields (set ms i (with_cache m (without_used m.cache)))
publish-kept sh owners allocs ids fields ms i b m k g hb some =
    let n : Maker = with_cache m (without_used m.cache) in
    let allocs' : List ℕ = set allocs b (bit_or (slice_index allocs b) (used_bits m.cache)) in
    let a : Caches sh owners allocs ids fields ms = k.caches in
    let long : b < length allocs = omega (arith, hb, k.allocs_long) in
    let facts : CacheFacts m.cache = one-of (λ (x : Maker). CacheFacts x.cache) ms i m g k.facts in
    let mine : CachesUnpublished sh allocs m = one-of (CachesUnpublished sh allocs) ms i m g a.unpublished in
    let nil : MakesNil sh fields m = one-of (MakesNil sh fields) ms i m g a.making_nil in
    let bits = λ (c : ℕ) (e : cell_bit allocs' c ≡ true). newly (in_use allocs ms c ≡ true) allocs m.cache b c long some (use-published allocs ms c) (use-mine allocs ms i c m g) e in
    let less = λ (c : ℕ) (h : c < sh.cells) (u : in_use allocs' (set ms i n) c ≡ true). use-fewer allocs allocs' ms i c m n g (λ e. absurd (false≢true (sym (published-none m.cache c) ∙ e))) (bits c) u in
    caches-set sh owners allocs' ids fields ms i n (owns-same sh owners ms i m n g (published_block m.cache) a.owned) a.owners_exist
    (λ c h e.
    let free : free_in m.cache c ≡ true = still_free m.cache c e in
    false_from_ne_true (cell_bit allocs' c)
    (λ v. newly ⊥ allocs m.cache b c long some (λ p. true≢false (sym p ∙ mine c h (or_left (free_in m.cache c) (used_in m.cache c) free))) (not_both m.cache c ⊥ facts free) v))
    (λ j x d e.
    unpublished-fewer sh allocs allocs' x
    (λ c hc f v. newly (cell_bit allocs c ≡ true) allocs m.cache b c long some (λ p. p) (λ u. absurd (d (same-seat sh owners ms i j c m x k.shaped a.owned g e hc (or_right (free_in m.cache c) (used_in m.cache c) u) f))) v)
    (one-of (CachesUnpublished sh allocs) ms j x e a.unpublished))
    (λ c part x e l f. nil c part x (sym (published_makes m.cache c part) ∙ e) l f)
    (λ j x d e. one-of (MakesNil sh fields) ms j x e a.making_nil)
    (λ c h e. absurd (false≢true (sym (published-none m.cache c) ∙ e)))
    (λ j x d e. one-of (UsedOwn sh ids) ms j x e a.used_own)
    (names-fewer sh ids (in_use allocs ms) (in_use allocs' (set ms i n)) ms i m n g (refl, refl, refl) less (names-of sh owners allocs ids fields ms a))

-- 35: the allocation bits of cells that aren't marked are cleared
pub free-kept : (sh : Shape) (owners allocs ids fields : List ℕ) (ms : List Maker) (b mask : ℕ) → Caching sh owners allocs ids fields ms → b < block_count sh → Caches sh owners (set allocs b (bit_and (slice_index allocs b) mask)) ids fields ms
free-kept sh owners allocs ids fields ms b mask k hb =
    let allocs' : List ℕ = set allocs b (bit_and (slice_index allocs b) mask) in
    let a : Caches sh owners allocs ids fields ms = k.caches in
    let long : b < length allocs = omega (arith, hb, k.allocs_long) in
    let bits = λ (c : ℕ) (e : cell_bit allocs' c ≡ true).
    bit-set (cell_bit allocs c ≡ true) allocs b (bit_and (slice_index allocs b) mask) c long (λ s f. ap (λ x. has_bit (slice_index allocs x) (c % 64)) (sym s) ∙ bit-first (slice_index allocs b) mask (c % 64) f) (λ p. p) e in
    let less = λ (c : ℕ) (h : c < sh.cells) (u : in_use allocs' ms c ≡ true). ⊎_elim (λ (p : cell_bit allocs' c ≡ true). use-published allocs ms c (bits c p)) (use-made allocs ms c) (or_cases (cell_bit allocs' c) _ u) in
    let names : Names sh ids (in_use allocs' ms) ms = names-less sh ids (in_use allocs ms) (in_use allocs' ms) ms less (names-of sh owners allocs ids fields ms a) in
    record {
      owned = a.owned;
      owners_exist = a.owners_exist;
      unpublished = λ j d h. unpublished-fewer sh allocs allocs' (get_or ms j d) (λ c hc f e. bits c e) (a.unpublished j d h);
      making_nil = a.making_nil;
      used_own = a.used_own;
      distinct = names.distinct;
      numbers_below = names.numbers_below;
      sections_seated = names.sections_seated;
    }

-- a cell of a cache exists
free_exists : (sh : Shape) (o : Option CacheState) (c : ℕ) → IsShape sh → IfSome o (IsCache sh) → free_in o c ≡ true → c < sh.cells
free_exists sh None c k h e = absurd (false≢true e)
free_exists sh (Some x) c k h e = omega (arith, h.block, free-block x c e, k.whole_blocks)

-- a cell that a seat makes isn't in use
making_unused : (sh : Shape) (owners allocs ids fields : List ℕ) (ms : List Maker) (j c part : ℕ) (x : Maker) → Caching sh owners allocs ids fields ms → slice_get ms j ≡ Some x → makes x.cache c part ≡ true → in_use allocs ms c ≡ false
making_unused sh owners allocs ids fields ms j c part x k g e =
    let facts : CacheFacts x.cache = one-of (λ (y : Maker). CacheFacts y.cache) ms j x g k.facts in
    let free : free_in x.cache c ≡ true = making-free x.cache c part facts.made_from_free e in
    free-unused sh owners allocs ms j c x k.shaped k.caches.owned k.caches.unpublished facts g (free_exists sh x.cache c k.shaped (one-of (HasCache sh) ms j x g k.ranges) free) free

-- 18: a field of a cell in use is stored
pub field-kept : (sh : Shape) (owners allocs ids fields : List ℕ) (ms : List Maker) (d f v : ℕ) → Caching sh owners allocs ids fields ms → in_use allocs ms d ≡ true → f < sh.fields → Caches sh owners allocs ids (set fields (d * sh.fields + f) v) ms
field-kept sh owners allocs ids fields ms d f v k used hf =
    let a : Caches sh owners allocs ids fields ms = k.caches in
    record {
      owned = a.owned;
      owners_exist = a.owners_exist;
      unpublished = a.unpublished;
      making_nil =
          λ j e h.
          let x : Maker = get_or ms j e in
          let at : slice_get ms j ≡ Some x = slice_get-get_or ms j e h in
          making-other sh fields d f v x hf (λ c part m s. true≢false (sym used ∙ sym (ap (in_use allocs ms) s) ∙ making_unused sh owners allocs ids fields ms j c part x k at m)) (a.making_nil j e h);
      used_own = a.used_own;
      distinct = a.distinct;
      numbers_below = a.numbers_below;
      sections_seated = a.sections_seated;
    }

no_cells : (o : Option CacheState) (c : ℕ) (P : Type 0) → o ≡ None → (free_in o c || used_in o c) ≡ true → P
no_cells None c P e f = absurd (false≢true f)
no_cells (Some x) c P e f = absurd (some_none x e)

no_making : (o : Option CacheState) (c part : ℕ) (P : Type 0) → o ≡ None → makes o c part ≡ true → P
no_making None c part P e f = absurd (false≢true f)
no_making (Some x) c part P e f = absurd (some_none x e)

-- 31: a further seat without a cache
pub push-kept : (sh : Shape) (owners allocs ids fields : List ℕ) (ms : List Maker) (n : Maker) → Caches sh owners allocs ids fields ms → n.cache ≡ None → ((z : ℕ) → is_the n.section z ≡ true → (z ≡ length ms) × (z < sh.sections)) → Caches sh owners allocs ids fields (ms ++ n ∷ [])
push-kept sh owners allocs ids fields ms n a none next =
    let unused : (c : ℕ) → used_in n.cache c ≡ false = λ c. ap (λ o. used_in o c) none in
    let names : Names sh ids (in_use allocs (ms ++ n ∷ [])) (ms ++ n ∷ []) =
    names-push sh ids (in_use allocs ms) (in_use allocs (ms ++ n ∷ [])) ms n (λ c h u. use-push allocs ms c n (unused c) u) next (names-of sh owners allocs ids fields ms a) in
    record {
      owned = each-push (Owns sh owners) ms n (λ b h. ap (λ o. is_the (cache_block o) b) none ∙ sym (ne_eqb (slice_index owners b) (length ms + 1) (λ z. omega (arith, z, a.owners_exist b h)))) a.owned;
      owners_exist = λ b h. rw length-append (omega (arith, a.owners_exist b h));
      unpublished = all-push (CachesUnpublished sh allocs) ms n a.unpublished (λ c h e. no_cells n.cache c _ none e);
      making_nil = all-push (MakesNil sh fields) ms n a.making_nil (λ c part i e l f. no_making n.cache c part _ none e);
      used_own = all-push (UsedOwn sh ids) ms n a.used_own (λ c h e. absurd (false≢true (sym (unused c) ∙ e)));
      distinct = names.distinct;
      numbers_below = names.numbers_below;
      sections_seated = names.sections_seated;
    }

-- 32: a seat without a cache ends
pub end-kept : (sh : Shape) (owners allocs ids fields : List ℕ) (ms : List Maker) (i : ℕ) (m n : Maker) → Caches sh owners allocs ids fields ms → slice_get ms i ≡ Some m → m.cache ≡ None → n.cache ≡ None → n.spent ≡ true → Caches sh owners allocs ids fields (set ms i n)
end-kept sh owners allocs ids fields ms i m n a g before none ended =
    let unused : (c : ℕ) → used_in n.cache c ≡ false = λ c. ap (λ o. used_in o c) none in
    let less = λ (c : ℕ) (h : c < sh.cells) (u : in_use allocs (set ms i n) c ≡ true). use-fewer allocs allocs ms i c m n g (λ e. absurd (false≢true (sym (unused c) ∙ e))) (use-published allocs ms c) u in
    caches-set sh owners allocs ids fields ms i n (owns-same sh owners ms i m n g (ap cache_block none ∙ sym (ap cache_block before)) a.owned) a.owners_exist
    (λ c h e. no_cells n.cache c _ none e)
    (λ j x d e. one-of (CachesUnpublished sh allocs) ms j x e a.unpublished)
    (λ c part x e l f. no_making n.cache c part _ none e)
    (λ j x d e. one-of (MakesNil sh fields) ms j x e a.making_nil)
    (λ c h e. absurd (false≢true (sym (unused c) ∙ e)))
    (λ j x d e. one-of (UsedOwn sh ids) ms j x e a.used_own)
    (names-spent sh ids (in_use allocs ms) (in_use allocs (set ms i n)) ms i n less ended (names-of sh owners allocs ids fields ms a))
