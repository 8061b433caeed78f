-- The rule of caches after a seat claims a block, gives it up, or reads which of its cells are free.
use Rattle.std.proofs.Common.{ℕ, ◌≡◌, ◌≢◌, ◌+◌, ◌<◌, ◌≤◌, List, set, length, arith, refl, sym, ap, ◌∙◌, Bool, true, false, ◌||◌, Option, Some, None, cond, ◌/◌, ◌%◌, [], ◌∷◌, ◌++◌, get_or, ⊎_elim, ◌*◌, subst, eqb}
use Rattle.std.specs.Prelude.{IfSome, slice_get, slice_index, nat_lt, IsTrue, IsFalse}
use Rattle.std.specs.List.{All, list_any}
use Rattle.std.proofs.lemmas.Bool.{or_right, false≢true, or_cases, or_left, cases_eq, true≢false, and_parts, false_from_ne_true, cases_lt, eqb-true}
use Rattle.std.proofs.lemmas.List.{length-set, get_or-set_same, get_or-set_other, length-append, get_or_past}
use Rattle.mark_core.specs.Shapes.{IsShape, EachBlock, EachCell}
use Rattle.mark_core.specs.Layout.{block_count}
use Rattle.mark_core.specs.Seats.{cache_block, free_in, used_in, is_the, makes}
use Rattle.mark_core.specs.Views.{Maker}
use Rattle.mark_core.specs.Cells.{in_use, used_by, field}
use Rattle.mark_core.specs.Rules.HeapRules.{Caches, CachesUnpublished, MakesNil, UsedOwn, section_of_cell, number_of_cell}
use Rattle.mark_core.specs.Steps.MutatorSteps.{with_free, with_making, with_made, without_used}
use Rattle.mark_core.proofs.Known.{HasCache}
use Rattle.mark_core.proofs.Formed.FormedLearns.{EachAt, one-of, all-but}
use Rattle.mark_core.proofs.Caches.CachesSeat.{CacheFacts}
use Rattle.mark_core.proofs.Caches.CachesClaims.{Owns, used-any, owns-same, owns-set, claims, releases, owners-set}
use Rattle.mark_core.proofs.Used.UsedSeats.{free-used, empty-set}
use Rattle.mark_core.specs.declared.kinds.Shape.{Shape}
use Rattle.mark_core.specs.declared.seat.CacheState.{CacheState}
use Rattle.mark_core.specs.Bits.{has_bit, cell_bit, complement}
use Rattle.mark_core.proofs.Consequences.SomePasses.{any-unset, any-push}
use Rattle.std.proofs.lemmas.List.Elements.{All-set}
use Rattle.mark_core.proofs.Doing.{all-push}
use Rattle.std.proofs.lemmas.Nat.Bits.{bit_at_not}
use Rattle.mark_core.proofs.Pool.PoolPlaces.{same_place}
use mir.Syntax.{w64}

-- Which cells of a cache are unpublished, and which fields of a cell being made are nil, when words or the cache change.
-- a cell of the cache that isn't published stays so, if no further bit is set
pub unpublished-fewer : (sh : Shape) (allocs allocs' : List ℕ) (m : Maker) → ((c : ℕ) → c < sh.cells → (free_in m.cache c || used_in m.cache c) ≡ true → cell_bit allocs' c ≡ true → cell_bit allocs c ≡ true) → CachesUnpublished sh allocs m → CachesUnpublished sh allocs' m
unpublished-fewer sh allocs allocs' m f k c h e = false_from_ne_true (cell_bit allocs' c) (λ b. true≢false (sym (f c h e b) ∙ k c h e))

free_bit : (word i : ℕ) → word < 18446744073709551616 → i < 64 → has_bit (complement word) i ≡ true → has_bit word i ≡ false
free_bit word i h l e = false_from_ne_true (has_bit word i) (λ b. omega (arith, bit_at_not w64 word i h l, eqb-true _ _ e, eqb-true _ _ b))

-- the cells that are found free are unpublished
pub unpublished-read : (sh : Shape) (allocs : List ℕ) (o : Option CacheState) (word c : ℕ) → word < 18446744073709551616 → IfSome o (λ (x : CacheState). slice_index allocs x.block ≡ word) → (used_in o c ≡ true → cell_bit allocs c ≡ false) → (free_in (with_free o word) c || used_in (with_free o word) c) ≡ true → cell_bit allocs c ≡ false
unpublished-read sh allocs None word c h k u e = absurd (false≢true e)
unpublished-read sh allocs (Some x) word c h k u e =
    ⊎_elim
    (λ (f : free_in (with_free (Some x) word) c ≡ true).
    let a = and_parts (eqb x.block (c / 64)) (has_bit (complement word) (c % 64)) f in
    let found : slice_index allocs (c / 64) ≡ word = ap (slice_index allocs) (sym (eqb-true _ _ a.0)) ∙ k in
    ap (λ w. has_bit w (c % 64)) found ∙ free_bit word (c % 64) h (omega arith) a.1)
    u
    (or_cases (free_in (with_free (Some x) word) c) (used_in (with_free (Some x) word) c) e)

pub zero_there : (xs : List ℕ) (k : ℕ) → get_or (set xs k 0) k 0 ≡ 0
zero_there xs k =
    ⊎_elim (λ (h : k < length xs). get_or-set_same xs k 0 0 h) (λ (h : length xs ≤ k). get_or_past (set xs k 0) k 0 (rw length-set h)) (cases_lt k (length xs))

-- a nil field stays nil, if nil is written
pub zero_stays : (xs : List ℕ) (k j : ℕ) → get_or xs j 0 ≡ 0 → get_or (set xs k 0) j 0 ≡ 0
zero_stays xs k j e = ⊎_elim (λ (s : j ≡ k). ap (λ i. get_or (set xs k 0) i 0) s ∙ zero_there xs k) (λ (d : j ≢ k). get_or-set_other xs k j 0 0 d ∙ e) (cases_eq j k)

-- the fields of a cell being made stay nil, if nil is written
pub making-zero : (sh : Shape) (fields : List ℕ) (k : ℕ) (m : Maker) → MakesNil sh fields m → MakesNil sh (set fields k 0) m
making-zero sh fields k m h c part i e l f = zero_stays fields k (c * sh.fields + i) (h c part i e l f)

-- the fields of a cell being made stay nil, if a field of another cell is written
pub making-other : (sh : Shape) (fields : List ℕ) (d f v : ℕ) (m : Maker) → f < sh.fields → ((c part : ℕ) → makes m.cache c part ≡ true → c ≢ d) → MakesNil sh fields m → MakesNil sh (set fields (d * sh.fields + f) v) m
making-other sh fields d f v m hf apart h c part i e l g =
    get_or-set_other fields (d * sh.fields + f) (c * sh.fields + i) v 0 (λ s. apart c part e (same_place sh.fields c d i f g hf s).0) ∙ h c part i e l g

-- the next part of a cell is stored
pub making-next : (sh : Shape) (fields : List ℕ) (o : Option CacheState) (c part x q i : ℕ) → ((j : ℕ) → j < part → j < sh.fields → field sh fields c j ≡ 0) → (part < sh.fields → field sh fields c part ≡ 0) → makes (with_making o c (part + 1)) x q ≡ true → i < q → i < sh.fields → field sh fields x i ≡ 0
making-next sh fields None c part x q i before now e l f = absurd (false≢true e)
making-next sh fields (Some y) c part x q i before now e l f =
    let a = and_parts (eqb c x) (eqb (part + 1) q) e in
    subst (λ z. field sh fields z i ≡ 0) (eqb-true c x a.0)
    (⊎_elim
    (λ (h : i < part). before i h f)
    (λ (h : part ≤ i). let s : i ≡ part = omega (arith, h, l, eqb-true _ _ a.1) in subst (λ z. field sh fields c z ≡ 0) (sym s) (now (omega (arith, s, f))))
    (cases_lt i part))

pub free_makes : (o : Option CacheState) (word c part : ℕ) → makes (with_free o word) c part ≡ makes o c part
free_makes None word c part = refl
free_makes (Some x) word c part = refl

pub free_block : (o : Option CacheState) (word : ℕ) → cache_block (with_free o word) ≡ cache_block o
free_block None word = refl
free_block (Some x) word = refl

pub making_block : (o : Option CacheState) (d part : ℕ) → cache_block (with_making o d part) ≡ cache_block o
making_block None d part = refl
making_block (Some x) d part = refl

pub made_block : (o : Option CacheState) (d : ℕ) → cache_block (with_made o d) ≡ cache_block o
made_block None d = refl
made_block (Some x) d = refl

pub made_makes : (o : Option CacheState) (d c part : ℕ) → makes (with_made o d) c part ≡ false
made_makes None d c part = refl
made_makes (Some x) d c part = refl

pub published_block : (o : Option CacheState) → cache_block (without_used o) ≡ cache_block o
published_block None = refl
published_block (Some x) = refl

pub published_free : (o : Option CacheState) (c : ℕ) → free_in (without_used o) c ≡ free_in o c
published_free None c = refl
published_free (Some x) c = refl

pub published_makes : (o : Option CacheState) (c part : ℕ) → makes (without_used o) c part ≡ makes o c part
published_makes None c part = refl
published_makes (Some x) c part = refl

-- The identities of the cells in use: no two are the same, and each is one that its section's seat has given. What a step leaves of these rules.
-- the number of each cell in use of the seat's section was given
abbrev pub Given : Shape → List ℕ → (ℕ → Bool) → Maker → Type 0
Given sh ids used m = IsFalse m.spent → EachCell sh (λ c. IsTrue (used c) → IsTrue (is_the m.section (section_of_cell ids c)) → number_of_cell ids c < m.made)

-- the rules of identities, over any set of cells in use
pub record Names (sh : Shape) (ids : List ℕ) (used : ℕ → Bool) (ms : List Maker) : Type 0 where
  pub distinct : EachCell sh (λ c. EachCell sh (λ d. IsTrue (used c) → IsTrue (used d) → slice_index ids c ≡ slice_index ids d → c ≡ d))
  pub numbers_below : All (Given sh ids used) ms
  pub sections_seated : EachCell sh (λ c. IsTrue (used c) → section_of_cell ids c < sh.sections → section_of_cell ids c < length ms)

-- what the rules read of the seat stays
abbrev pub SameName : Maker → Maker → Type 0
SameName m n = (n.section ≡ m.section) × (n.made ≡ m.made) × (n.spent ≡ m.spent)

given_fewer : (sh : Shape) (ids : List ℕ) (used used' : ℕ → Bool) (m n : Maker) → ((c : ℕ) → c < sh.cells → used' c ≡ true → used c ≡ true) → SameName m n → Given sh ids used m → Given sh ids used' n
given_fewer sh ids used used' m n less same k live c h u s =
    let a : number_of_cell ids c < m.made = k (sym same.2 ∙ live) c h (less c h u) (ap (λ o. is_the o (section_of_cell ids c)) (sym same.0) ∙ s) in
    omega (arith, a, same.1)

-- no further cell is in use
pub names-less : (sh : Shape) (ids : List ℕ) (used used' : ℕ → Bool) (ms : List Maker) → ((c : ℕ) → c < sh.cells → used' c ≡ true → used c ≡ true) → Names sh ids used ms → Names sh ids used' ms
names-less sh ids used used' ms less k =
    record {
      distinct = λ c hc d hd u v e. k.distinct c hc d hd (less c hc u) (less d hd v) e;
      numbers_below = λ j d h. given_fewer sh ids used used' (get_or ms j d) (get_or ms j d) less (refl, refl, refl) (k.numbers_below j d h);
      sections_seated = λ c hc u l. k.sections_seated c hc (less c hc u) l;
    }

-- one seat's record changed, and its numbers are still those that were given
names_set : (sh : Shape) (ids : List ℕ) (used : ℕ → Bool) (ms : List Maker) (i : ℕ) (n : Maker) → Given sh ids used n → Names sh ids used ms → Names sh ids used (set ms i n)
names_set sh ids used ms i n mine k =
    record { distinct = k.distinct; numbers_below = All-set (Given sh ids used) ms i n mine k.numbers_below; sections_seated = λ c hc u l. rw length-set (k.sections_seated c hc u l) }

pub names-fewer : (sh : Shape) (ids : List ℕ) (used used' : ℕ → Bool) (ms : List Maker) (i : ℕ) (m n : Maker) → slice_get ms i ≡ Some m → SameName m n → ((c : ℕ) → c < sh.cells → used' c ≡ true → used c ≡ true) → Names sh ids used ms → Names sh ids used' (set ms i n)
names-fewer sh ids used used' ms i m n g same less k =
    names_set sh ids used' ms i n (given_fewer sh ids used used' m n less same (one-of (Given sh ids used) ms i m g k.numbers_below)) (names-less sh ids used used' ms less k)

-- a seat that has ended gives no more numbers
pub names-spent : (sh : Shape) (ids : List ℕ) (used used' : ℕ → Bool) (ms : List Maker) (i : ℕ) (n : Maker) → ((c : ℕ) → c < sh.cells → used' c ≡ true → used c ≡ true) → n.spent ≡ true → Names sh ids used ms → Names sh ids used' (set ms i n)
names-spent sh ids used used' ms i n less ended k = names_set sh ids used' ms i n (λ live. absurd (true≢false (sym ended ∙ live))) (names-less sh ids used used' ms less k)

-- a further seat, of the next section or of none
pub names-push : (sh : Shape) (ids : List ℕ) (used used' : ℕ → Bool) (ms : List Maker) (n : Maker) → ((c : ℕ) → c < sh.cells → used' c ≡ true → used c ≡ true) → ((z : ℕ) → is_the n.section z ≡ true → (z ≡ length ms) × (z < sh.sections)) → Names sh ids used ms
    → Names sh ids used' (ms ++ n ∷ [])
names-push sh ids used used' ms n less next k =
    let after : Names sh ids used' ms = names-less sh ids used used' ms less k in
    let mine : Given sh ids used' n = λ live c h u s. let a = next (section_of_cell ids c) s in absurd (omega (arith, a.0, after.sections_seated c h u a.1)) in
    record {
      distinct = after.distinct;
      numbers_below = all-push (Given sh ids used') ms n after.numbers_below mine;
      sections_seated = λ c hc u l. rw length-append (omega (arith, after.sections_seated c hc u l));
    }

-- Which cells are in use, when one seat's cache changed or the allocation bits did.
-- why a cell is in use after one seat's record changed
pub use-set : (P : Type 0) (allocs : List ℕ) (ms : List Maker) (i c : ℕ) (n : Maker) → (cell_bit allocs c ≡ true → P) → (used_in n.cache c ≡ true → P) → (list_any (used_by c) ms ≡ true → P) → in_use allocs (set ms i n) c ≡ true → P
use-set P allocs ms i c n f g h e =
    ⊎_elim f (λ (a : list_any (used_by c) (set ms i n) ≡ true). ⊎_elim g h (any-unset (used_by c) ms i n a)) (or_cases (cell_bit allocs c) (list_any (used_by c) (set ms i n)) e)

pub use-published : (allocs : List ℕ) (ms : List Maker) (c : ℕ) → cell_bit allocs c ≡ true → in_use allocs ms c ≡ true
use-published allocs ms c e = or_left (cell_bit allocs c) (list_any (used_by c) ms) e

pub use-made : (allocs : List ℕ) (ms : List Maker) (c : ℕ) → list_any (used_by c) ms ≡ true → in_use allocs ms c ≡ true
use-made allocs ms c e = or_right (cell_bit allocs c) (list_any (used_by c) ms) e

pub use-mine : (allocs : List ℕ) (ms : List Maker) (i c : ℕ) (m : Maker) → slice_get ms i ≡ Some m → used_in m.cache c ≡ true → in_use allocs ms c ≡ true
use-mine allocs ms i c m g e = use-made allocs ms c (used-any ms i c m g e)

-- no further cell is in use, if the seat uses no further one and no further one is published
pub use-fewer : (allocs allocs' : List ℕ) (ms : List Maker) (i c : ℕ) (m n : Maker) → slice_get ms i ≡ Some m → (used_in n.cache c ≡ true → used_in m.cache c ≡ true) → (cell_bit allocs' c ≡ true → in_use allocs ms c ≡ true) → in_use allocs' (set ms i n) c ≡ true
    → in_use allocs ms c ≡ true
use-fewer allocs allocs' ms i c m n g used bits e = use-set (in_use allocs ms c ≡ true) allocs' ms i c n bits (λ a. use-mine allocs ms i c m g (used a)) (use-made allocs ms c) e

-- no further cell is in use, when a seat without a cache is added
pub use-push : (allocs : List ℕ) (ms : List Maker) (c : ℕ) (n : Maker) → used_in n.cache c ≡ false → in_use allocs (ms ++ n ∷ []) c ≡ true → in_use allocs ms c ≡ true
use-push allocs ms c n none e =
    ⊎_elim
    (use-published allocs ms c)
    (λ (a : list_any (used_by c) (ms ++ n ∷ []) ≡ true). ⊎_elim (λ (b : used_by c n ≡ true). absurd (false≢true (sym none ∙ b))) (use-made allocs ms c) (any-push (used_by c) ms n a))
    (or_cases (cell_bit allocs c) (list_any (used_by c) (ms ++ n ∷ [])) e)

-- a word of the allocation bits was replaced
pub bit-set : (P : Type 0) (allocs : List ℕ) (b v c : ℕ) → b < length allocs → (b ≡ c / 64 → has_bit v (c % 64) ≡ true → P) → (cell_bit allocs c ≡ true → P) → cell_bit (set allocs b v) c ≡ true → P
bit-set P allocs b v c h here there e =
    ⊎_elim
    (λ (s : c / 64 ≡ b). here (sym s) (ap (λ x. has_bit x (c % 64)) (sym (ap (λ k. get_or (set allocs b v) k 0) s ∙ get_or-set_same allocs b v 0 h)) ∙ e))
    (λ d. there (ap (λ x. has_bit x (c % 64)) (sym (get_or-set_other allocs b (c / 64) v 0 d)) ∙ e))
    (cases_eq (c / 64) b)

-- a state that meets the rule of caches, with what is known of the caches themselves
pub record Caching (sh : Shape) (owners allocs ids fields : List ℕ) (ms : List Maker) : Type 0 where
  pub shaped : IsShape sh
  pub owners_long : length owners ≡ block_count sh
  pub allocs_long : length allocs ≡ block_count sh
  pub ids_long : length ids ≡ sh.cells
  pub caches : Caches sh owners allocs ids fields ms
  pub facts : All (λ (m : Maker). CacheFacts m.cache) ms
  pub ranges : All (HasCache sh) ms
  pub sections : EachAt (λ j (m : Maker). m.section ≡ cond (nat_lt j sh.sections) (Some j) None) ms

-- this seat with another cache
abbrev pub with_cache : Maker → Option CacheState → Maker
with_cache m o = record m { cache = o }

-- the rules of identities among those of caches
pub names-of : (sh : Shape) (owners allocs ids fields : List ℕ) (ms : List Maker) → Caches sh owners allocs ids fields ms → Names sh ids (in_use allocs ms) ms
names-of sh owners allocs ids fields ms k = record { distinct = k.distinct; numbers_below = k.numbers_below; sections_seated = k.sections_seated }

-- the rule of caches, put together when one seat's record changed
pub caches-set : (sh : Shape) (owners allocs ids fields : List ℕ) (ms : List Maker) (i : ℕ) (n : Maker) → EachAt (Owns sh owners) (set ms i n) → EachBlock sh (λ b. slice_index owners b ≤ length ms) → CachesUnpublished sh allocs n → ((j : ℕ) (x : Maker) → j ≢ i → slice_get ms j ≡ Some x → CachesUnpublished sh allocs x)
    → MakesNil sh fields n → ((j : ℕ) (x : Maker) → j ≢ i → slice_get ms j ≡ Some x → MakesNil sh fields x) → UsedOwn sh ids n → ((j : ℕ) (x : Maker) → j ≢ i → slice_get ms j ≡ Some x → UsedOwn sh ids x) → Names sh ids (in_use allocs (set ms i n)) (set ms i n) → Caches sh owners allocs ids fields (set ms i n)
caches-set sh owners allocs ids fields ms i n own exist mine others nil nils made makes names =
    record {
      owned = own;
      owners_exist = λ b h. rw length-set (exist b h);
      unpublished = all-but (CachesUnpublished sh allocs) ms i n mine others;
      making_nil = all-but (MakesNil sh fields) ms i n nil nils;
      used_own = all-but (UsedOwn sh ids) ms i n made makes;
      distinct = names.distinct;
      numbers_below = names.numbers_below;
      sections_seated = names.sections_seated;
    }

-- the words stay but for the owners, and the seat's cache becomes one that uses no further cell
pub cache-set : (sh : Shape) (owners owners' allocs ids fields : List ℕ) (ms : List Maker) (i : ℕ) (m : Maker) (o : Option CacheState) → Caching sh owners allocs ids fields ms → slice_get ms i ≡ Some m → EachAt (Owns sh owners') (set ms i (with_cache m o)) → EachBlock sh (λ b. slice_index owners' b ≤ length ms)
    → CachesUnpublished sh allocs (with_cache m o) → MakesNil sh fields (with_cache m o) → ((c : ℕ) → used_in o c ≡ true → used_in m.cache c ≡ true) → Caches sh owners' allocs ids fields (set ms i (with_cache m o))
cache-set sh owners owners' allocs ids fields ms i m o k g own exist mine nil used =
    let less = λ (c : ℕ) (h : c < sh.cells) (u : in_use allocs (set ms i (with_cache m o)) c ≡ true). use-fewer allocs allocs ms i c m (with_cache m o) g (used c) (use-published allocs ms c) u in
    caches-set sh owners' allocs ids fields ms i (with_cache m o) own exist mine (λ j x d e. one-of (CachesUnpublished sh allocs) ms j x e k.caches.unpublished) nil (λ j x d e. one-of (MakesNil sh fields) ms j x e k.caches.making_nil)
    (λ c h e. one-of (UsedOwn sh ids) ms i m g k.caches.used_own c h (used c e))
    (λ j x d e. one-of (UsedOwn sh ids) ms j x e k.caches.used_own)
    (names-fewer sh ids (in_use allocs ms) (in_use allocs (set ms i (with_cache m o))) ms i m (with_cache m o) g (refl, refl, refl) less (names-of sh owners allocs ids fields ms k.caches))

-- a claimed block, of which nothing is known
abbrev pub claimed_cache : ℕ → Option CacheState
claimed_cache b = Some (record { block = b; unread = true; free = 0; used = 0; making = None; last = None })

neither : (a b : Bool) (P : Type 0) → a ≡ false → b ≡ false → (a || b) ≡ true → P
neither true b P e f g = absurd (false≢true (sym e))
neither false b P e f g = absurd (false≢true (sym f ∙ g))

-- 20: a block without an owner
pub claims-kept : (sh : Shape) (owners allocs ids fields : List ℕ) (ms : List Maker) (i b : ℕ) (m : Maker) → Caching sh owners allocs ids fields ms → slice_get ms i ≡ Some m → b < block_count sh → slice_index owners b ≡ 0 → m.cache ≡ None → i < length ms
    → Caches sh (set owners b (i + 1)) allocs ids fields (set ms i (with_cache m (claimed_cache b)))
claims-kept sh owners allocs ids fields ms i b m k g hb free none hi =
    let n : Maker = with_cache m (claimed_cache b) in
    let long : b < length owners = omega (arith, hb, k.owners_long) in
    cache-set sh owners (set owners b (i + 1)) allocs ids fields ms i m (claimed_cache b) k g (owns-set sh owners ms i b (i + 1) m n long g (claims sh owners ms i b m n k.caches.owned hb free (ap cache_block none) refl) k.caches.owned)
    (owners-set sh owners b (i + 1) (length ms) long (omega (arith, hi)) k.caches.owners_exist)
    (λ c h e. neither (free_in (claimed_cache b) c) (used_in (claimed_cache b) c) _ (empty-set b c) (empty-set b c) e)
    (λ c part x e l f. absurd (false≢true e))
    (λ c e. absurd (false≢true (sym (empty-set b c) ∙ e)))

-- 21: a block is given up
pub releases-kept : (sh : Shape) (owners allocs ids fields : List ℕ) (ms : List Maker) (i b : ℕ) (m : Maker) → Caching sh owners allocs ids fields ms → slice_get ms i ≡ Some m → b < block_count sh → cache_block m.cache ≡ Some b → Caches sh (set owners b 0) allocs ids fields (set ms i (with_cache m None))
releases-kept sh owners allocs ids fields ms i b m k g hb some =
    let n : Maker = with_cache m None in
    let long : b < length owners = omega (arith, hb, k.owners_long) in
    cache-set sh owners (set owners b 0) allocs ids fields ms i m None k g (owns-set sh owners ms i b 0 m n long g (releases sh owners ms i b m n k.caches.owned hb g some refl) k.caches.owned)
    (owners-set sh owners b 0 (length ms) long (omega arith) k.caches.owners_exist)
    (λ c h e. absurd (false≢true e))
    (λ c part x e l f. absurd (false≢true e))
    (λ c e. absurd (false≢true e))

-- 22: the free cells of the block are read
pub frees-kept : (sh : Shape) (owners allocs ids fields : List ℕ) (ms : List Maker) (i word : ℕ) (m : Maker) → Caching sh owners allocs ids fields ms → slice_get ms i ≡ Some m → word < 18446744073709551616 → IfSome m.cache (λ (x : CacheState). slice_index allocs x.block ≡ word)
    → Caches sh owners allocs ids fields (set ms i (with_cache m (with_free m.cache word)))
frees-kept sh owners allocs ids fields ms i word m k g h found =
    let o : Option CacheState = with_free m.cache word in
    let before : CachesUnpublished sh allocs m = one-of (CachesUnpublished sh allocs) ms i m g k.caches.unpublished in
    let nil : MakesNil sh fields m = one-of (MakesNil sh fields) ms i m g k.caches.making_nil in
    cache-set sh owners owners allocs ids fields ms i m o k g (owns-same sh owners ms i m (with_cache m o) g (free_block m.cache word) k.caches.owned) k.caches.owners_exist
    (λ c hc e. unpublished-read sh allocs m.cache word c h found (λ u. before c hc (or_right (free_in m.cache c) (used_in m.cache c) u)) e)
    (λ c part x e l f. nil c part x (sym (free_makes m.cache word c part) ∙ e) l f)
    (λ c e. sym (free-used m.cache word c) ∙ e)
