-- The owners of blocks, when a seat claims a block, gives one up, or keeps the one that it has.
use Rattle.std.proofs.Common.{ℕ, ◌≡◌, ◌≢◌, ◌+◌, ◌<◌, ◌≤◌, List, set, get_or, length, arith, refl, sym, ap, ◌∙◌, subst, true, Some, None, eqb, ⊎_elim, ◌/◌, zero, suc, [], ◌∷◌, false, ◌||◌, Option}
use Rattle.std.specs.Prelude.{slice_get, slice_index}
use Rattle.std.proofs.lemmas.Bool.{cases_eq, eqb-true, eq-eqb, ne_eqb, and_from, or_cases, or_from, or_left, or_right, cases_Bool, true≢false, false≢true}
use Rattle.std.proofs.lemmas.List.{get_or-set_same, get_or-set_other}
use Rattle.mark_core.specs.Shapes.{EachBlock, IsShape}
use Rattle.mark_core.specs.Layout.{block_count}
use Rattle.mark_core.specs.Seats.{is_the, cache_block, free_in, used_in}
use Rattle.mark_core.specs.Views.{Maker}
use Rattle.mark_core.proofs.Formed.FormedLearns.{EachAt, each-set, set-here, set-there, one-of}
use Rattle.mark_core.specs.declared.kinds.Shape.{Shape}
use Rattle.std.specs.List.{All, list_any}
use Rattle.std.proofs.lemmas.Option.{same_Some}
use Rattle.mark_core.specs.Bits.{cell_bit}
use Rattle.mark_core.specs.Cells.{used_by, in_use}
use Rattle.mark_core.specs.Rules.HeapRules.{CachesUnpublished}
use Rattle.mark_core.proofs.Known.{some_none}
use Rattle.mark_core.proofs.Caches.CachesSeat.{free-block, used-block, CacheFacts}
use Rattle.mark_core.proofs.Writing.Ranges.{block-exists}
use Rattle.mark_core.specs.declared.seat.CacheState.{CacheState}

-- A block is cached by one seat at most, so a free cell of a cache is in no other, and isn't in use.
-- the owner's word of each block says whether this seat has it cached
abbrev pub Owns : Shape → List ℕ → ℕ → Maker → Type 0
Owns sh owners i m = EachBlock sh (λ b. is_the (cache_block m.cache) b ≡ eqb (slice_index owners b) (i + 1))

-- a cell of the cache is a cell of its block
in_block : (o : Option CacheState) (c : ℕ) → (free_in o c || used_in o c) ≡ true → is_the (cache_block o) (c / 64) ≡ true
in_block None c e = absurd (false≢true e)
in_block (Some x) c e =
    ⊎_elim
    (λ (f : free_in (Some x) c ≡ true). eq-eqb _ _ (free-block x c f))
    (λ (f : used_in (Some x) c ≡ true). eq-eqb _ _ (used-block x c f))
    (or_cases (free_in (Some x) c) (used_in (Some x) c) e)

-- two seats with cells of the same block are the same
pub same-seat : (sh : Shape) (owners : List ℕ) (ms : List Maker) (i j c : ℕ) (m n : Maker) → IsShape sh → EachAt (Owns sh owners) ms → slice_get ms i ≡ Some m → slice_get ms j ≡ Some n → c < sh.cells
    → (free_in m.cache c || used_in m.cache c) ≡ true → (free_in n.cache c || used_in n.cache c) ≡ true → j ≡ i
same-seat sh owners ms i j c m n k o g h l e f =
    let b : c / 64 < block_count sh = block-exists sh c k l in
    let first : eqb (slice_index owners (c / 64)) (i + 1) ≡ true = sym (o i m g (c / 64) b) ∙ in_block m.cache c e in
    let second : eqb (slice_index owners (c / 64)) (j + 1) ≡ true = sym (o j n h (c / 64) b) ∙ in_block n.cache c f in
    omega (arith, eqb-true _ _ first, eqb-true _ _ second)

-- if some seat uses the cell, one of them does
pub user : (ms : List Maker) (c : ℕ) → list_any (used_by c) ms ≡ true → (j : ℕ) × (n : Maker) × (slice_get ms j ≡ Some n) × (used_in n.cache c ≡ true)
user [] c e = absurd (false≢true e)
user (m ∷ ms) c e =
    ⊎_elim
    (λ (h : used_by c m ≡ true). (0, m, refl, h))
    (λ (h : list_any (used_by c) ms ≡ true). let r = user ms c h in (suc r.0, r.1, r.2, r.3))
    (or_cases (used_by c m) (list_any (used_by c) ms) e)

-- a seat that uses the cell makes it one in use
pub used-any : (ms : List Maker) (j c : ℕ) (n : Maker) → slice_get ms j ≡ Some n → used_in n.cache c ≡ true → list_any (used_by c) ms ≡ true
used-any [] j c n g e = absurd (some_none n (sym g))
used-any (m ∷ ms) zero c n g e = or_left (used_by c m) (list_any (used_by c) ms) (subst (λ (x : Maker). used_in x.cache c ≡ true) (sym (same_Some m n g)) e)
used-any (m ∷ ms) (suc j) c n g e = or_right (used_by c m) (list_any (used_by c) ms) (used-any ms j c n g e)

-- a free cell of a cache isn't in use
pub free-unused : (sh : Shape) (owners allocs : List ℕ) (ms : List Maker) (i c : ℕ) (m : Maker) → IsShape sh → EachAt (Owns sh owners) ms → All (CachesUnpublished sh allocs) ms → CacheFacts m.cache → slice_get ms i ≡ Some m → c < sh.cells → free_in m.cache c ≡ true
    → in_use allocs ms c ≡ false
free-unused sh owners allocs ms i c m k o u a g l e =
    or_from (cell_bit allocs c) (list_any (used_by c) ms)
    (one-of (CachesUnpublished sh allocs) ms i m g u c l (or_left (free_in m.cache c) (used_in m.cache c) e))
    (⊎_elim
    (λ (h : list_any (used_by c) ms ≡ true).
    let r = user ms c h in
    let same : r.0 ≡ i = same-seat sh owners ms i r.0 c m r.1 k o g r.2 l (or_left (free_in m.cache c) (used_in m.cache c) e) (or_right (free_in r.1.cache c) (used_in r.1.cache c) r.3) in
    let mine : m ≡ r.1 = same_Some m r.1 (sym g ∙ ap (λ n. slice_get ms n) (sym same) ∙ r.2) in
    let used : used_in m.cache c ≡ true = subst (λ (x : Maker). used_in x.cache c ≡ true) (sym mine) r.3 in
    absurd (true≢false (sym (and_from (free_in m.cache c) (used_in m.cache c) e used) ∙ a.free_apart_from_used c)))
    (λ (h : list_any (used_by c) ms ≡ false). h)
    (cases_Bool (list_any (used_by c) ms)))

-- the seat keeps its block
pub owns-same : (sh : Shape) (owners : List ℕ) (ms : List Maker) (i : ℕ) (m n : Maker) → slice_get ms i ≡ Some m → cache_block n.cache ≡ cache_block m.cache → EachAt (Owns sh owners) ms → EachAt (Owns sh owners) (set ms i n)
owns-same sh owners ms i m n g e o = each-set (Owns sh owners) ms i n (λ b h. ap (λ x. is_the x b) e ∙ o i m g b h) o

-- what a seat and the others say of block b, whose owner's word becomes v
pub record Owning (ms : List Maker) (i b v : ℕ) (m n : Maker) : Type 0 where
  pub elsewhere : (d : ℕ) → d ≢ b → is_the (cache_block n.cache) d ≡ is_the (cache_block m.cache) d
  pub here : is_the (cache_block n.cache) b ≡ eqb v (i + 1)
  pub others : (j : ℕ) (x : Maker) → j ≢ i → slice_get ms j ≡ Some x → is_the (cache_block x.cache) b ≡ eqb v (j + 1)

pub owns-set : (sh : Shape) (owners : List ℕ) (ms : List Maker) (i b v : ℕ) (m n : Maker) → b < length owners → slice_get ms i ≡ Some m → Owning ms i b v m n → EachAt (Owns sh owners) ms → EachAt (Owns sh (set owners b v)) (set ms i n)
owns-set sh owners ms i b v m n hb g k o j x e d hd =
    let Q : Maker → ℕ → Type 0 = λ y w. is_the (cache_block y.cache) d ≡ eqb w (j + 1) in
    ⊎_elim
    (λ (f : d ≡ b).
    let word : get_or (set owners b v) d 0 ≡ v = ap (λ a. get_or (set owners b v) a 0) f ∙ get_or-set_same owners b v 0 hb in
    let at : is_the (cache_block x.cache) b ≡ eqb v (j + 1) =
    ⊎_elim
    (λ (s : j ≡ i). subst (λ (y : Maker). is_the (cache_block y.cache) b ≡ eqb v (j + 1)) (set-here ms i n x (subst (λ a. slice_get (set ms i n) a ≡ Some x) s e)) (k.here ∙ ap (λ a. eqb v (a + 1)) (sym s)))
    (λ (s : j ≢ i). k.others j x s (set-there ms i j n x s e))
    (cases_eq j i) in
    subst (Q x) (sym word) (subst (λ a. is_the (cache_block x.cache) a ≡ eqb v (j + 1)) (sym f) at))
    (λ (f : d ≢ b).
    let word : get_or (set owners b v) d 0 ≡ get_or owners d 0 = get_or-set_other owners b d v 0 f in
    subst (Q x) (sym word)
    (⊎_elim
    (λ (s : j ≡ i).
    let is : n ≡ x = set-here ms i n x (subst (λ a. slice_get (set ms i n) a ≡ Some x) s e) in
    subst (λ (y : Maker). Q y (get_or owners d 0)) is (k.elsewhere d f ∙ o i m g d hd ∙ ap (λ a. eqb (get_or owners d 0) (a + 1)) (sym s)))
    (λ (s : j ≢ i). o j x (set-there ms i j n x s e) d hd)
    (cases_eq j i)))
    (cases_eq d b)

-- a block without an owner is claimed
pub claims : (sh : Shape) (owners : List ℕ) (ms : List Maker) (i b : ℕ) (m n : Maker) → EachAt (Owns sh owners) ms → b < block_count sh → slice_index owners b ≡ 0 → cache_block m.cache ≡ None → cache_block n.cache ≡ Some b → Owning ms i b (i + 1) m n
claims sh owners ms i b m n o hb free none some =
    record {
      elsewhere = λ d f. ap (λ x. is_the x d) some ∙ ne_eqb b d (λ e. f (sym e)) ∙ sym (ap (λ x. is_the x d) none);
      here = ap (λ x. is_the x b) some ∙ eq-eqb b b refl ∙ sym (eq-eqb (i + 1) (i + 1) refl);
      others = λ j x f e. o j x e b hb ∙ ap (λ w. eqb w (j + 1)) free ∙ ne_eqb 0 (j + 1) (λ z. omega (arith, z)) ∙ sym (ne_eqb (i + 1) (j + 1) (λ z. f (omega (arith, z))));
    }

-- a seat gives its block up
pub releases : (sh : Shape) (owners : List ℕ) (ms : List Maker) (i b : ℕ) (m n : Maker) → EachAt (Owns sh owners) ms → b < block_count sh → slice_get ms i ≡ Some m → cache_block m.cache ≡ Some b → cache_block n.cache ≡ None → Owning ms i b 0 m n
releases sh owners ms i b m n o hb g some none =
    let own : eqb (slice_index owners b) (i + 1) ≡ true = sym (o i m g b hb) ∙ ap (λ x. is_the x b) some ∙ eq-eqb b b refl in
    let word : slice_index owners b ≡ i + 1 = eqb-true _ _ own in
    record {
      elsewhere = λ d f. ap (λ x. is_the x d) none ∙ sym (ap (λ x. is_the x d) some ∙ ne_eqb b d (λ e. f (sym e)));
      here = ap (λ x. is_the x b) none ∙ sym (ne_eqb 0 (i + 1) (λ z. omega (arith, z)));
      others = λ j x f e. o j x e b hb ∙ ap (λ w. eqb w (j + 1)) word ∙ ne_eqb (i + 1) (j + 1) (λ z. f (omega (arith, z))) ∙ sym (ne_eqb 0 (j + 1) (λ z. omega (arith, z)));
    }

-- the owners are seats that exist
pub owners-set : (sh : Shape) (owners : List ℕ) (b v n : ℕ) → b < length owners → v ≤ n → EachBlock sh (λ d. slice_index owners d ≤ n) → EachBlock sh (λ d. slice_index (set owners b v) d ≤ n)
owners-set sh owners b v n hb hv k d hd =
    ⊎_elim
    (λ (f : d ≡ b). omega (arith, hv, ap (λ a. get_or (set owners b v) a 0) f ∙ get_or-set_same owners b v 0 hb))
    (λ (f : d ≢ b). omega (arith, k d hd, get_or-set_other owners b d v 0 f))
    (cases_eq d b)
