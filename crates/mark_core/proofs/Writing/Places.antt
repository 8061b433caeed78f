-- What a write of one word does to the regions.
use Rattle.std.proofs.Common.{ℕ, ◌≡◌, ◌+◌, ◌<◌, ◌≤◌, zero, suc, List, [], ◌∷◌, drop, set, get_or, length, arith, refl, sym, ap, ◌∙◌, cond, eqb, ⊎_elim, zero-add, ◌≢◌, take, add_assoc}
use Rattle.std.proofs.lemmas.List.{get_or_past, get_or-set_other, get_or-set_same, length-take-le, length-take, length-drop, get_or-take, get_or-drop, take-set-le, drop-set-lt, drop-set-add}
use Rattle.std.proofs.lemmas.Bool.{cases_eq, eq-eqb, ne_eqb}
use Rattle.mark_core.specs.Layout.{words_of, address, put_word, region_base, region_words, region_sizes, total_words}
use Rattle.mark_core.specs.declared.kinds.Shape.{Shape}

-- A write in one region leaves the others.
pub take-set-lt : (n : ℕ) (ws : List ℕ) (i v : ℕ) → i < n → take n (set ws i v) ≡ set (take n ws) i v
take-set-lt zero ws i v h = absurd (omega arith)
take-set-lt (suc n) [] i v h = refl
take-set-lt (suc n) (w ∷ ws) zero v h = refl
take-set-lt (suc n) (w ∷ ws) (suc i) v h = ap (λ xs. w ∷ xs) (take-set-lt n ws i v (omega arith))

pub words-set_same : (ns : List ℕ) (r : ℕ) (ws : List ℕ) (i v : ℕ) → i < get_or ns r 0 → region_words ns r (set ws (region_base ns r + i) v) ≡ set (region_words ns r ws) i v
words-set_same [] r ws i v h = absurd (omega arith)
words-set_same (n ∷ ns) zero ws i v h = rw zero-add (take-set-lt n ws i v h)
words-set_same (n ∷ ns) (suc r) ws i v h = rw (add_assoc, drop-set-add) (words-set_same ns r (drop n ws) i v h)

pub words-set_other : (ns : List ℕ) (r q : ℕ) (ws : List ℕ) (i v : ℕ) → i < get_or ns r 0 → q ≢ r → region_words ns q (set ws (region_base ns r + i) v) ≡ region_words ns q ws
words-set_other [] r q ws i v h d = absurd (omega arith)
words-set_other (n ∷ ns) zero zero ws i v h d = absurd (d refl)
words-set_other (n ∷ ns) zero (suc q) ws i v h d = rw (zero-add, drop-set-lt) refl
words-set_other (n ∷ ns) (suc r) zero ws i v h d = rw add_assoc (take-set-le n ws (n + (region_base ns r + i)) v (omega arith))
words-set_other (n ∷ ns) (suc r) (suc q) ws i v h d = rw (add_assoc, drop-set-add) (words-set_other ns r q (drop n ws) i v h (λ e. d (ap suc e)))

pub words-get : (ns : List ℕ) (r : ℕ) (ws : List ℕ) (i d : ℕ) → i < get_or ns r 0 → get_or ws (region_base ns r + i) d ≡ get_or (region_words ns r ws) i d
words-get [] r ws i d h = absurd (omega arith)
words-get (n ∷ ns) zero ws i d h = rw (zero-add, get_or-take) refl
words-get (n ∷ ns) (suc r) ws i d h = rw add_assoc (sym (get_or-drop n ws (region_base ns r + i) d) ∙ words-get ns r (drop n ws) i d h)

pub address-lt-total : (ns : List ℕ) (r i : ℕ) → i < get_or ns r 0 → region_base ns r + i < total_words ns
address-lt-total [] r i h = absurd (omega arith)
address-lt-total (n ∷ ns) zero i h = omega arith
address-lt-total (n ∷ ns) (suc r) i h = omega (arith, address-lt-total ns r i h)

-- the words of region k, when word i of region r is written
pub region-put : (ns : List ℕ) (r k : ℕ) (ws : List ℕ) (i v : ℕ) → i < get_or ns r 0 → region_words ns k (set ws (region_base ns r + i) v) ≡ cond (eqb r k) (set (region_words ns k ws) i v) (region_words ns k ws)
region-put ns r k ws i v h =
    ⊎_elim
    (λ (e : r ≡ k). rw (eq-eqb r k e) (rw (← e) (words-set_same ns r ws i v h)))
    (λ (n : r ≡ k → ⊥). rw (ne_eqb r k n) (words-set_other ns r k ws i v h (λ e. n (sym e))))
    (cases_eq r k)

-- a single word, when one is written
single-put : (ws : List ℕ) (i k v : ℕ) → i < length ws → get_or (set ws i v) k 0 ≡ cond (eqb i k) v (get_or ws k 0)
single-put ws i k v h =
    ⊎_elim
    (λ (e : i ≡ k). rw (eq-eqb i k e) (rw (← e) (get_or-set_same ws i v 0 h)))
    (λ (n : i ≡ k → ⊥). rw (ne_eqb i k n) (get_or-set_other ws i k v 0 (λ e. n (sym e))))
    (cases_eq i k)

-- word k of the last region, when word i of region r is written
last-put : (ns : List ℕ) (r k : ℕ) (ws : List ℕ) (i v : ℕ) → i < get_or ns r 0 → get_or ns r 0 ≤ length (region_words ns r ws) → get_or (region_words ns 13 (set ws (region_base ns r + i) v)) k 0 ≡ cond (eqb r 13) (cond (eqb i k) v (get_or (region_words ns 13 ws) k 0)) (get_or (region_words ns 13 ws) k 0)
last-put ns r k ws i v h l =
    ⊎_elim
    (λ (e : r ≡ 13).
    let long : i < length (region_words ns 13 ws) = rw e at (let x : i < length (region_words ns r ws) = omega (arith, h, l) in x) in
    rw (eq-eqb r 13 e) (ap (λ xs. get_or xs k 0) (region-put ns r 13 ws i v h) ∙ rw (eq-eqb r 13 e) (single-put (region_words ns 13 ws) i k v long)))
    (λ (n : r ≡ 13 → ⊥).
    rw (ne_eqb r 13 n) (ap (λ xs. get_or xs k 0) (region-put ns r 13 ws i v h) ∙ rw (ne_eqb r 13 n) refl))
    (cases_eq r 13)

-- a word of a region that isn't the first lies past the single words
past-singles : (s : Shape) (r i : ℕ) → 11 ≤ region_base (region_sizes s) (suc r) + i
past-singles s r i = omega arith

pub words-put : (s : Shape) (ws : List ℕ) (r i v : ℕ) → i < get_or (region_sizes s) (suc r) 0 → get_or (region_sizes s) (suc r) 0 ≤ length (region_words (region_sizes s) (suc r) ws) → words_of s (set ws (address s (suc r, i)) v) ≡ put_word (suc r, i) v (words_of s ws)
words-put s ws r i v h l =
    let o = λ (k : ℕ). region-put (region_sizes s) (suc r) k ws i v h in
    let far = past-singles s r i in
    let g = λ (k : ℕ) (n : k < 11). get_or-set_other ws (address s (suc r, i)) k v 0 (λ e. omega arith) in
    rw (
      last-put (region_sizes s) (suc r) 0 ws i v h l,
      last-put (region_sizes s) (suc r) 1 ws i v h l,
      g 0 (omega arith),
      g 1 (omega arith),
      g 2 (omega arith),
      g 3 (omega arith),
      g 4 (omega arith),
      g 5 (omega arith),
      g 6 (omega arith),
      g 7 (omega arith),
      g 8 (omega arith),
      g 9 (omega arith),
      g 10 (omega arith),
      ne_eqb (suc r) 0 (λ e. omega arith),
      o 1,
      o 2,
      o 3,
      o 4,
      o 5,
      o 6,
      o 7,
      o 8,
      o 9,
      o 10,
      o 11,
      o 12,
    )
    refl

pub singles-put : (s : Shape) (ws : List ℕ) (i v : ℕ) → i < 11 → 11 ≤ length ws → words_of s (set ws (address s (0, i)) v) ≡ put_word (0, i) v (words_of s ws)
singles-put s ws i v h l =
    let o = λ (k : ℕ). rw zero-add at (region-put (region_sizes s) 0 k ws i v h) in
    let inside : i < length ws = omega arith in
    let g = λ (k : ℕ). single-put ws i k v inside in
    rw (zero-add, g 0, g 1, g 2, g 3, g 4, g 5, g 6, g 7, g 8, g 9, g 10, o 1, o 2, o 3, o 4, o 5, o 6, o 7, o 8, o 9, o 10, o 11, o 12, o 13) refl

-- a region has its length, if all words are there
pub region-length : (ns : List ℕ) (r : ℕ) (ws : List ℕ) → total_words ns ≤ length ws → length (region_words ns r ws) ≡ get_or ns r 0
region-length [] r ws h = refl
region-length (n ∷ ns) zero ws h = length-take-le n ws (omega (arith, h))
region-length (n ∷ ns) (suc r) ws h = region-length ns r (drop n ws) (rw length-drop (omega (arith, h)))

-- the words after a write are those before with one of them changed
pub word-put : (s : Shape) (ws : List ℕ) (r i v : ℕ) → length ws ≡ total_words (region_sizes s) → i < get_or (region_sizes s) r 0 → words_of s (set ws (address s (r, i)) v) ≡ put_word (r, i) v (words_of s ws)
word-put s ws zero i v l h = singles-put s ws i v h (omega (arith, l))
word-put s ws (suc r) i v l h = words-put s ws r i v h (omega (arith, region-length (region_sizes s) (suc r) ws (omega (arith, l))))

-- past the end of a region, and the season
pub past-taken : (n : ℕ) (ws : List ℕ) (i : ℕ) → n ≤ i → get_or (take n ws) i 0 ≡ 0
past-taken n ws i h = get_or_past (take n ws) i 0 (omega (arith, length-take n ws))

pub season-at : (sh : Shape) (ws : List ℕ) → (words_of sh ws).season ≡ get_or ws (region_base (region_sizes sh) 13 + 1) 0
season-at sh ws = sym (words-get (region_sizes sh) 13 ws 1 0 (omega arith))

pub ruleset reads = (past-taken, season-at)
