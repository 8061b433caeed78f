-- The bits of words, and the cells that they stand for.
use Rattle.std.proofs.Common.{ℕ, ◌≡◌, ◌<◌, ◌+◌, ◌*◌, ◌/◌, ◌%◌, ◌^◌, suc, zero, List, [], ◌∷◌, get_or, length, arith, refl, ap, ◌∙◌, Bool, true, false, ◌&&◌, Some, None, Option}
use Rattle.std.specs.Prelude.{◌==◌, slice_index, unwrap_or}
use Rattle.std.specs.Int.Count.{ones}
use Rattle.std.specs.List.{count_by, list_any, range_with_len}
use Rattle.std.proofs.lemmas.Bool.{eqb-true, not-false, or_from}
use Rattle.std.proofs.lemmas.Nat.{ones-le}
use Rattle.std.proofs.lemmas.Nat.Bits.{bit_at_lowest, bit_at-suc, bit_at-zero}
use Rattle.mark_core.specs.Bits.{cell_bit, has_bit}
use Rattle.mark_core.specs.Cards.{block_cells}
use Rattle.mark_core.specs.Cells.{used_by}
use Rattle.mark_core.specs.Places.{alloc_at}
use Rattle.mark_core.specs.Seats.{has_used, used_in}
use Rattle.mark_core.specs.Views.{makers}
use Rattle.mark_core.specs.declared.seat.CacheState.{CacheState}
use Rattle.mark_core.specs.declared.seat.SeatState.{SeatState}
use Rattle.mark_core.proofs.Count.CountMoves.{count-cons, count-same, bit}
use Rattle.gc_table.specs.Notes.{look}
use Rattle.gc_table.specs.declared.view.View.{View}
use Rattle.gc_cycle.specs.Finishing.{ones_noted}
use lib.Count.{ones_step}
use native.Mathlib.Nat.{pow-suc}

count-shift : (f : ℕ → Bool) (a d n : ℕ) → count_by f (range_with_len (a + d) n) ≡ count_by (λ i. f (i + d)) (range_with_len a n)
count-shift f a d zero = refl
count-shift f a d (suc n) =
    let from : a + d + 1 ≡ a + 1 + d = omega arith in
    let rest : count_by f (range_with_len (a + d + 1) n) ≡ count_by (λ i. f (i + d)) (range_with_len (a + 1) n) = ap (λ k. count_by f (range_with_len k n)) from ∙ count-shift f (a + 1) d n in
    let one = count-cons f (a + d) (range_with_len (a + d + 1) n) in
    let two = count-cons (λ i. f (i + d)) a (range_with_len (a + 1) n) in
    omega (arith, rest, one, two)

count-parts : (f : ℕ → Bool) (a m n : ℕ) → count_by f (range_with_len a (m + n)) ≡ count_by f (range_with_len a m) + count_by f (range_with_len (a + m) n)
count-parts f a zero n =
    let to : zero + n ≡ n = omega arith in
    let from : a ≡ a + zero = omega arith in
    let same : count_by f (range_with_len a (zero + n)) ≡ count_by f (range_with_len (a + zero) n) = ap (λ k. count_by f (range_with_len a k)) to ∙ ap (λ k. count_by f (range_with_len k n)) from in
    let none : count_by f (range_with_len a zero) ≡ 0 = refl in
    omega (arith, same, none)
count-parts f a (suc m) n =
    let to : suc m + n ≡ suc (m + n) = omega arith in
    let from : a + 1 + m ≡ a + suc m = omega arith in
    let all = ap (λ k. count_by f (range_with_len a k)) to in
    let one = count-cons f a (range_with_len (a + 1) (m + n)) in
    let two = count-cons f a (range_with_len (a + 1) m) in
    let rest = count-parts f (a + 1) m n in
    let last = ap (λ k. count_by f (range_with_len k n)) from in
    omega (arith, all, one, two, rest, last)

-- the lowest bit as a number
lowest : (r : ℕ) → r < 2 → bit (r == 1) ≡ r
lowest zero h = refl
lowest (suc zero) h = refl
lowest (suc (suc r)) h = absurd (omega (arith, h))

-- the ones of a word are its bits
pub bits-count : (k n : ℕ) → n < 2 ^ k → count_by (has_bit n) (range_with_len 0 k) ≡ ones n
bits-count zero n h =
    let few = ones-le 0 n h in
    let none : count_by (has_bit n) (range_with_len 0 zero) ≡ 0 = refl in
    omega (arith, few, none)
bits-count (suc k) n h =
    let p = pow-suc 2 k in
    let half : n / 2 < 2 ^ k = omega (arith, p, h) in
    let low : bit (has_bit n 0) ≡ n % 2 = ap (λ r. bit (r == 1)) (bit_at_lowest n) ∙ lowest (n % 2) (omega arith) in
    let first = count-cons (has_bit n) 0 (range_with_len 1 k) in
    let shift : count_by (has_bit n) (range_with_len 1 k) ≡ count_by (λ i. has_bit n (i + 1)) (range_with_len 0 k) = count-shift (has_bit n) 0 1 k in
    let same : count_by (λ i. has_bit n (i + 1)) (range_with_len 0 k) ≡ count_by (has_bit (n / 2)) (range_with_len 0 k) =
    count-same (has_bit (n / 2)) (λ i. has_bit n (i + 1)) 0 k (λ i l m. let next : i + 1 ≡ suc i = omega arith in ap (has_bit n) next ∙ ap (λ r. r == 1) (bit_at-suc n i)) in
    let rest = bits-count k (n / 2) half in
    let step = ones_step n in
    omega (arith, low, first, shift, same, rest, step)

-- the bits of the cells of block b
block-count : (ws : List ℕ) (b : ℕ) → slice_index ws b < 18446744073709551616 → count_by (cell_bit ws) (range_with_len (b * block_cells) block_cells) ≡ ones (slice_index ws b)
block-count ws b h =
    let word = slice_index ws b in
    let from : b * block_cells ≡ 0 + b * block_cells = omega arith in
    ap (λ k. count_by (cell_bit ws) (range_with_len k block_cells)) from
    ∙ (count-shift (cell_bit ws) 0 (b * block_cells) block_cells
    ∙ (count-same (has_bit word) (λ i. cell_bit ws (i + b * block_cells)) 0 block_cells
    (λ i l m.
    let block : (i + b * block_cells) / block_cells ≡ b = omega (arith, m) in
    let place : (i + b * block_cells) % block_cells ≡ i = omega (arith, m) in
    ap (λ k. has_bit (slice_index ws k) ((i + b * block_cells) % block_cells)) block ∙ ap (has_bit word) place)
    ∙ bits-count 64 word h))

-- the words as noted are those of the list
abbrev pub Reads : ℕ → List ℕ → View → Type 0
Reads n ws v = (b : ℕ) → b < n → (unwrap_or (look (alloc_at b) v.known) 0 ≡ slice_index ws b) × (slice_index ws b < 18446744073709551616)

pub blocks-count : (n : ℕ) (ws : List ℕ) (v : View) → Reads n ws v → count_by (cell_bit ws) (range_with_len 0 (n * block_cells)) ≡ ones_noted n v
blocks-count zero ws v h = refl
blocks-count (suc n) ws v h =
    let one = h n (omega arith) in
    let all : suc n * block_cells ≡ n * block_cells + block_cells = omega arith in
    let from : 0 + n * block_cells ≡ n * block_cells = omega arith in
    let split : count_by (cell_bit ws) (range_with_len 0 (suc n * block_cells)) ≡ count_by (cell_bit ws) (range_with_len 0 (n * block_cells)) + count_by (cell_bit ws) (range_with_len (n * block_cells) block_cells) =
    ap (λ k. count_by (cell_bit ws) (range_with_len 0 k)) all
    ∙ (count-parts (cell_bit ws) 0 (n * block_cells) block_cells ∙ ap (λ k. count_by (cell_bit ws) (range_with_len 0 (n * block_cells)) + count_by (cell_bit ws) (range_with_len k block_cells)) from) in
    let rest = blocks-count n ws v (λ b l. h b (omega (arith, l))) in
    let here = block-count ws n one.1 in
    let noted = ap ones one.0 in
    omega (arith, split, rest, here, noted)

-- no seat has a used cell, so a cell is in use if it is published

and-none : (b c : Bool) → c ≡ false → (b && c) ≡ false
and-none true c e = e
and-none false c e = refl

unused : (o : Option CacheState) (c : ℕ) → has_used o ≡ false → used_in o c ≡ false
unused None c e = refl
unused (Some x) c e =
    let none : x.used ≡ 0 = eqb-true x.used 0 (not-false (x.used == 0) e) in
    and-none (x.block == c / block_cells) (has_bit x.used (c % block_cells)) (ap (λ k. has_bit k (c % block_cells)) none ∙ ap (λ r. r == 1) (bit_at-zero (c % block_cells)))

pub none-used : (c : ℕ) (ss : List SeatState) → ((k : ℕ) (d : SeatState) → k < length ss → has_used (get_or ss k d).cache ≡ false) → list_any (used_by c) (makers ss) ≡ false
none-used c [] h = refl
none-used c (s ∷ ss) h = or_from (used_in s.cache c) (list_any (used_by c) (makers ss)) (unused s.cache c (h 0 s (omega arith))) (none-used c ss (λ k d l. h (suc k) d (omega (arith, l))))
