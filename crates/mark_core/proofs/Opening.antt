-- The state in which nothing has happened: how its words are put together, and that they are all there.
use Rattle.std.proofs.Common.{ℕ, ◌≡◌, ◌+◌, ◌-◌, ◌*◌, ◌≤◌, zero, suc, List, [], ◌∷◌, ◌++◌, map, replicate, take, drop, get_or, length, arith, refl, sym, ap, ◌∙◌, subst, append_assoc}
use Rattle.std.specs.List.{All, range_with_len}
use Rattle.std.proofs.lemmas.List.{length-append, length-replicate, take_all, take-append-le, take-replicate, drop-append-le, drop-replicate}
use Rattle.std.proofs.lemmas.List.Elements.{All-nil, All-cons}
use Rattle.std.proofs.lemmas.List.FromFn.{length-map-range_with_len}
use Rattle.mark_core.specs.Shapes.{IsShape}
use Rattle.mark_core.specs.Places.{pool_at}
use Rattle.mark_core.specs.Layout.{address, region_base, region_words, region_sizes, total_words, pool_words}
use Rattle.mark_core.specs.Start.{start_seat, packet_bits, full_pool, start_words, start_seats}
use Rattle.mark_core.specs.Steps.{start_core}
use Rattle.mark_core.specs.Bounds.{SeatBounds, IsBounded}
use Rattle.mark_core.proofs.Writing.SeatBoundsKept.{start-bounds}
use Rattle.mark_core.specs.declared.kinds.Shape.{Shape}

pool_length : (sh : Shape) → length (full_pool sh) ≡ pool_words sh
pool_length sh = length-map-range_with_len (packet_bits sh.packets) 0 (pool_words sh)

-- a list that is filled up with zeros
filled : (xs : List ℕ) (n m : ℕ) → length xs ≤ n → n - length xs ≡ m → take n xs ++ replicate (n - length xs) 0 ≡ xs ++ replicate m 0
filled xs n m h e = rw (e, take_all n xs h) refl

abbrev singles : Shape → List ℕ
singles sh = 0 ∷ 0 ∷ (64 + sh.packets) ∷ 0 ∷ 0 ∷ 0 ∷ 0 ∷ 0 ∷ 0 ∷ sh.cells ∷ 0 ∷ []

-- the words as they are put together: the single words, zeros up to the pools, the first pool, and zeros
pub put-together : (sh : Shape) (w1 w2 w3 w4 pool : List ℕ) (p t : ℕ) → w1 ≡ singles sh → p ≡ region_base (region_sizes sh) 12 → w2 ≡ take p w1 ++ replicate (p - 11) 0 → pool ≡ full_pool sh → w3 ≡ w2 ++ pool
    → t ≡ total_words (region_sizes sh) → w4 ≡ take t w3 ++ replicate (t - length w3) 0 → w4 ≡ start_words sh
put-together sh w1 w2 w3 w4 pool p t e1 ep e2 eq e3 et e4 =
    let base : p ≡ address sh (pool_at sh 0 0) = omega (arith, ep) in
    let front : w2 ≡ singles sh ++ replicate (p - 11) 0 = e2 ∙ rw e1 (filled (singles sh) p (p - 11) (omega (arith, ep)) refl) in
    let l2 : length w2 ≡ p = rw front (omega (arith, ep, length-replicate {A = ℕ} (p - 11) 0)) in
    let l3 : length w3 ≡ p + pool_words sh = rw e3 (rw length-append (omega (arith, l2, ap length eq, pool_length sh))) in
    let rest : t - length w3 ≡ 3 * pool_words sh + 2 = omega (arith, l3, et, ep) in
    e4 ∙ filled w3 t (3 * pool_words sh + 2) (omega (arith, l3, et, ep)) rest ∙ rw (e3, front, eq) (ap (λ (n : ℕ). singles sh ++ replicate (n - 11) 0 ++ full_pool sh ++ replicate (3 * pool_words sh + 2) 0) base)

pub start-length : (sh : Shape) → length (start_words sh) ≡ total_words (region_sizes sh)
start-length sh = simp (length-append, length-replicate, pool_length sh) (omega arith)

-- a region that lies within zeros
zero_region : (ns : List ℕ) (r m : ℕ) (xs : List ℕ) → region_base ns (suc r) ≤ m → region_words ns r (replicate m 0 ++ xs) ≡ replicate (get_or ns r 0) 0
zero_region [] r m xs h = refl
zero_region (n ∷ ns) zero m xs h =
    let long : n ≤ length (replicate {A = ℕ} m 0) = rw length-replicate (omega (arith, h)) in
    let few : n ≤ m = omega (arith, h) in
    take-append-le n (replicate m 0) xs long ∙ take-replicate {X = ℕ} n m 0 few
zero_region (n ∷ ns) (suc r) m xs h =
    let long : n ≤ length (replicate {A = ℕ} m 0) = rw length-replicate (omega (arith, h)) in
    rw (drop-append-le n (replicate m 0) xs long, drop-replicate {X = ℕ} n m 0) (zero_region ns r (m - n) xs (omega (arith, h)))

all_zero : (n k : ℕ) → All (λ x. x ≤ n) (replicate k 0)
all_zero n zero = All-nil (λ x. x ≤ n)
all_zero n (suc k) = All-cons (λ x. x ≤ n) 0 (replicate k 0) (omega arith) (all_zero n k)

-- each region between the single words and the pools
pub start_region : (sh : Shape) (r n : ℕ) → region_base (drop 1 (region_sizes sh)) (suc r) ≤ region_base (drop 1 (region_sizes sh)) 11 → All (λ x. x ≤ n) (region_words (region_sizes sh) (suc r) (start_words sh))
start_region sh r n h =
    let m : ℕ = address sh (pool_at sh 0 0) - 11 in
    let e : region_words (region_sizes sh) (suc r) (start_words sh) ≡ replicate (get_or (region_sizes sh) (suc r) 0) 0 = ap (region_words (drop 1 (region_sizes sh)) r) (append_assoc (replicate m 0) (full_pool sh) (replicate (3 * pool_words sh + 2) 0)) ∙ zero_region (drop 1 (region_sizes sh)) r m (full_pool sh ++ replicate (3 * pool_words sh + 2) 0) (omega (arith, h)) in
    let P : List ℕ → Type 0 = All (λ x. x ≤ n) in
    subst P (sym e) (all_zero n (get_or (region_sizes sh) (suc r) 0))

seats_fit : (sh : Shape) (a n : ℕ) → IsShape sh → All (SeatBounds sh) (map (start_seat sh) (range_with_len a n))
seats_fit sh a zero k = All-nil (SeatBounds sh)
seats_fit sh a (suc n) k = All-cons (SeatBounds sh) (start_seat sh a) _ (start-bounds sh a k) (seats_fit sh (a + 1) n k)

pub start-bounded : (sh : Shape) (n : ℕ) → IsShape sh → 1 ≤ n → n ≤ 41 → IsBounded (start_core sh n)
start-bounded sh n k some few =
    let l : length (start_seats sh n) ≡ n = length-map-range_with_len (start_seat sh) 0 n in
    record {
      shaped = k;
      word_count = start-length sh;
      words = record { heads = start_region sh 6 sh.entries (omega arith); roots = start_region sh 1 sh.cells (omega arith); fields = start_region sh 10 sh.cells (omega arith) };
      seat_count = (omega (arith, l), omega (arith, l));
      seats = seats_fit sh 0 n k;
    }
