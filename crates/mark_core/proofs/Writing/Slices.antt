-- The words of a region, as the part of all words from its first one up to that of the next region.
use Rattle.std.proofs.Common.{ℕ, ◌≡◌, ◌+◌, ◌-◌, zero, suc, List, [], ◌∷◌, take, drop, arith, refl, sym}
use Rattle.std.proofs.lemmas.List.{drop-drop}
use Rattle.mark_core.specs.Layout.{region_base, region_words, region_sizes, words_of}
use Rattle.mark_core.specs.declared.kinds.Shape.{Shape}

base-first : (ns : List ℕ) → region_base ns 0 ≡ 0
base-first [] = refl
base-first (n ∷ ns) = refl

between : (ns : List ℕ) (r : ℕ) (ws : List ℕ) → take (region_base ns (suc r) - region_base ns r) (drop (region_base ns r) ws) ≡ region_words ns r ws
between [] r ws = refl
between (n ∷ ns) zero ws = let e : n + region_base ns 0 - 0 ≡ n = omega (arith, base-first ns) in rw e refl
between (n ∷ ns) (suc r) ws =
    let e : n + region_base ns (suc r) - (n + region_base ns r) ≡ region_base ns (suc r) - region_base ns r = omega arith in
    rw (e, ← drop-drop (region_base ns r) n ws) (between ns r (drop n ws))

-- the words between two places that were computed otherwise are those of the region
pub region-slice : (ns : List ℕ) (r : ℕ) (ws : List ℕ) (a b : ℕ) → a ≡ region_base ns r → b ≡ region_base ns (suc r) → take (b - a) (drop a ws) ≡ region_words ns r ws
region-slice ns r ws a b i j = rw (i, j) (between ns r ws)

-- three of the regions, each as a part of all words
pub roots-part : (sh : Shape) (ws : List ℕ) → (words_of sh ws).roots ≡ take (region_base (region_sizes sh) 3 - region_base (region_sizes sh) 2) (drop (region_base (region_sizes sh) 2) ws)
roots-part sh ws = sym (between (region_sizes sh) 2 ws)

pub allocs-part : (sh : Shape) (ws : List ℕ) → (words_of sh ws).allocs ≡ take (region_base (region_sizes sh) 5 - region_base (region_sizes sh) 4) (drop (region_base (region_sizes sh) 4) ws)
allocs-part sh ws = sym (between (region_sizes sh) 4 ws)

pub marks-part : (sh : Shape) (ws : List ℕ) → (words_of sh ws).marks ≡ take (region_base (region_sizes sh) 6 - region_base (region_sizes sh) 5) (drop (region_base (region_sizes sh) 5) ws)
marks-part sh ws = sym (between (region_sizes sh) 5 ws)

pub ruleset parts_of_words = (roots-part, allocs-part, marks-part)
