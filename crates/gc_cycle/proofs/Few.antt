-- How many steps calls take, by their lists and by their sizes.
use Rattle.std.proofs.Common.{ℕ, ◌≡◌, ◌≤◌, ◌+◌, ◌*◌, List, [], ◌∷◌, ◌++◌, length, arith, refl, Bool, true, false, Option, Some, None}
use Rattle.std.specs.Prelude.{◌==◌, if◌then◌else◌}
use Rattle.std.proofs.Math.Nat.{mul-le-mul_right}
use Rattle.std.specs.Int.Count.{ones}
use Rattle.mark_core.specs.Numbers.{free_count}
use Rattle.mark_core.specs.declared.kinds.Step.TheVariants.{AddStat, PublishCells, ReleaseBlock}
use Rattle.mark_core.specs.declared.kinds.Shape.{Shape}
use Rattle.packet_pools.specs.StepBounds.{follow_steps, scan_steps}
pub use Rattle.packet_pools.proofs.Few.{few-after, few-events, few-join, few-steps}
use Rattle.card_clean.specs.StepBounds.{clean_some_steps, see_to_steps}
use Rattle.sweeper.specs.Blocks.{swept_blocks}
use Rattle.alloc_cache.specs.declared.cache.Cache.{Cache}
use Rattle.gc_cycle.specs.Answering.{giving_up}

-- a cache is given up by three steps at most
pub giving-few : (o : Option Cache) (used : ℕ) → length (giving_up o used) ≤ 3
giving-few None used = omega arith
giving-few (Some h) used = either (used == 0) (ones h.cells)
  where
    either : (b : Bool) (n : ℕ) → length ((if b then [] else PublishCells ∷ []) ++ AddStat free_count n false ∷ ReleaseBlock ∷ []) ≤ 3
    either true n = omega arith
    either false n = omega arith

-- this many blocks were swept, each by four steps
pub swept-few : (b : ℕ) (xs : List (ℕ × ℕ)) → length (swept_blocks b xs) ≡ 4 * length xs
swept-few b [] = refl
swept-few b (x ∷ xs) = let rest = swept-few (b + 1) xs in omega (arith, rest)

-- fewer roots, and fewer cards
pub roots-fewer : (m n : ℕ) (sh : Shape) (k : ℕ) → m ≤ n → k ≤ see_to_steps m sh → k ≤ see_to_steps n sh
roots-fewer m n sh k l few = let most = mul-le-mul_right {m = m} {n = n} (follow_steps sh) l in omega (arith, few, most)

pub cards-fewer : (m n i j : ℕ) (sh : Shape) (k : ℕ) → m ≤ n → i ≤ j → k ≤ clean_some_steps m i sh → k ≤ clean_some_steps n j sh
cards-fewer m n i j sh k l h few = let most = mul-le-mul_right {m = i} {n = j} (scan_steps sh.fields sh) h in omega (arith, few, most, l)
