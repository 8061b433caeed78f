-- How many trees there are of each depth, and how many nodes the trees of one worker have.
use Rattle.std.specs.Prelude.{ℕ, ◌≡◌, ◌+◌, ◌-◌, ◌*◌, ◌/◌, ◌%◌, ◌^◌, ◌<◌, ◌≤◌, List, slice_index}
use Rattle.bench_heaps.specs.Trees.{full}
use Rattle.bench_heaps.specs.declared.trees.words.Asked.{Asked}

-- the words are in their ranges
pub record AreWordsInRange (a : Asked) : Type 0 where
  pub depth : (4 ≤ a.depth) × (a.depth ≤ 13)
  pub cells : (64 ≤ a.cells) × (a.cells ≤ 65536) × (a.cells % 64 ≡ 0)
  pub workers : (1 ≤ a.workers) × (a.workers ≤ 32)
  pub tracers : a.tracers ≤ 8

-- the depth with this number
abbrev pub depth_at : ℕ → ℕ
depth_at i = 4 + 2 * i

-- how many trees of it all workers make
abbrev pub trees_at : ℕ → ℕ → ℕ
trees_at depth i = 2 ^ (depth - 2 * i)

-- how many of this many worker `at` makes: those whose numbers leave `at` when they are divided by the number of workers
abbrev pub share : ℕ → ℕ → ℕ → ℕ
share trees workers at = (trees + (workers - 1 - at)) / workers

-- what worker `at` counted, up to the first this many depths
abbrev pub AreChecked : Asked → ℕ → ℕ → List ℕ → Type 0
AreChecked a at depths checks = (i : ℕ) → i < depths → depth_at i ≤ a.depth → slice_index checks i ≡ share (trees_at a.depth i) a.workers at * full (depth_at i)
