-- What the words may ask for.
use Rattle.std.specs.Prelude.{ℕ, ◌≡◌, ◌≤◌, ◌%◌}
use Rattle.bench_heaps.specs.declared.pauses.words.Asked.{Asked}

-- the words are in their ranges
pub record AreWordsInRange (a : Asked) : Type 0 where
  pub cells : (4096 ≤ a.cells) × (a.cells ≤ 16777216) × (a.cells % 64 ≡ 0)
  pub live : (1 ≤ a.live) × (a.live ≤ 90)
  pub workers : (1 ≤ a.workers) × (a.workers ≤ 32)
  pub tracers : a.tracers ≤ 8
  pub packets : (2 ≤ a.packets) × (a.packets ≤ 1024)
  pub entries : (2 ≤ a.entries) × (a.entries ≤ 512)
  pub transactions : a.transactions ≤ 4000000000
