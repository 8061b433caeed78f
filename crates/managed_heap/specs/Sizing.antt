-- The sizes that a world may have.
use Rattle.std.specs.Prelude.{ℕ, ◌≡◌, ◌%◌, ◌/◌, ◌≤◌, min, max}
use Rattle.mark_core.specs.Cards.{block_cells}
use Rattle.managed_heap.specs.declared.sizes.Sizes.{Sizes}

-- each size is in its range
pub record Fits (s : Sizes) : Type 0 where
  pub cells : (block_cells ≤ s.cells) × (s.cells ≤ 16777216) × (s.cells % block_cells ≡ 0)
  pub fields : (1 ≤ s.fields) × (s.fields ≤ 16)
  pub mutators : (1 ≤ s.mutators) × (s.mutators ≤ 32)
  pub tracers : s.tracers ≤ 8
  pub slots : s.slots ≤ 65536
  pub packets : (2 ≤ s.packets) × (s.packets ≤ 1024)
  pub entries : (2 ≤ s.entries) × (s.entries ≤ 512)

-- how many cells a packet has room for if no number is given
abbrev pub usual_entries : ℕ → ℕ
usual_entries cells = min (max (cells / 2048) 32) 512
