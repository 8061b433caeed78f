-- States in which each index that a step computes is in range.
use Rattle.std.specs.Prelude.{ℕ, ◌≡◌, ◌<◌, ◌≤◌, IfSome, length, unwrap_or}
use Rattle.std.specs.List.{All}
use Rattle.mark_core.specs.Shapes.{IsShape}
use Rattle.mark_core.specs.Layout.{Words, words_of, region_sizes, total_words, block_count}
use Rattle.mark_core.specs.Held.{Slot}
use Rattle.mark_core.specs.Steps.{Core}
use Rattle.mark_core.specs.declared.kinds.Shape.{Shape}
use Rattle.mark_core.specs.declared.seat.SeatState.{SeatState}
use Rattle.mark_core.specs.declared.seat.CacheState.{CacheState}
use Rattle.mark_core.specs.declared.seat.BlockState.{BlockState}
use Rattle.mark_core.specs.Numbers.{most_seats}

-- nil, or a cell that exists
abbrev pub IsReference : Shape → ℕ → Type 0
IsReference sh r = r ≤ sh.cells

-- a packet in hand has no more entries than it has room for, if its length is known
abbrev pub SlotFits : ℕ → Slot → Type 0
SlotFits entries x = IfSome x (λ h. unwrap_or h.1 0 ≤ entries)

-- a block that exists, and a cell that exists
abbrev pub CacheFits : Shape → CacheState → Type 0
CacheFits sh x = (x.block < block_count sh) × IfSome x.last (λ c. c < sh.cells)

-- the words from which seats learn lengths and references
pub record WordBounds (sh : Shape) (w : Words) : Type 0 where
  pub heads : All (λ n. n ≤ sh.entries) w.heads
  pub roots : All (IsReference sh) w.roots
  pub fields : All (IsReference sh) w.fields

-- blocks that exist, and at least one
abbrev pub IsStretch : Shape → BlockState → Type 0
IsStretch sh x = (x.block < x.until) × (x.until ≤ block_count sh)

-- what a seat has in hand
pub record SeatBounds (sh : Shape) (s : SeatState) : Type 0 where
  pub section : unwrap_or s.section 0 < sh.sections
  pub held : All (SlotFits sh.entries) s.held
  pub env : All (IsReference sh) s.env
  pub got : IsReference sh s.got
  pub cache : IfSome s.cache (CacheFits sh)
  pub block : IfSome s.block (IsStretch sh)
  pub made : s.made ≤ sh.objects

-- the sizes are within their limits, all words and at most 41 seats are there, and what they hold is in range
pub record IsBounded (c : Core) : Type 0 where
  pub shaped : IsShape c.shape
  pub word_count : length c.words ≡ total_words (region_sizes c.shape)
  pub words : WordBounds c.shape (words_of c.shape c.words)
  pub seat_count : (1 ≤ length c.seats) × (length c.seats ≤ most_seats)
  pub seats : All (SeatBounds c.shape) c.seats
