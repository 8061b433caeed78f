-- What a state comes to in numbers: how many cells are marked, and how many are in use.
use Rattle.std.specs.Prelude.{ℕ}
use Rattle.std.specs.List.{count_by, range_with_len}
use Rattle.mark_core.specs.Layout.{words_of}
use Rattle.mark_core.specs.Bits.{cell_bit}
use Rattle.mark_core.specs.Cells.{in_use}
use Rattle.mark_core.specs.Views.{makers}
use Rattle.mark_core.specs.Steps.{Core}

-- how many cells are marked
abbrev pub marked_cells : Core → ℕ
marked_cells c = count_by (cell_bit (words_of c.shape c.words).marks) (range_with_len 0 c.shape.cells)

-- how many cells are in use: published, or made and not yet published
abbrev pub used_cells : Core → ℕ
used_cells c = count_by (in_use (words_of c.shape c.words).allocs (makers c.seats)) (range_with_len 0 c.shape.cells)
