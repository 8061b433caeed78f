-- What the end of a cycle leaves, in whatever state that meets the rule and agrees with what the seat knows.
use Rattle.std.specs.Prelude.{ℕ, ◌≡◌, ◌-◌, Bool, IsTrue, IsFalse}
use Rattle.std.specs.List.{count_by, range_with_len}
use Rattle.mark_core.specs.Bits.{cell_bit}
use Rattle.mark_core.specs.Cells.{in_use}
use Rattle.mark_core.specs.Closed.{IsReachableIn}
use Rattle.mark_core.specs.Layout.{words_of}
use Rattle.mark_core.specs.Shapes.{EachCell}
use Rattle.mark_core.specs.Summary.{used_cells}
use Rattle.mark_core.specs.Views.{makers}
use Rattle.mark_core.specs.Steps.{Core}
use Rattle.gc_table.specs.Rule.{IsState, Agrees}
use Rattle.gc_table.specs.TableState.{TableState}
use Rattle.gc_table.specs.declared.view.View.{View}
use Rattle.gc_cycle.specs.declared.counts.Counts.{Counts}

-- cell c is in use
abbrev pub is_used : Core → ℕ → Bool
is_used x c = in_use (words_of x.shape x.words).allocs (makers x.seats) c

-- how many allocation bits are set
abbrev pub published_count : Core → ℕ
published_count x = count_by (cell_bit (words_of x.shape x.words).allocs) (range_with_len 0 x.shape.cells)

-- no cell is marked, and the numbers that pace the next cycle are those of this one
pub record IsCycleEnd (counts : Counts) (x : Core) : Type 0 where
  pub white : EachCell x.shape (λ c. IsFalse (cell_bit (words_of x.shape x.words).marks c))
  pub used : used_cells x ≡ counts.marked
  pub last : (words_of x.shape x.words).last ≡ counts.marked
  pub rescanned : (words_of x.shape x.words).rescanned ≡ counts.rescanned
  pub traced : (words_of x.shape x.words).traced ≡ 0
  pub next_card : (words_of x.shape x.words).next_card ≡ 0
  pub free : (words_of x.shape x.words).free ≡ x.shape.cells - published_count x

-- the cells in use are exactly the reachable ones
abbrev pub IsExact : Core → Type 0
IsExact x = EachCell x.shape (λ c. (IsTrue (is_used x c) → IsReachableIn x c) × (IsReachableIn x c → IsTrue (is_used x c)))

-- P holds in each state that the seat may be in
abbrev pub InEach : (Core → Type 0) → View → Type 0
InEach P v = (x : TableState) (i : ℕ) → IsState x → Agrees x i v → P x.core
