-- How much a call does of what a collection consists of.
use Rattle.std.specs.Prelude.{ℕ, ◌≡◌}
use Rattle.gc_table.specs.Log.{events}
use Rattle.gc_table.specs.declared.view.View.{View}
use Rattle.packet_pools.specs.Counts.{count_of}
use Rattle.mutator_ops.specs.Few.{AtMost}
use Rattle.gc_cycle.specs.Sorts.{draws_block}
use Rattle.seat_steps.specs.Filling.{PopsNone}

-- no block came in hand, however many there are
abbrev pub DrawsNone : View → View → Type 0
DrawsNone v w = (blocks : ℕ) → count_of (draws_block blocks) (events v w) ≡ 0

-- neither a cell was popped nor a block drawn
abbrev pub DoesNeither : View → View → Type 0
DoesNeither v w = PopsNone v w × DrawsNone v w

-- neither was done, and this many steps were taken at most
abbrev pub DoesFew : ℕ → View → View → Type 0
DoesFew most v w = DoesNeither v w × AtMost most v w

-- no cell was popped, and this many steps were taken at most
abbrev pub PassesFew : ℕ → View → View → Type 0
PassesFew most v w = PopsNone v w × AtMost most v w
