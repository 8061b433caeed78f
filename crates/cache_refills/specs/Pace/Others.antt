-- Which section's roots a payment scans besides its own.
use Rattle.std.specs.Prelude.{ℕ, ◌/◌, ◌%◌, List, Option, Some}
use Rattle.mark_core.specs.Cards.{block_cells}
use Rattle.mark_core.specs.Numbers.{free_count}
use Rattle.mark_core.specs.declared.kinds.Shape.{Shape}
use Rattle.gc_table.specs.Log.{events}
use Rattle.gc_table.specs.declared.view.Entry.{Entry}
use Rattle.gc_table.specs.declared.view.View.{View}
use Rattle.gc_cycle.specs.Turns.{SeesToRoots}
use Rattle.cache_refills.specs.Pace.Pacing.{last_read}

-- how many blocks the free cells would fill, if the number was read: each claim of a cache lowers it, so it is another at nearly each payment
abbrev pub turn_by : Option ℕ → ℕ
turn_by (Some free) = free / block_cells
turn_by free = 0

-- so by the number as read last
abbrev pub turn_seen : List Entry → ℕ
turn_seen es = turn_by (last_read free_count es)

-- a payment saw to the roots of the section whose turn it was by the number that it read, or no packet could be taken
abbrev pub SeesToNext : Shape → View → View → Type 0
SeesToNext sh v w = SeesToRoots (turn_seen (events v w) % sh.sections) v w
