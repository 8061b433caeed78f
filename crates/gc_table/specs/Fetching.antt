-- The pool out of which a seat took a packet, which bounds its length until the seat has read it.
use Rattle.std.specs.Prelude.{ℕ, ◌≡◌, ◌<◌, ◌*◌, ◌%◌, ◌==◌, ◌&&◌, if◌then◌else◌, nat_lt, nat_le, List, [], ◌∷◌, Bool, Option, Some, None, IsTrue, IsFalse}
use Rattle.mark_core.specs.Bits.{has_bit}
use Rattle.mark_core.specs.Cells.{or_else}
use Rattle.mark_core.specs.Held.{holds, has_length}
use Rattle.mark_core.specs.Notes.{word_at}
use Rattle.mark_core.specs.Numbers.{empty_pool_number, low_pool_number, high_pool_number, word_bits}
use Rattle.mark_core.specs.Places.{head_at}
use Rattle.mark_core.specs.Steps.{Core}
use Rattle.mark_core.specs.declared.kinds.Shape.{Shape}
use Rattle.mark_core.specs.declared.kinds.Step.{Step}
use Rattle.mark_core.specs.declared.kinds.Step.TheVariants.{Take}
use Rattle.gc_table.specs.declared.view.Entry.{Entry}
use Rattle.gc_table.specs.declared.view.View.{View}

-- the pool out of which this step took packet p
abbrev pub taken_out : ℕ → Step → ℕ → Option ℕ
taken_out p (Take q packet) found = if (packet == p) && has_bit found (p % word_bits) then Some q else None
taken_out p step found = None

-- the pool out of which packet p was taken last
abbrev pub last_pool : ℕ → List Entry → Option ℕ
last_pool p [] = None
last_pool p (e ∷ es) = or_else (last_pool p es) (taken_out p e.step e.found)

-- the range of the lengths of the packets in pool q
abbrev pub is_in_range : Shape → ℕ → ℕ → Bool
is_in_range sh q n =
    if q == empty_pool_number then n == 0
    else if q == low_pool_number then nat_lt 0 n && nat_lt (2 * n) sh.entries
    else if q == high_pool_number then nat_le sh.entries (2 * n) && nat_le n sh.entries
    else nat_lt 0 n && nat_le n sh.entries

-- a packet whose length the seat has yet to read is as long as it was in its pool
abbrev pub Fetched : Core → View → Type 0
Fetched c v = (p q : ℕ) → p < v.shape.packets → IsTrue (holds v.state.held p) → IsFalse (has_length v.state.held p) → last_pool p v.log ≡ Some q → IsTrue (is_in_range v.shape q (word_at c.shape c.words (head_at p)))
