-- An operation of the table as one step of a seat: what it asks, and what the seat is afterwards.
use Rattle.std.specs.Prelude.{ℕ, ◌≡◌, ◌+◌, ◌-◌, ◌%◌, ◌^◌, ◌==◌, ◌<◌, [], false, bit_and, bit_or, IsFalse}
use prog.Atomic.{either}
use Rattle.atomic_table.specs.declared.shared.Seat.{Seat}
use Rattle.mark_core.specs.Layout.{address}
use Rattle.mark_core.specs.Effects.{place, written}
use Rattle.mark_core.specs.declared.kinds.Step.{Step}
use Rattle.gc_table.specs.declared.operations.Operation.{Operation}
use Rattle.gc_table.specs.declared.operations.Operation.TheVariants.{Add, Exchange, Keep, Load, Set, Sub, Swap}
use Rattle.gc_table.specs.declared.view.TokenState.{TokenState}
use Rattle.gc_table.specs.declared.view.View.{View}
use Rattle.gc_table.specs.declared.seat.Heap.{Heap}
use Rattle.gc_table.specs.Rule.{IsPossible}
use Rattle.gc_table.specs.Seen.{Recalls, sees}
use Rattle.gc_table.specs.Taking.{after, Asked, IsOwn, May}

-- the right of a seat to take steps, with its view
abbrev pub Token : Type 0
Token = Seat (Unit {0}) TokenState

-- the seat may take this step in the heap, at this word
pub record MayTake (h : Heap) (t : Token) (word : ℕ) (step : Step) : Type 0 where
  -- the seat is one of the heap's, and holds no slot of the table
  pub table : t.table_id ≡ h.table.shared.table_id
  pub bare : t.me.1 ≡ []
  pub shape : t.me.0.view.shape ≡ h.shape
  -- the seat wasn't joined into another
  pub seated : IsFalse t.me.0.stamp
  pub live : t.me.0.view.state.spent ≡ false
  -- the word exists, and is the step's
  pub within : word < h.table.shared.table_id.words
  pub there : word ≡ address t.me.0.view.shape (place t.me.0.view.shape t.me.0.view.state step)
  -- the step's condition holds, and what is asked of a few steps besides
  pub may : May step t.me.0.view
  pub own : IsOwn step
  pub asked : Asked step t.me.0.view

-- the word that the operation leaves where it finds n
abbrev pub left_by : Operation → ℕ → ℕ
left_by Load n = n
left_by (Swap new) n = new
left_by (Add by) n = (n + by) % 2 ^ 64
left_by (Sub by) n = (n + (2 ^ 64 - by)) % 2 ^ 64
left_by (Keep bits) n = bit_and n bits
left_by (Set bits) n = bit_or n bits
left_by (Exchange old new) n = either (n == old) new n

-- if the step finds a word n, it leaves f n
abbrev pub Writes : Step → (ℕ → ℕ) → View → Type 0
Writes step f v = (n : ℕ) → written v.shape v.state step n ≡ f n

-- the seat has taken the step, and was told n
abbrev pub HasTaken : Step → ℕ → Token → Token → Type 0
HasTaken step n t u = (u.table_id ≡ t.table_id) × (u.id ≡ t.id) × (u.me ≡ (sees t.me.0 (after step n t.me.0.view) u.me.0.seen, [])) × IsPossible u.me.0.view × Recalls u.me.0
