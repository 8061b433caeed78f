-- Weak references as plain numbers.
use Rattle.std.specs.Prelude.{ℕ, ◌≡◌, ◌+◌, ◌*◌}
use Rattle.mark_core.specs.Numbers.{section_span}
use Rattle.gc_table.specs.declared.view.View.{View}
use Rattle.card_clean.specs.Barrier.{cell_in}
use Rattle.mutator_ops.specs.Weak.{TakesWeak}
use Rattle.seat_turns.specs.declared.weak.Weak.{Weak}

-- the identity of the object
abbrev pub identity_of : Weak → ℕ
identity_of weak = weak.section * section_span + weak.number

-- a weak reference to variable u's object was taken, in a world of this name
pub record TakesWeakIn (world u : ℕ) (weak : Weak) (v x : View) : Type 0 where
  pub world_is : weak.world ≡ world
  pub place_is : weak.place ≡ cell_in v.state u
  pub takes : TakesWeak u (identity_of weak) v x
