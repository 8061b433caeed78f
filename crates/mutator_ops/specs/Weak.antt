-- What a mutator does that takes a weak reference to an object: it makes sure that the object is published, so that its death can be told, and reads which it is.
use Rattle.std.specs.Prelude.{ℕ, ◌≡◌, ◌%◌, Bool, true, false, IsTrue}
use Rattle.mark_core.specs.Bits.{has_bit}
use Rattle.mark_core.specs.Cards.{block_cells}
use Rattle.mark_core.specs.Seats.{used_in}
use Rattle.mark_core.specs.Steps.MutatorSteps.{seat_variable as word_in, weak_reference}
use Rattle.mark_core.specs.declared.kinds.Step.TheVariants.{PublishCells, ReadWeak}
use Rattle.gc_table.specs.declared.view.View.{View}
use Rattle.gc_table.specs.Seats.{Found, Took}
use Rattle.card_clean.specs.Barrier.{cell_in}
use Rattle.mutator_ops.specs.Upgrading.{FindsIdentity}

-- the seat published what it made, or did nothing
abbrev pub PublishesIf : Bool → View → View → Type 0
PublishesIf true v w = Took PublishCells v w
PublishesIf false v w = w ≡ v

-- the seat published what it made, if cell c is of it
abbrev pub PublishesOwn : ℕ → View → View → Type 0
PublishesOwn c v w = PublishesIf (used_in v.state.cache c) v w

-- variable u's object, which the seat had published if it was its own, was found published, and has this identity
pub record TakesWeak (u id : ℕ) (v x : View) : Type 0 where
  pub own : View
  pub publishes : PublishesOwn (cell_in v.state u) v own
  pub finds : FindsIdentity u (cell_in v.state u) id (word_in v.state u) own x
  pub published : IsTrue (has_bit finds.bits (cell_in v.state u % block_cells))

-- it was found unpublished, and isn't the seat's own; only the allocation bits were read
pub record FindsUnpublished (u : ℕ) (v x : View) : Type 0 where
  pub own : View
  pub publishes : PublishesOwn (cell_in v.state u) v own
  pub bits : ℕ
  pub none : weak_reference own.state (cell_in v.state u) bits ≡ 0
  pub finds : Found (ReadWeak (cell_in v.state u)) bits own x
