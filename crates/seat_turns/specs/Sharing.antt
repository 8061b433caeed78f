-- What one operation does in a heap whose objects are shared.
use Rattle.std.specs.Prelude.{ℕ, ◌≡◌, ◌==◌, ◌⊎◌, ◌<◌, not, Bool, true, false}
use Rattle.mark_core.specs.Numbers.{done_count}
use Rattle.mark_core.specs.Steps.MutatorSteps.{seat_variable as word_in}
use Rattle.mark_core.specs.declared.kinds.Step.{Step}
use Rattle.mark_core.specs.declared.kinds.Step.TheVariants.{AddStat, ExchangeField, ExchangeValue, StoreField, StoreNew, StoreRoot, StoreSlot, StoreValue, HoldRoot}
use Rattle.gc_table.specs.declared.view.View.{View}
use Rattle.gc_table.specs.Log.{Only}
use Rattle.gc_table.specs.Running.{Ran}
use Rattle.mutator_ops.specs.Sharing.{FollowsFound, SetsVariable, ShareCreates}

-- variable u became what field i of variable w's object was found to be, or nil if w is
abbrev pub FollowsField : ℕ → ℕ → ℕ → View → View → Type 0
FollowsField u w i v x = ((word_in v.state w ≡ 0) × SetsVariable u 0 v x) ⊎ ((0 < word_in v.state w) × FollowsFound u w i v x)

-- an object was made in some cell
pub record MakesShared (u n : ℕ) (v x : View) : Type 0 where
  pub cell : ℕ
  pub inside : cell < v.shape.cells
  pub creates : ShareCreates u n cell v x

-- the step is none that a plain heap sees: it stores or exchanges no field, value, variable or slot, and no word of a new object
abbrev pub spares_heap : Step → Bool
spares_heap (StoreField v i w) = false
spares_heap (StoreValue v n) = false
spares_heap (StoreRoot v r) = false
spares_heap (HoldRoot v r) = false
spares_heap (StoreSlot k r) = false
spares_heap (ExchangeField v i x y) = false
spares_heap (ExchangeValue v m n) = false
spares_heap (StoreNew c part word) = false
spares_heap step = true

-- the step counts no part that was played; by that number the tracers of a world are dismissed
abbrev pub spares_tracers : Step → Bool
spares_tracers (AddStat which by down) = not (which == done_count)
spares_tracers step = true

-- what the seat did, no plain heap sees, it dismissed no tracers, and its variables are as they were
pub record LeavesHeap (v w : View) : Type 0 where
  pub ran : Ran v w
  pub only : Only spares_heap v w
  pub tracers : Only spares_tracers v w
  pub words : w.state.env ≡ v.state.env

-- the seat came to a free cell, of which the plain heap sees nothing, and then made an object in it
pub record MakesSharedAfter (u n : ℕ) (v x : View) : Type 0 where
  pub came : View
  pub leaves : LeavesHeap v came
  pub makes : MakesShared u n came x
