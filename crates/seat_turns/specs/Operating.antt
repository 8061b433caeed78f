-- Which steps an operation takes that makes no object, in their order, by what the seat's record and its plain heap were before it.
use Rattle.std.specs.Prelude.{ℕ, ◌≡◌, ◌-◌, [], ◌∷◌, Some, slice_index}
use Rattle.mark_core.specs.Steps.MutatorSteps.{seat_variable as word_in}
use Rattle.mark_core.specs.declared.kinds.Step.TheVariants.{StoreRoot, StoreValue}
use Rattle.plain_heap.specs.PlainHeap.{variable}
use Rattle.plain_heap.specs.declared.operation.Op.{Op}
use Rattle.plain_heap.specs.declared.operation.Op.TheVariants as ops
use Rattle.gc_table.specs.Log.{events, steps_of}
use Rattle.gc_table.specs.declared.view.View.{View}
use Rattle.card_clean.specs.Barrier.{barrier_steps, was_dirty}
pub use Rattle.mutator_ops.specs.Few.{AtMost}
use Rattle.mutator_ops.specs.Holding.{held_kind}
use Rattle.mutator_ops.specs.Listing.{following_events, saying_steps, storing_steps}

-- the operation took exactly these steps: an object is asked whose it is before it is stored in, a read reads once, and a variable is stored once
abbrev pub TakesSteps : Op → View → View → Type 0
TakesSteps (ops.Let u x) v w = steps_of (events v w) ≡ StoreRoot u (slice_index v.state.env x) ∷ []
TakesSteps (ops.Nil u) v w = steps_of (events v w) ≡ StoreRoot u 0 ∷ []
TakesSteps (ops.Set u i x) v w = steps_of (events v w) ≡ storing_steps (held_kind (variable v.own.meaning.heap u)) (word_in v.state u - 1) (barrier_steps v.state u i (Some x) (was_dirty (events v w)))
TakesSteps (ops.Put u n) v w = steps_of (events v w) ≡ storing_steps (held_kind (variable v.own.meaning.heap u)) (word_in v.state u - 1) (StoreValue u n ∷ [])
TakesSteps (ops.Get u x i) v w = (found : ℕ) × (events v w ≡ following_events v.state u x i found)
TakesSteps (ops.Say u) v w = steps_of (events v w) ≡ saying_steps v.state u
TakesSteps op v w = ⊥
