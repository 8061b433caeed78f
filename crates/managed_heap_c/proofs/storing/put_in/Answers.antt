use Rattle.std.proofs.Common.{ℕ, ◌==◌, ◌-◌, ◌∙◌, [], ◌∷◌, ap}
use Rattle.std.specs.Prelude.{if◌then◌else◌}
use Rattle.mark_core.specs.Steps.MutatorSteps.{seat_variable as word_in}
use Rattle.mark_core.specs.declared.kinds.Step.TheVariants.{StoreValue}
use Rattle.gc_table.specs.Seats.{state_of}
use Rattle.mutator_ops.specs.Holding.{held_kind}
use Rattle.mutator_ops.specs.Listing.{storing_steps}
use Rattle.plain_heap.specs.PlainStep.{stored_at, with_value}
use Rattle.plain_heap.specs.declared.operation.Op.TheVariants as ops
use Rattle.seat_steps.specs.Stepping.{heap_of_stepper}
use Rattle.managed_heap_c.proofs.Stored.{stored}
use Rattle.managed_heap_c.proofs.storing.put_in.Goals as goal

pub returns : goal.returns
returns c =
    let a = c.args in
    let h = heap_of_stepper a.stepper.now in
    let e = c.is_nil-nil.ensures in
    record {
      stores =
          stored a.v (ops.Put a.v a.value) c.unless_nil.result c.put.result c.is_nil-nil.result a.stepper.now c.put.new.self
          (λ r. r.0)
          (record {
            own = λ n. ap (λ ref. stored_at h ref (λ object. with_value object a.value)) n;
            takes = λ n k. k ∙ ap (λ ref. storing_steps (held_kind ref) (word_in (state_of a.stepper.now.seat) a.v - 1) (StoreValue a.v a.value ∷ [])) n;
            shared = λ n k. k.steps_are ∙ ap (λ (word : ℕ). if word == 0 then [] else StoreValue a.v a.value ∷ []) n;
          })
          e.nil
          e.some
          e.refused
          c.put.ensures.operates
          c.unless_nil.ensures.tells;
    }
