use Rattle.std.proofs.Common.{ℕ, ◌==◌, ◌-◌, ◌∙◌, [], Some, ap}
use Rattle.std.specs.Prelude.{if◌then◌else◌}
use Rattle.gc_table.specs.Seats.{did, state_of}
use Rattle.card_clean.specs.Barrier.{barrier_steps, was_dirty}
use Rattle.mark_core.specs.Steps.MutatorSteps.{seat_variable as word_in}
use Rattle.mutator_ops.specs.Holding.{held_kind}
use Rattle.mutator_ops.specs.Listing.{storing_steps}
use Rattle.plain_heap.specs.PlainHeap.{variable}
use Rattle.plain_heap.specs.PlainStep.{stored_at, with_field}
use Rattle.plain_heap.specs.declared.operation.Op.TheVariants as ops
use Rattle.seat_steps.specs.Stepping.{heap_of_stepper}
use Rattle.managed_heap_c.proofs.Stored.{stored}
use Rattle.managed_heap_c.proofs.storing.set_in.Goals as goal

pub returns : goal.returns
returns c =
    let a = c.args in
    let h = heap_of_stepper a.stepper.now in
    let e = c.is_nil-nil.ensures in
    record {
      stores =
          stored a.v (ops.Set a.v a.i a.w) c.unless_nil.result c.set.result c.is_nil-nil.result a.stepper.now c.set.new.self
          (λ r. r.0)
          (record {
            own = λ n. ap (λ ref. stored_at h ref (λ object. with_field object a.i (variable h a.w))) n;
            takes = λ n k. k ∙ ap (λ ref. storing_steps (held_kind ref) (word_in (state_of a.stepper.now.seat) a.v - 1) (barrier_steps (state_of a.stepper.now.seat) a.v a.i (Some a.w) (was_dirty (did a.stepper.now.seat c.set.new.self.seat)))) n;
            shared = λ n k. k.steps_are ∙ ap (λ (word : ℕ). if word == 0 then [] else barrier_steps (state_of a.stepper.now.seat) a.v a.i (Some a.w) (was_dirty (did a.stepper.now.seat c.set.new.self.seat))) n;
          })
          e.nil
          e.some
          e.refused
          c.set.ensures.operates
          c.unless_nil.ensures.tells;
    }
