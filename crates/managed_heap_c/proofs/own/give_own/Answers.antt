use Rattle.std.proofs.Common.{◌∙◌, subst}
use Rattle.managed_heap.specs.Calls.{LeavesFrom}
use Rattle.managed_heap.specs.declared.mutator.Place.{Place}
use Rattle.managed_heap_c.proofs.own.give_own.Goals as goal

pub returns-in-Err-clause-refused : goal.returns-in-Err-clause-refused
returns-in-Err-clause-refused c =
    let i = c.in-Err in
    let left = i.ensures.refused in
    let steps = c.into_steps.ensures in (
      steps.same ∙ left.same.heap,
      steps.world.0 ∙ left.same.world,
      steps.world.1 ∙ left.same.name_is,
      i.ensures.kept,
      c.take_mutator.ensures.rest,
      λ out. steps.rests left.outside ∙ subst (λ (p : Place). LeavesFrom p c.args.mutator.seat i.mutator.seat) out left.leaves,
      steps.outside,
      steps.new,
      steps.stops ∙ left.same.stops,
    )
