use Rattle.std.proofs.Common.{◌∙◌, subst}
use Rattle.gc_table.specs.Seats.{view_of}
use Rattle.seat_turns.proofs.Leaving.{leaves-join}
use Rattle.shared_heap.specs.Calls.{LeavesFrom}
use Rattle.shared_heap.specs.declared.mutator.Place.{Place}
use Rattle.managed_heap_c.proofs.sharing.give_shared.Goals as goal

pub returns-in-Err-clause-refused : goal.returns-in-Err-clause-refused
returns-in-Err-clause-refused c =
    let i = c.in-Err in
    let r = i.ensures.refused in
    let left = r.same in
    let steps = c.into_steps.ensures.steps in (
      leaves-join (view_of c.args.mutator.seat) (view_of i.mutator.seat) (view_of c.into_steps.result.seat) left.leaves steps.leaves,
      steps.world ∙ left.world,
      steps.name_is ∙ left.name_is,
      i.ensures.kept,
      c.take_mutator.ensures.rest,
      λ out. steps.rests r.outside ∙ subst (λ (p : Place). LeavesFrom p c.args.mutator.seat i.mutator.seat) out r.leaves,
      steps.outside,
      steps.new,
      steps.stops,
    )
