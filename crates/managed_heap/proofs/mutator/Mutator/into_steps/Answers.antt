use Rattle.std.proofs.Common.{◌∙◌, subst}
use Rattle.managed_heap.specs.Calls.{LeavesFrom}
use Rattle.managed_heap.specs.declared.mutator.Place.{Place}
use Rattle.managed_heap.proofs.mutator.Mutator.into_steps.Goals as goal

pub returns-clause-rests : goal.returns-clause-rests
returns-clause-rests c = λ out. c.of_resting.ensures.stepped.seat ∙ subst (λ (p : Place). LeavesFrom p c.args.self.seat c.leave.new.self.seat) out c.leave.ensures.left.leaves
