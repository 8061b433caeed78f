use Rattle.std.proofs.Common.{◌∙◌, arith, refl, rules}
use Rattle.shared_heap.specs.contracts.mutator.SharedMutator.{the_type}
use Rattle.shared_heap.proofs.mutator.SharedMutator.upgrade_here.Goals.{then-v-ge-VARIABLES-via-then-v-ge-VARIABLES, then-v-ge-VARIABLES-via-else-v-ge-VARIABLES+then-weak-shape, then-v-ge-VARIABLES-via-else-v-ge-VARIABLES+else-weak-shape+then-weak-shape-2, then-v-ge-VARIABLES-via-else-v-ge-VARIABLES+else-weak-shape+else-weak-shape-2+then-weak-shape-3}
use Rattle.shared_heap.proofs.mutator.SharedMutator.upgrade_here.Goals as goal

pub returns-then-v-ge-VARIABLES-clause-refused : goal.returns-then-v-ge-VARIABLES-clause-refused
returns-then-v-ge-VARIABLES-clause-refused c =
    elim c.then-v-ge-VARIABLES.branch [
      | then-v-ge-VARIABLES-via-then-v-ge-VARIABLES k ↦ record { why = λ r. omega (arith, r.0, k.if-v-ge-VARIABLES.true); same = k.self-is ∙ the_type.to_one _ c.args.self.now refl }
      | then-v-ge-VARIABLES-via-else-v-ge-VARIABLES+then-weak-shape k ↦ record { why = search rules; same = k.self-is ∙ the_type.to_one _ c.args.self.now refl }
      | then-v-ge-VARIABLES-via-else-v-ge-VARIABLES+else-weak-shape+then-weak-shape-2 k ↦ record { why = search rules; same = k.self-is ∙ the_type.to_one _ c.args.self.now refl }
      | then-v-ge-VARIABLES-via-else-v-ge-VARIABLES+else-weak-shape+else-weak-shape-2+then-weak-shape-3 k ↦ record { why = search rules; same = k.self-is ∙ the_type.to_one _ c.args.self.now refl }
    ]
