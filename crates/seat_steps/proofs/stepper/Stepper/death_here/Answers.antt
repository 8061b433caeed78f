use Rattle.std.proofs.Common.{◌∙◌, arith, refl, rules}
use Rattle.seat_steps.specs.contracts.stepper.Stepper.{the_type}
use Rattle.seat_steps.proofs.stepper.Stepper.death_here.Goals.{then-v-ge-VARIABLES-via-then-v-ge-VARIABLES, then-v-ge-VARIABLES-via-else-v-ge-VARIABLES+then-weak-shape, then-v-ge-VARIABLES-via-else-v-ge-VARIABLES+else-weak-shape+then-weak-shape-2, then-v-ge-VARIABLES-via-else-v-ge-VARIABLES+else-weak-shape+else-weak-shape-2+then-weak-shape-3}
use Rattle.seat_steps.proofs.stepper.Stepper.death_here.Goals as goal

pub returns-then-v-ge-VARIABLES-clause-refused : goal.returns-then-v-ge-VARIABLES-clause-refused
returns-then-v-ge-VARIABLES-clause-refused c =
    elim c.then-v-ge-VARIABLES.branch [
      | then-v-ge-VARIABLES-via-then-v-ge-VARIABLES k ↦ (λ r. omega (arith, r.0, k.if-v-ge-VARIABLES.true), k.self-is ∙ the_type.to_one _ c.args.self.now refl)
      | then-v-ge-VARIABLES-via-else-v-ge-VARIABLES+then-weak-shape k ↦ (search rules, k.self-is ∙ the_type.to_one _ c.args.self.now refl)
      | then-v-ge-VARIABLES-via-else-v-ge-VARIABLES+else-weak-shape+then-weak-shape-2 k ↦ (search rules, k.self-is ∙ the_type.to_one _ c.args.self.now refl)
      | then-v-ge-VARIABLES-via-else-v-ge-VARIABLES+else-weak-shape+else-weak-shape-2+then-weak-shape-3 k ↦ (search rules, k.self-is ∙ the_type.to_one _ c.args.self.now refl)
    ]
