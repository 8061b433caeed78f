use Rattle.std.proofs.Common.{◌∙◌, arith, refl, rules}
use Rattle.seat_steps.specs.contracts.stepper.Stepper.{the_type}
use Rattle.seat_steps.proofs.Answered.{collects-now}
use Rattle.seat_steps.proofs.stepper.Stepper.set.Goals.{then-v-ge-VARIABLES-via-then-v-ge-VARIABLES, then-v-ge-VARIABLES-via-else-v-ge-VARIABLES+then-w-ge-VARIABLES, then-v-ge-VARIABLES-via-else-v-ge-VARIABLES+else-w-ge-VARIABLES+then-from-shape}
use Rattle.seat_steps.proofs.stepper.Stepper.set.Goals as goal

pub returns-then-v-ge-VARIABLES : goal.returns-then-v-ge-VARIABLES
returns-then-v-ge-VARIABLES c =
    elim c.then-v-ge-VARIABLES.branch [
      | then-v-ge-VARIABLES-via-then-v-ge-VARIABLES k ↦ record { operates = (λ r. omega (arith, r.0, k.if-v-ge-VARIABLES.true), k.self-is) }
      | then-v-ge-VARIABLES-via-else-v-ge-VARIABLES+then-w-ge-VARIABLES k ↦ record { operates = (λ r. omega (arith, r.2, k.if-w-ge-VARIABLES.true), k.self-is) }
      | then-v-ge-VARIABLES-via-else-v-ge-VARIABLES+else-w-ge-VARIABLES+then-from-shape k ↦ record { operates = (search rules, k.self-is ∙ the_type.to_one _ c.args.self.now refl) }
    ]

pub returns-in_default : goal.returns-in_default
returns-in_default c = record { operates = (collects-now c.args.self.now.stage c.in_default.not-Outside c.in_default.not-Inside, the_type.to_one _ c.args.self.now refl) }
