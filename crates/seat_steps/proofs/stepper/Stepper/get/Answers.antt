use Rattle.std.proofs.Common.{◌∙◌, arith, refl, rules}
use Rattle.seat_steps.specs.contracts.stepper.Stepper.{the_type}
use Rattle.seat_steps.proofs.Answered.{collects-now}
use Rattle.seat_steps.proofs.stepper.Stepper.get.Goals.{then-w-ge-VARIABLES-via-then-w-ge-VARIABLES, then-w-ge-VARIABLES-via-else-w-ge-VARIABLES+then-v-ge-VARIABLES, then-w-ge-VARIABLES-via-else-w-ge-VARIABLES+else-v-ge-VARIABLES+then-from-shape}
use Rattle.seat_steps.proofs.stepper.Stepper.get.Goals as goal

pub returns-then-w-ge-VARIABLES : goal.returns-then-w-ge-VARIABLES
returns-then-w-ge-VARIABLES c =
    elim c.then-w-ge-VARIABLES.branch [
      | then-w-ge-VARIABLES-via-then-w-ge-VARIABLES k ↦ record { operates = (λ r. omega (arith, r.1, k.if-w-ge-VARIABLES.true), k.self-is) }
      | then-w-ge-VARIABLES-via-else-w-ge-VARIABLES+then-v-ge-VARIABLES k ↦ record { operates = (λ r. omega (arith, r.0, k.if-v-ge-VARIABLES.true), k.self-is) }
      | then-w-ge-VARIABLES-via-else-w-ge-VARIABLES+else-v-ge-VARIABLES+then-from-shape k ↦ record { operates = (search rules, k.self-is ∙ the_type.to_one _ c.args.self.now refl) }
    ]

pub returns-in_default : goal.returns-in_default
returns-in_default c = record { operates = (collects-now c.args.self.now.stage c.in_default.not-Outside c.in_default.not-Inside, the_type.to_one _ c.args.self.now refl) }
