use Rattle.std.proofs.Common.{◌∙◌, arith, refl, rules}
use Rattle.seat_steps.specs.contracts.stepper.Stepper.{the_type}
use Rattle.seat_steps.proofs.Answered.{collects-now}
use Rattle.std.specs.Prelude.{IsTrue}
use Rattle.seat_turns.proofs.Held.{held-same-in, holds-in}
use Rattle.seat_steps.specs.Stepping.{shares}
use Rattle.seat_steps.proofs.stepper.Stepper.spill.Goals.{then-v-ge-VARIABLES-via-then-v-ge-VARIABLES, then-v-ge-VARIABLES-via-else-v-ge-VARIABLES+then-from-shape}
use Rattle.seat_steps.proofs.stepper.Stepper.spill.Goals as goal

pub returns-then-v-ge-VARIABLES : goal.returns-then-v-ge-VARIABLES
returns-then-v-ge-VARIABLES c =
    elim c.then-v-ge-VARIABLES.branch [
      | then-v-ge-VARIABLES-via-then-v-ge-VARIABLES k ↦ record { spills = (λ r. omega (arith, r.0, k.if-v-ge-VARIABLES.true), k.self-is) }
      | then-v-ge-VARIABLES-via-else-v-ge-VARIABLES+then-from-shape k ↦ record { spills = (search rules, k.self-is ∙ the_type.to_one _ c.args.self.now refl) }
    ]

pub returns-in_default : goal.returns-in_default
returns-in_default c = record { spills = (collects-now c.args.self.now.stage c.in_default.not-Outside c.in_default.not-Inside, the_type.to_one _ c.args.self.now refl) }

pub share_spill-requires-clause-seat : goal.share_spill-requires-clause-seat
share_spill-requires-clause-seat c = let s = c.args.self.now in let shared : IsTrue (shares s) = search rules in holds-in _ _ s.seat c.deref-in-Inside.ensures (s.inside c.in-Inside.is) shared

pub invariant_of-self-in-Inside-clause-inside : goal.invariant_of-self-in-Inside-clause-inside
invariant_of-self-in-Inside-clause-inside c = λ _. let s = c.args.self.now in let e = c.share_spill.ensures in held-same-in _ _ s.seat c.share_spill.new.seat c.deref-in-Inside.ensures (s.inside c.in-Inside.is) e.seat e.takes.ran e.takes.state
