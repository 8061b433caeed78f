use Rattle.std.proofs.Common.{◌∙◌, arith, refl, rules}
use Rattle.gc_table.specs.Seats.{view_of}
use Rattle.seat_steps.specs.contracts.stepper.Stepper.{the_type}
use Rattle.seat_steps.proofs.Answered.{collects-now, cycle-kept}
use Rattle.seat_turns.proofs.Done.{exchanges-field}
use Rattle.seat_steps.proofs.Few.{exchanged-few}
use Rattle.std.specs.Prelude.{IsTrue}
use Rattle.seat_turns.proofs.Held.{held-same-in, holds-in}
use Rattle.seat_steps.specs.Stepping.{shares}
use Rattle.seat_steps.proofs.stepper.Stepper.exchange.Goals.{then-v-ge-VARIABLES-via-then-v-ge-VARIABLES, then-v-ge-VARIABLES-via-else-v-ge-VARIABLES+then-from-fields, then-v-ge-VARIABLES-via-else-v-ge-VARIABLES+else-from-fields+then-expected-ge-VARIABLES, then-v-ge-VARIABLES-via-else-v-ge-VARIABLES+else-from-fields+else-expected-ge-VARIABLES+then-new-ge-VARIABLES}
use Rattle.seat_steps.proofs.stepper.Stepper.exchange.Goals as goal

pub returns-then-v-ge-VARIABLES-clause-refused : goal.returns-then-v-ge-VARIABLES-clause-refused
returns-then-v-ge-VARIABLES-clause-refused c =
    elim c.then-v-ge-VARIABLES.branch [
      | then-v-ge-VARIABLES-via-then-v-ge-VARIABLES k ↦ (λ r. omega (arith, r.0, k.if-v-ge-VARIABLES.true), k.self-is ∙ the_type.to_one _ c.args.self.now refl)
      | then-v-ge-VARIABLES-via-else-v-ge-VARIABLES+then-from-fields k ↦ (search rules, k.self-is ∙ the_type.to_one _ c.args.self.now refl)
      | then-v-ge-VARIABLES-via-else-v-ge-VARIABLES+else-from-fields+then-expected-ge-VARIABLES k ↦ (λ r. omega (arith, r.2, k.if-expected-ge-VARIABLES.true), k.self-is ∙ the_type.to_one _ c.args.self.now refl)
      | then-v-ge-VARIABLES-via-else-v-ge-VARIABLES+else-from-fields+else-expected-ge-VARIABLES+then-new-ge-VARIABLES k ↦ (λ r. omega (arith, r.3, k.if-new-ge-VARIABLES.true), k.self-is ∙ the_type.to_one _ c.args.self.now refl)
    ]

pub returns-else-word_of-eq0-clause-done : goal.returns-else-word_of-eq0-clause-done
returns-else-word_of-eq0-clause-done c =
    let e = c.share_exchange.ensures in
    let v = view_of c.args.self.now.seat in
    let w = view_of c.share_exchange.new.seat in
    let acts = exchanges-field c.args.v c.args.i c.args.expected c.args.new c.share_exchange.result v w e.ran e.exchanged e.state in
    record {
      shared = search rules;
      in_range = (omega (arith, c.if-v-ge-VARIABLES.false), search rules, omega (arith, c.if-expected-ge-VARIABLES.false), omega (arith, c.if-new-ge-VARIABLES.false));
      was = c.in-Inside.is;
      inside = c.in-Inside.is;
      acts = acts;
      few = exchanged-few c.args.v c.args.i c.args.expected c.args.new c.share_exchange.result v w acts;
      world = refl;
      name_is = refl;
      stops = refl;
      search = record { paid_is = refl; block = refl; seen = refl };
      cycle = cycle-kept c.args.self.now _ refl;
    }

pub returns-in_default : goal.returns-in_default
returns-in_default c = record { done = tt; refused = (collects-now c.args.self.now.stage c.in_default.not-Outside c.in_default.not-Inside, the_type.to_one _ c.args.self.now refl) }

pub share_exchange-requires-clause-seat : goal.share_exchange-requires-clause-seat
share_exchange-requires-clause-seat c = let s = c.args.self.now in let shared : IsTrue (shares s) = search rules in holds-in _ _ s.seat c.deref-in-Inside.ensures (s.inside c.in-Inside.is) shared

pub invariant_of-self-in-Inside-clause-inside : goal.invariant_of-self-in-Inside-clause-inside
invariant_of-self-in-Inside-clause-inside c = λ _. let s = c.args.self.now in let e = c.share_exchange.ensures in held-same-in _ _ s.seat c.share_exchange.new.seat c.deref-in-Inside.ensures (s.inside c.in-Inside.is) e.seat e.ran e.state
