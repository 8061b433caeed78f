use Rattle.std.proofs.Common.{ap, rules}
use Rattle.std.specs.Prelude.{IsTrue}
use Rattle.gc_table.specs.declared.view.View.{View}
use Rattle.seat_turns.proofs.Held.{held-same-in, holds-in}
use Rattle.seat_steps.specs.Stepping.{shares}
use Rattle.seat_steps.proofs.stepper.Stepper.exchange_value.Goals as goal

pub share_count-requires-clause-seat : goal.share_count-requires-clause-seat
share_count-requires-clause-seat c = let s = c.args.self.now in let shared : IsTrue (shares s) = search rules in holds-in _ _ s.seat c.deref.ensures (s.inside c.in-Inside.is) shared

pub invariant_of-self-in-Inside-clause-inside : goal.invariant_of-self-in-Inside-clause-inside
invariant_of-self-in-Inside-clause-inside c = λ _. let s = c.args.self.now in let e = c.share_count.ensures in held-same-in _ _ s.seat c.share_count.new.seat c.deref.ensures (s.inside c.in-Inside.is) e.seat e.ran (ap (λ (z : View). z.state) e.view.1)
