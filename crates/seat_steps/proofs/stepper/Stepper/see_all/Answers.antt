use Rattle.seat_steps.proofs.Known.{turn-known}
use Rattle.seat_steps.proofs.stepper.Stepper.see_all.Goals as goal

pub invariant_of-self-in-Inside-clause-inside : goal.invariant_of-self-in-Inside-clause-inside
invariant_of-self-in-Inside-clause-inside c = λ _. let s = c.args.self.now in let e = c.see_all-in-Inside.ensures in turn-known _ _ s.seat c.see_all-in-Inside.new.seat c.deref-in-Inside.ensures e.seat e.sees.view (s.inside c.in-Inside.is)
