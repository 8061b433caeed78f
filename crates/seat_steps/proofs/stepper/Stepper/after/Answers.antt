use Rattle.seat_steps.proofs.Known.{turn-known}
use Rattle.seat_steps.proofs.stepper.Stepper.after.Goals as goal

pub invariant_of-self-in-Inside-clause-inside : goal.invariant_of-self-in-Inside-clause-inside
invariant_of-self-in-Inside-clause-inside c = λ _. let s = c.args.self.now in let e = c.learn-in-Inside.ensures in turn-known _ _ s.seat c.learn-in-Inside.new.seat c.deref-in-Inside-2.ensures e.seat e.sees.view (s.inside c.in-Inside.is)
