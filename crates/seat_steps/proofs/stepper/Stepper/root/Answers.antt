use Rattle.std.proofs.Common.{◌<◌, rules}
use Rattle.mark_core.specs.Numbers.{section_variables}
use Rattle.std.specs.Prelude.{IsTrue}
use Rattle.std.specs.Arc.{arc_value}
use Rattle.seat_turns.proofs.Held.{held-in, holds-in, holds-other}
use Rattle.seat_steps.specs.Stepping.{shares}
use Rattle.seat_steps.proofs.stepper.Stepper.root.Goals as goal

pub share_lend-requires-clause-seat : goal.share_lend-requires-clause-seat
share_lend-requires-clause-seat c = let s = c.args.self.now in let shared : IsTrue (shares s) = search rules in holds-in _ _ s.seat c.deref.ensures (s.inside c.in-Inside.is) shared

pub share_lend-requires-clause-other : goal.share_lend-requires-clause-other
share_lend-requires-clause-other c = let s = c.args.self.now in holds-other (arc_value s.heap) s.seat (s.inside c.in-Inside.is)

pub invariant_of-self-clause-inside : goal.invariant_of-self-clause-inside
invariant_of-self-clause-inside c = λ _. let s = c.args.self.now in let e = c.share_lend.ensures in let low : c.args.w < section_variables = search rules in held-in _ _ s.seat c.share_lend.new.seat c.args.w _ c.deref.ensures (s.inside c.in-Inside.is) e.seat e.lends.ran low e.lends.state
