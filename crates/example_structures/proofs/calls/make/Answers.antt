use Rattle.std.proofs.Common.{arith, sym}
use Rattle.example_structures.proofs.Called.{made-none, made-other, made-told}
use Rattle.example_structures.proofs.Refused.{make-given-up, make-none}
use Rattle.example_structures.proofs.calls.make.Goals as goal

pub returns-in-Ok-clause-none : goal.returns-in-Ok-clause-none
returns-in-Ok-clause-none g c = made-none c.args.m.now c.make.new.self c.args.v c.args.value c.in-Ok.ensures.made.does

pub returns-in-Ok-clause-told : goal.returns-in-Ok-clause-told
returns-in-Ok-clause-told g c = made-told c.args.m.now c.make.new.self 21 c.args.v c.args.value (λ e. c.requires.other (sym e)) c.in-Ok.ensures.made.does

pub returns-in-Ok-clause-some : goal.returns-in-Ok-clause-some
returns-in-Ok-clause-some g c = omega (arith, c.in-Ok.ensures.place)

pub returns-in-Ok-clause-others : goal.returns-in-Ok-clause-others
returns-in-Ok-clause-others g c = λ u ne. made-other c.args.m.now c.make.new.self u c.args.v c.args.value ne c.in-Ok.ensures.made.does

pub returns-in-Err-clause-none : goal.returns-in-Err-clause-none
returns-in-Err-clause-none g c = make-none c.args.m.now c.make.new.self c.in-Err.e _ c.in-Err.ensures.refused

pub returns-in-Err-clause-refused : goal.returns-in-Err-clause-refused
returns-in-Err-clause-refused g c = make-given-up c.args.m.now c.make.new.self c.in-Err.e c.args.v c.args.value c.requires.inside c.requires.range (omega arith) c.in-Err.ensures.refused
