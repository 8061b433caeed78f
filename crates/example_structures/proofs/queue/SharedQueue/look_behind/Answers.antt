use Rattle.example_structures.proofs.FitLooks.{above}
use Rattle.example_structures.proofs.FitQueue.{may-follow-next}
use Rattle.example_structures.proofs.Carried.{carried-none}
use Rattle.example_structures.proofs.queue.SharedQueue.look_behind.Goals as goal

pub returns-clause-fits : goal.returns-clause-fits
returns-clause-fits c = λ b p k. (c.follow.ensures.fits b p (may-follow-next c.args.self.queue b c.args.m.now k (above _ (c.is_nil-2.ensures.some c.if-is_nil-2.false)))).0

pub returns-clause-numbers : goal.returns-clause-numbers
returns-clause-numbers c = λ b p. (c.follow.ensures.numbers b p).0

pub returns-then-is_nil-clause-numbers : goal.returns-then-is_nil-clause-numbers
returns-then-is_nil-clause-numbers c = λ b p. carried-none c.args.self.queue b c.args.m.now

pub returns-then-is_nil-2-clause-numbers : goal.returns-then-is_nil-2-clause-numbers
returns-then-is_nil-2-clause-numbers c = λ b p. carried-none c.args.self.queue b c.args.m.now
