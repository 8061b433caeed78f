use Rattle.std.proofs.lemmas.Bool.{OnFalse_at, OnTrue_at}
use Rattle.managed_heap_c.specs.Stamping.{StampsTo}
use Rattle.managed_heap_c.proofs.Used.{once, once-in-use, spared, spared-in-use}
use Rattle.managed_heap_c.proofs.stamping.mhl_stamp_of.Goals as goal

pub returns-clause-answers : goal.returns-clause-answers
returns-clause-answers c = once (StampsTo c.stamp_of_by-answer.new.out) c.stamp_of_by-answer.result c.stamp_of_by-answer.new.hand c.lend_hand-hand.ensures.value (OnTrue_at c.if-not-begins.false c.begins.ensures.begun) c.ends.ensures.ended c.stamp_of_by-answer.ensures.answers

pub returns-clause-quiet : goal.returns-clause-quiet
returns-clause-quiet c = spared c.args.out.now c.stamp_of_by-answer.new.out c.lend_hand-hand.ensures.value (OnTrue_at c.if-not-begins.false c.begins.ensures.begun) c.stamp_of_by-answer.ensures.quiet

pub returns-then-not-begins-clause-answers : goal.returns-then-not-begins-clause-answers
returns-then-not-begins-clause-answers c = once-in-use (StampsTo c.args.out.now) c.lend_hand-hand.ensures.value (OnFalse_at c.if-not-begins.true c.begins.ensures.in_use)

pub returns-then-not-begins-clause-quiet : goal.returns-then-not-begins-clause-quiet
returns-then-not-begins-clause-quiet c = spared-in-use c.args.h.now.hand c.args.out.now
