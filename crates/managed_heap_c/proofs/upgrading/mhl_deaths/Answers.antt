use Rattle.std.proofs.lemmas.Bool.{OnFalse_at, OnTrue_at}
use Rattle.managed_heap_c.specs.Deaths.{DeathsTo}
use Rattle.managed_heap_c.proofs.Used.{once, once-in-use, spared, spared-in-use}
use Rattle.managed_heap_c.proofs.upgrading.mhl_deaths.Goals as goal

pub returns-clause-answers : goal.returns-clause-answers
returns-clause-answers c = once (DeathsTo c.args.v c.args.weaks.now c.args.dead.now c.args.many.now c.deaths_by-answer.new.dead c.deaths_by-answer.new.many) c.deaths_by-answer.result c.deaths_by-answer.new.hand c.lend_hand-hand.ensures.value (OnTrue_at c.if-not-begins.false c.begins.ensures.begun) c.ends.ensures.ended c.deaths_by-answer.ensures.answers

pub returns-clause-quiet : goal.returns-clause-quiet
returns-clause-quiet c = spared c.args.dead.now c.deaths_by-answer.new.dead c.lend_hand-hand.ensures.value (OnTrue_at c.if-not-begins.false c.begins.ensures.begun) c.deaths_by-answer.ensures.quiet

pub returns-clause-spares : goal.returns-clause-spares
returns-clause-spares c = spared c.args.many.now c.deaths_by-answer.new.many c.lend_hand-hand.ensures.value (OnTrue_at c.if-not-begins.false c.begins.ensures.begun) c.deaths_by-answer.ensures.spares

pub returns-then-not-begins-clause-answers : goal.returns-then-not-begins-clause-answers
returns-then-not-begins-clause-answers c = once-in-use (DeathsTo c.args.v c.args.weaks.now c.args.dead.now c.args.many.now c.args.dead.now c.args.many.now) c.lend_hand-hand.ensures.value (OnFalse_at c.if-not-begins.true c.begins.ensures.in_use)

pub returns-then-not-begins-clause-quiet : goal.returns-then-not-begins-clause-quiet
returns-then-not-begins-clause-quiet c = spared-in-use c.args.h.now.hand c.args.dead.now

pub returns-then-not-begins-clause-spares : goal.returns-then-not-begins-clause-spares
returns-then-not-begins-clause-spares c = spared-in-use c.args.h.now.hand c.args.many.now
