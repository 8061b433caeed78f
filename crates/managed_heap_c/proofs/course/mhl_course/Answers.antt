use Rattle.std.proofs.Common.{refl}
use Rattle.std.proofs.lemmas.Bool.{OnFalse_at, OnTrue_at}
use Rattle.managed_heap_c.specs.Telling.{TellsCourse}
use Rattle.managed_heap_c.proofs.Told.{spared}
use Rattle.managed_heap_c.proofs.Used.{once, once-in-use}
use Rattle.managed_heap_c.proofs.course.mhl_course.Goals as goal

pub returns-clause-answers : goal.returns-clause-answers
returns-clause-answers c = once (TellsCourse c.course_by-answer.new.out) c.course_by-answer.result c.course_by-answer.new.hand c.lend_hand-hand.ensures.value (OnTrue_at c.if-not-begins.false c.begins.ensures.begun) c.ends.ensures.ended c.course_by-answer.ensures.answers

pub returns-clause-quiet : goal.returns-clause-quiet
returns-clause-quiet c = spared c.args.out.now c.course_by-answer.new.out c.lend_hand-hand.ensures.value (OnTrue_at c.if-not-begins.false c.begins.ensures.begun) c.course_by-answer.ensures.quiet

pub returns-then-not-begins-clause-answers : goal.returns-then-not-begins-clause-answers
returns-then-not-begins-clause-answers c = once-in-use (TellsCourse c.args.out.now) c.lend_hand-hand.ensures.value (OnFalse_at c.if-not-begins.true c.begins.ensures.in_use)

pub returns-then-not-begins-clause-quiet : goal.returns-then-not-begins-clause-quiet
returns-then-not-begins-clause-quiet c = (λ _. refl, λ _. refl)
