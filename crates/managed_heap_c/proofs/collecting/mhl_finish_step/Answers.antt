use Rattle.std.proofs.lemmas.Bool.{OnFalse_at, OnTrue_at}
use Rattle.std.proofs.Common.{false}
use Rattle.seat_steps.specs.Bounds.{CollectsAtMost}
use Rattle.managed_heap_c.proofs.Used.{once, once-in-use}
use Rattle.managed_heap_c.proofs.collecting.mhl_finish_step.Goals as goal

pub returns : goal.returns
returns c = record { answers = once (CollectsAtMost false c.args.most) c.finish_by-answer.result c.finish_by-answer.new.hand c.lend_hand-hand.ensures.value (OnTrue_at c.if-not-begins.false c.begins.ensures.begun) c.ends.ensures.ended c.finish_by-answer.ensures.answers }

pub returns-then-not-begins : goal.returns-then-not-begins
returns-then-not-begins c = record { answers = once-in-use (CollectsAtMost false c.args.most) c.lend_hand-hand.ensures.value (OnFalse_at c.if-not-begins.true c.begins.ensures.in_use) }
