use Rattle.std.proofs.lemmas.Bool.{OnFalse_at, OnTrue_at}
use Rattle.seat_steps.specs.Helping.{HelpsOnce}
use Rattle.managed_heap_c.proofs.Used.{once, once-in-use}
use Rattle.managed_heap_c.proofs.collecting.mhl_help_step.Goals as goal

pub returns : goal.returns
returns c = record { answers = once (HelpsOnce c.args.most) c.help_by-answer.result c.help_by-answer.new.hand c.lend_hand-hand.ensures.value (OnTrue_at c.if-not-begins.false c.begins.ensures.begun) c.ends.ensures.ended c.help_by-answer.ensures.answers }

pub returns-then-not-begins : goal.returns-then-not-begins
returns-then-not-begins c = record { answers = once-in-use (HelpsOnce c.args.most) c.lend_hand-hand.ensures.value (OnFalse_at c.if-not-begins.true c.begins.ensures.in_use) }
