use Rattle.std.proofs.lemmas.Bool.{OnFalse_at, OnTrue_at}
use Rattle.managed_heap_c.specs.Stamping.{CatchesUp}
use Rattle.managed_heap_c.proofs.Used.{once, once-in-use}
use Rattle.managed_heap_c.proofs.stamping.mhl_after.Goals as goal

pub returns : goal.returns
returns c = record { answers = once (CatchesUp c.args.stamp.now.world) c.after_by-answer.result c.after_by-answer.new.hand c.lend_hand-hand.ensures.value (OnTrue_at c.if-not-begins.false c.begins.ensures.begun) c.ends.ensures.ended c.after_by-answer.ensures.answers }

pub returns-then-not-begins : goal.returns-then-not-begins
returns-then-not-begins c = record { answers = once-in-use (CatchesUp c.args.stamp.now.world) c.lend_hand-hand.ensures.value (OnFalse_at c.if-not-begins.true c.begins.ensures.in_use) }
