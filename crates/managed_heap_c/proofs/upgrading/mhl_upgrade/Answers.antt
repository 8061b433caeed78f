use Rattle.std.proofs.lemmas.Bool.{OnFalse_at, OnTrue_at}
use Rattle.seat_steps.specs.Weak.{UpgradesTo}
use Rattle.managed_heap_c.proofs.Used.{once, once-in-use}
use Rattle.managed_heap_c.proofs.upgrading.mhl_upgrade.Goals as goal

pub returns : goal.returns
returns c = record { answers = once (λ came. UpgradesTo came c.args.weak.now c.args.v) c.upgrade_by-answer.result c.upgrade_by-answer.new.hand c.lend_hand-hand.ensures.value (OnTrue_at c.if-not-begins.false c.begins.ensures.begun) c.ends.ensures.ended c.upgrade_by-answer.ensures.answers }

pub returns-then-not-begins : goal.returns-then-not-begins
returns-then-not-begins c = record { answers = once-in-use (λ came. UpgradesTo came c.args.weak.now c.args.v) c.lend_hand-hand.ensures.value (OnFalse_at c.if-not-begins.true c.begins.ensures.in_use) }
