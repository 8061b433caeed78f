use Rattle.std.proofs.lemmas.Bool.{OnFalse_at, OnTrue_at}
use Rattle.managed_heap_c.specs.Making.{MakesWith}
use Rattle.managed_heap_c.proofs.Used.{once, once-in-use}
use Rattle.managed_heap_c.proofs.mhl_make_with.Goals as goal

pub returns : goal.returns
returns c = record { answers = once (MakesWith c.args.v c.args.value c.args.fields.now) c.make_with_by-answer.result c.make_with_by-answer.new.hand c.lend_hand-hand.ensures.value (OnTrue_at c.if-not-begins.false c.begins.ensures.begun) c.ends.ensures.ended c.make_with_by-answer.ensures.answers }

pub returns-then-not-begins : goal.returns-then-not-begins
returns-then-not-begins c = record { answers = once-in-use (MakesWith c.args.v c.args.value c.args.fields.now) c.lend_hand-hand.ensures.value (OnFalse_at c.if-not-begins.true c.begins.ensures.in_use) }
