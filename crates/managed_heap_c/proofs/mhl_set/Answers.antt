use Rattle.std.proofs.lemmas.Bool.{OnFalse_at, OnTrue_at}
use Rattle.plain_heap.specs.declared.operation.Op.TheVariants as ops
use Rattle.managed_heap_c.specs.Storing.{Stores}
use Rattle.managed_heap_c.proofs.Used.{once, once-in-use}
use Rattle.managed_heap_c.proofs.mhl_set.Goals as goal

pub returns : goal.returns
returns c = record { answers = once (Stores c.args.v (ops.Set c.args.v c.args.i c.args.w)) c.set_by-answer.result c.set_by-answer.new.hand c.lend_hand-hand.ensures.value (OnTrue_at c.if-not-begins.false c.begins.ensures.begun) c.ends.ensures.ended c.set_by-answer.ensures.answers }

pub returns-then-not-begins : goal.returns-then-not-begins
returns-then-not-begins c = record { answers = once-in-use (Stores c.args.v (ops.Set c.args.v c.args.i c.args.w)) c.lend_hand-hand.ensures.value (OnFalse_at c.if-not-begins.true c.begins.ensures.in_use) }
