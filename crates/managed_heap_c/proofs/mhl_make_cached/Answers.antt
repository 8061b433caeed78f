use Rattle.std.proofs.lemmas.Bool.{OnFalse_at, OnTrue_at}
use Rattle.plain_heap.specs.declared.operation.Op.TheVariants as ops
use Rattle.seat_steps.specs.Refilling.{MakesCached}
use Rattle.managed_heap_c.proofs.Used.{once, once-in-use}
use Rattle.managed_heap_c.proofs.mhl_make_cached.Goals as goal

pub returns : goal.returns
returns c =
    record { answers = once (λ came. MakesCached came (ops.New c.args.v c.args.value)) c.make_cached_by-answer.result c.make_cached_by-answer.new.hand c.lend_hand-hand.ensures.value (OnTrue_at c.if-not-begins.false c.begins.ensures.begun) c.ends.ensures.ended c.make_cached_by-answer.ensures.answers }

pub returns-then-not-begins : goal.returns-then-not-begins
returns-then-not-begins c = record { answers = once-in-use (λ came. MakesCached came (ops.New c.args.v c.args.value)) c.lend_hand-hand.ensures.value (OnFalse_at c.if-not-begins.true c.begins.ensures.in_use) }
