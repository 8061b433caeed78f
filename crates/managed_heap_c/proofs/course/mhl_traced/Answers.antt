use Rattle.std.proofs.lemmas.Bool.{OnFalse_at, OnTrue_at}
use Rattle.managed_heap_c.proofs.Told.{told-in-use, told-traced}
use Rattle.managed_heap_c.proofs.course.mhl_traced.Goals as goal

pub returns : goal.returns
returns c = record { tells = told-traced c.traced_by-answer.result c.traced_by-answer.new.hand c.args.out.now c.traced_by-answer.new.out c.lend_tracer-hand.ensures.value (OnTrue_at c.if-not-begins_turn.false c.begins_turn.ensures.begun) c.ends_turn.ensures.ended c.traced_by-answer.ensures.tells }

pub returns-then-not-begins_turn : goal.returns-then-not-begins_turn
returns-then-not-begins_turn c = record { tells = told-in-use c.args.out.now c.lend_tracer-hand.ensures.value (OnFalse_at c.if-not-begins_turn.true c.begins_turn.ensures.in_use) }
