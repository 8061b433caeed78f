use Rattle.example_queues.proofs.Answered.{if-ok}
use Rattle.example_queues.proofs.Comings.{lets-go}
use Rattle.example_queues.proofs.laying.let_go.Goals as goal

pub returns : goal.returns
returns g c =
    let entered = if-ok c.enter.result _ c.if-is_err.ensures.value c.enter.ensures.entered in
    let done = if-ok c.forget.result _ c.if-is_err-2.ensures.value c.forget.ensures.done in
    record { gone = lets-go _ c.args.m.now c.enter.new.self c.forget.new.self c.leave.new.self 20 0 entered.1.same done.1 c.leave.ensures.left }
