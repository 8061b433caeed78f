use Rattle.example_orders.proofs.Answered.{if-ok}
use Rattle.example_orders.proofs.Calls.{comes}
use Rattle.example_orders.proofs.reading.come.Goals as goal

pub returns : goal.returns
returns g c =
    let entered = if-ok c.enter.result _ c.if-is_err.ensures.value c.enter.ensures.entered in
    let rooted = if-ok c.root.result _ c.if-is_err-2.ensures.value c.root.ensures.done in
    let some = if-ok c.root.result _ c.if-is_err-2.ensures.value c.root.ensures.some in
    record { came = comes _ c.args.m.now c.enter.new.self c.root.new.self entered.1.same rooted.1 some.1 }
