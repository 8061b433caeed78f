use Rattle.example_orders.proofs.Acting.{stores-value}
use Rattle.example_orders.proofs.Answered.{if-ok}
use Rattle.example_orders.proofs.Calls.{exchanged, same-spares}
use Rattle.example_orders.proofs.reading.store_value.Goals as goal

pub returns : goal.returns
returns g c =
    let y = c.come.new.m in
    let z = c.exchange_value.new.self in
    let w = c.leave.new.self in
    let done = if-ok c.exchange_value.result _ c.if-is_err.ensures.value c.exchange_value.ensures.done in
    record { stored = stores-value done.1.does.found c.args.m.now y z w c.if-not-come.ensures.came (exchanged _ y z done.0 done.1) (same-spares z w c.leave.ensures.left.same) }
