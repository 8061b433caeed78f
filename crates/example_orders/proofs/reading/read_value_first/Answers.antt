use Rattle.example_orders.proofs.Acting.{reads-value-first}
use Rattle.example_orders.proofs.Calls.{same-spares}
use Rattle.example_orders.proofs.reading.read_value_first.Goals as goal

pub returns : goal.returns
returns g c =
    let x = c.args.m.now in
    let y = c.come.new.m in
    let z = c.value.new.self in
    let w = c.look.new.m in
    let u = c.leave.new.self in
    record { read = reads-value-first _ c.in-Ok.value c.in-Ok-look.stored x y z w u c.if-not-come.ensures.came c.in-Ok.ensures.value c.in-Ok-look.ensures.looked (same-spares w u c.leave.ensures.left.same) }
