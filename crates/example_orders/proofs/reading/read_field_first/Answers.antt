use Rattle.example_orders.proofs.Acting.{reads-field-first}
use Rattle.example_orders.proofs.Calls.{same-spares}
use Rattle.example_orders.proofs.reading.read_field_first.Goals as goal

pub returns : goal.returns
returns g c =
    let x = c.args.m.now in
    let y = c.come.new.m in
    let z = c.look.new.m in
    let w = c.value.new.self in
    let u = c.leave.new.self in
    record { read = reads-field-first _ c.in-Ok-value.value c.in-Ok.stored x y z w u c.if-not-come.ensures.came c.in-Ok.ensures.looked c.in-Ok-value.ensures.value (same-spares w u c.leave.ensures.left.same) }
