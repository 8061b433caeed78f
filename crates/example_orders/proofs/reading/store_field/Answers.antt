use Rattle.std.proofs.Common.{◌∙◌}
use Rattle.example_orders.proofs.Acting.{stores-field}
use Rattle.example_orders.proofs.Answered.{if-ok}
use Rattle.example_orders.proofs.Calls.{make-adds, same-spares, set-adds}
use Rattle.example_orders.proofs.reading.store_field.Goals as goal

pub returns : goal.returns
returns g c =
    let y = c.come.new.m in
    let z = c.make.new.self in
    let w = c.set.new.self in
    let u = c.leave.new.self in
    let came = c.if-not-come.ensures.came in
    let made = if-ok c.make.result _ c.if-is_err.ensures.value c.make.ensures.made in
    let place = if-ok c.make.result _ c.if-is_err.ensures.value c.make.ensures.place in
    let m = make-adds _ y z place.0 made.1 place.1 in
    let stored = if-ok c.set.result _ c.if-is_err-2.ensures.value c.set.ensures.done in
    record { stored = stores-field place.0 c.args.m.now y z w u came m.0 (set-adds _ z w came.cell stored.1 (m.1 ∙ came.word)) (same-spares w u c.leave.ensures.left.same) }
