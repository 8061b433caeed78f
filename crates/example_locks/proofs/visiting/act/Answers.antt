use Rattle.std.proofs.Common.{◌+◌}
use Rattle.example_locks.proofs.Acted.{whole-visits}
use Rattle.example_locks.proofs.Answered.{if-ok}
use Rattle.example_locks.proofs.visiting.act.Goals as goal

pub returns : goal.returns
returns g c =
    let n = c.args.times + c.args.times in
    let entered = if-ok c.enter.result _ c.if-is_err.ensures.value c.enter.ensures.entered in
    let rooted = if-ok c.root.result _ c.if-is_err-2.ensures.value c.root.ensures.done in
    let some = if-ok c.root.result _ c.if-is_err-2.ensures.value c.root.ensures.some in
    record { visited = whole-visits c.args.m.now c.enter.new.self c.root.new.self c.visit_often.new.m c.leave.new.self _ n entered.1.same rooted.1 some.1 c.in_ok-torn.ensures.visited c.leave.ensures.left.same }
