use Rattle.example_queues.proofs.Answered.{if-ok}
use Rattle.example_queues.proofs.Layings.{lays-root}
use Rattle.example_queues.proofs.laying.lay.Goals as goal

pub returns : goal.returns
returns g c =
    let entered = if-ok c.enter.result _ c.if-is_err.ensures.value c.enter.ensures.entered in
    let rooted = if-ok c.root.result _ c.if-is_err-2.ensures.value c.root.ensures.done in
    let some = if-ok c.root.result _ c.if-is_err-2.ensures.value c.root.ensures.some in
    let made = if-ok c.make.result _ c.if-is_err-3.ensures.value c.make.ensures.made in
    let first = if-ok c.set.result _ c.if-is_err-4.ensures.value c.set.ensures.done in
    let last = if-ok c.set-else-is_err-4.result _ c.if-is_err-5.ensures.value c.set-else-is_err-4.ensures.done in
    record { laid = lays-root _ _ _ c.args.m.now c.enter.new.self c.root.new.self c.make.new.self c.set.new.self c.set-else-is_err-4.new.self c.leave.new.self entered.1.same rooted.1 some.1 made.1 first.1 last.1 c.leave.ensures.left }
