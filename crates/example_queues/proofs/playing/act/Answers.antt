use Rattle.example_queues.proofs.Answered.{if-ok}
use Rattle.example_queues.proofs.Worked.{works-around}
use Rattle.example_queues.proofs.playing.act.Goals as goal

pub returns : goal.returns
returns g c =
    let entered = if-ok c.enter.result _ c.if-is_err.ensures.value c.enter.ensures.entered in
    record { works = works-around c.args.numbers.now c.in_ok-taken.taken.items c.args.m.now c.enter.new.self c.turns.new.m c.leave.new.self entered.1.same c.in_ok-taken.ensures.works c.leave.ensures.left.same }
