use Rattle.managed_heap_c.specs.Stamping.{CatchesUp}
use Rattle.managed_heap_c.proofs.Answered.{answered}
use Rattle.managed_heap_c.proofs.stamps.after_by.Goals as goal

pub returns-in-Some : goal.returns-in-Some
returns-in-Some c =
    let a = c.args in
    let u = c.catch_up in
    record { answers = answered (CatchesUp a.stamp.now.world) c.status.result a.hand.now.stepper c.in-Some.stepper u.new.stepper u.result c.in-Some.is c.status.ensures.number u.ensures.catches }
