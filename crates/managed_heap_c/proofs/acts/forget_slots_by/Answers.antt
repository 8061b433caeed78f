use Rattle.managed_heap_c.specs.Acting.{ForgetsSlots}
use Rattle.managed_heap_c.proofs.Answered.{answered}
use Rattle.managed_heap_c.proofs.acts.forget_slots_by.Goals as goal

pub returns-in-Some : goal.returns-in-Some
returns-in-Some c =
    let a = c.args in
    let f = c.forget_slots in
    record { answers = answered (ForgetsSlots a.from a.to) c.status.result a.hand.now.stepper c.in-Some.stepper f.new.self f.result c.in-Some.is c.status.ensures.number f.ensures.forgets }
