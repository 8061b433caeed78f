use Rattle.managed_heap_c.specs.Looking.{TakesFields}
use Rattle.managed_heap_c.proofs.Answered.{answered}
use Rattle.managed_heap_c.proofs.unpacking.fields_by.Goals as goal

pub returns-in-Some : goal.returns-in-Some
returns-in-Some c =
    let a = c.args in
    let f = c.fields_in in
    record { answers = answered (TakesFields a.v a.first a.count) c.status.result a.hand.now.stepper c.in-Some.stepper f.new.stepper f.result c.in-Some.is c.status.ensures.number f.ensures.takes }
