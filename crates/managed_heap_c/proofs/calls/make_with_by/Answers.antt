use Rattle.managed_heap_c.specs.Making.{MakesWith}
use Rattle.managed_heap_c.proofs.Answered.{answered}
use Rattle.managed_heap_c.proofs.calls.make_with_by.Goals as goal

pub returns-in-Some : goal.returns-in-Some
returns-in-Some c =
    let a = c.args in
    let m = c.make_with_in in
    record { answers = answered (MakesWith a.v a.value a.fields.now) c.status.result a.hand.now.stepper c.in-Some.stepper m.new.stepper m.result c.in-Some.is c.status.ensures.number m.ensures.makes }
