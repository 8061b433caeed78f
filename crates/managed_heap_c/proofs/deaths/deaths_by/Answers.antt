use Rattle.managed_heap_c.specs.Deaths.{DeathsTo}
use Rattle.managed_heap_c.proofs.Answered.{answered}
use Rattle.managed_heap_c.proofs.Died.{deaths-by}
use Rattle.managed_heap_c.proofs.deaths.deaths_by.Goals as goal

pub returns-in-Some-clause-answers : goal.returns-in-Some-clause-answers
returns-in-Some-clause-answers c =
    let a = c.args in
    let x = c.in-Some.stepper in
    let d = c.deaths_in in
    answered (DeathsTo a.v a.weaks.now a.dead.now a.many.now d.new.dead d.new.many) c.status.result a.hand.now.stepper x d.new.stepper d.result c.in-Some.is c.status.ensures.number
    (deaths-by d.result a.v c.byte_of-v.result a.weaks.now a.dead.now a.many.now d.new.dead d.new.many x d.new.stepper c.byte_of-v.ensures.byte d.ensures.deaths)
