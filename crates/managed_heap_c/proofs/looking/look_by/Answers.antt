use Rattle.managed_heap_c.specs.Looking.{LooksTo}
use Rattle.managed_heap_c.proofs.Answered.{answered}
use Rattle.managed_heap_c.proofs.Looked.{looks-by}
use Rattle.managed_heap_c.proofs.looking.look_by.Goals as goal

pub returns-in-Some-clause-answers : goal.returns-in-Some-clause-answers
returns-in-Some-clause-answers c =
    let a = c.args in
    let x = c.in-Some.stepper in
    let l = c.look_in in
    answered (LooksTo a.v a.out.now l.new.out) c.status.result a.hand.now.stepper x l.new.stepper l.result c.in-Some.is c.status.ensures.number
    (looks-by l.result a.v c.byte_of-v.result a.out.now l.new.out x l.new.stepper c.byte_of-v.ensures.byte l.ensures.looks)
