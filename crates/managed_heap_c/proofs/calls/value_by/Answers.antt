use Rattle.managed_heap_c.specs.Answering.{ReadsTo}
use Rattle.managed_heap_c.proofs.Answered.{answered}
use Rattle.managed_heap_c.proofs.Widened.{reads-by}
use Rattle.managed_heap_c.proofs.calls.value_by.Goals as goal

pub returns-in-Some-clause-answers : goal.returns-in-Some-clause-answers
returns-in-Some-clause-answers c =
    let a = c.args in
    let x = c.in-Some.stepper in
    answered (ReadsTo a.v a.out.now c.value.new.out) c.status.result a.hand.now.stepper x c.value.new.self c.value.result c.in-Some.is c.status.ensures.number
    (reads-by c.value.result a.v c.byte_of-v.result a.out.now c.value.new.out x c.value.new.self c.byte_of-v.ensures.byte c.value.ensures.reads)
