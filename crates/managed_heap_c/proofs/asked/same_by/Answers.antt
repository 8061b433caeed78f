use Rattle.plain_heap.specs.declared.operation.Op.TheVariants as ops
use Rattle.managed_heap_c.specs.Asking.{AreOne, TestsTo}
use Rattle.managed_heap_c.proofs.Answered.{answered}
use Rattle.managed_heap_c.proofs.Tested.{tested}
use Rattle.managed_heap_c.proofs.Widened.{one-by}
use Rattle.managed_heap_c.proofs.asked.same_by.Goals as goal

pub returns-in-Some-clause-answers : goal.returns-in-Some-clause-answers
returns-in-Some-clause-answers c =
    let a = c.args in
    let x = c.in-Some.stepper in
    let e = c.same.ensures in
    let b = c.byte_of-v.result in
    let d = c.byte_of-w.result in
    let w = c.write_answer in
    answered (TestsTo (AreOne a.v a.w) (ops.Let a.v a.w) a.out.now w.new.out) c.status.result a.hand.now.stepper x x w.result c.in-Some.is c.status.ensures.number
    (one-by w.result a.v a.w b d a.out.now w.new.out x x c.byte_of-v.ensures.byte c.byte_of-w.ensures.byte
    (tested (AreOne b d) (ops.Let b d) a.out.now w.new.out w.result c.same.result x e.one e.two e.may e.refused w.ensures.writes))
