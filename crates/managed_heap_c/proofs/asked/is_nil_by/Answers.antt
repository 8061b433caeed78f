use Rattle.plain_heap.specs.declared.operation.Op.TheVariants as ops
use Rattle.managed_heap_c.specs.Asking.{IsNil, TestsTo}
use Rattle.managed_heap_c.proofs.Answered.{answered}
use Rattle.managed_heap_c.proofs.Tested.{tested}
use Rattle.managed_heap_c.proofs.Widened.{nil-by}
use Rattle.managed_heap_c.proofs.asked.is_nil_by.Goals as goal

pub returns-in-Some-clause-answers : goal.returns-in-Some-clause-answers
returns-in-Some-clause-answers c =
    let a = c.args in
    let x = c.in-Some.stepper in
    let e = c.is_nil.ensures in
    let b = c.byte_of-v.result in
    let w = c.write_answer in
    answered (TestsTo (IsNil a.v) (ops.Say a.v) a.out.now w.new.out) c.status.result a.hand.now.stepper x x w.result c.in-Some.is c.status.ensures.number
    (nil-by w.result a.v b a.out.now w.new.out x x c.byte_of-v.ensures.byte
    (tested (IsNil b) (ops.Say b) a.out.now w.new.out w.result c.is_nil.result x e.nil e.some e.may e.refused w.ensures.writes))
