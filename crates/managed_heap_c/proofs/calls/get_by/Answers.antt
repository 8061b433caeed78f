use Rattle.plain_heap.specs.declared.operation.Op.TheVariants as ops
use Rattle.seat_steps.specs.Stepping.{Operates}
use Rattle.managed_heap_c.proofs.Widened.{get-one, operates-by}
use Rattle.managed_heap_c.proofs.Answered.{answered}
use Rattle.managed_heap_c.proofs.calls.get_by.Goals as goal

pub returns-in-Some : goal.returns-in-Some
returns-in-Some c =
    let a = c.args in
    let x = c.in-Some.stepper in
    record {
      answers =
          answered (λ came. Operates came (ops.Get a.w a.v a.i)) c.status.result a.hand.now.stepper x c.get.new.self c.get.result c.in-Some.is c.status.ensures.number
          (operates-by c.get.result (ops.Get c.byte_of-w.result c.byte_of-v.result c.byte_of-i.result) (ops.Get a.w a.v a.i) x c.get.new.self (get-one x a.w a.v a.i c.byte_of-w.result c.byte_of-v.result c.byte_of-i.result c.byte_of-w.ensures.byte c.byte_of-v.ensures.byte c.byte_of-i.ensures.byte) c.get.ensures.operates);
    }
