use Rattle.plain_heap.specs.declared.operation.Op.TheVariants as ops
use Rattle.seat_steps.specs.Stepping.{Operates}
use Rattle.managed_heap_c.proofs.Widened.{nil-one, operates-by}
use Rattle.managed_heap_c.proofs.Answered.{answered}
use Rattle.managed_heap_c.proofs.calls.forget_by.Goals as goal

pub returns-in-Some : goal.returns-in-Some
returns-in-Some c =
    let a = c.args in
    let x = c.in-Some.stepper in
    record {
      answers =
          answered (λ came. Operates came (ops.Nil a.v)) c.status.result a.hand.now.stepper x c.forget.new.self c.forget.result c.in-Some.is c.status.ensures.number
          (operates-by c.forget.result (ops.Nil c.byte_of-v.result) (ops.Nil a.v) x c.forget.new.self (nil-one x a.v c.byte_of-v.result c.byte_of-v.ensures.byte) c.forget.ensures.operates);
    }
