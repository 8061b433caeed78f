use Rattle.plain_heap.specs.declared.operation.Op.TheVariants as ops
use Rattle.seat_steps.specs.Stepping.{Operates}
use Rattle.managed_heap_c.proofs.Widened.{let-one, operates-by}
use Rattle.managed_heap_c.proofs.Answered.{answered}
use Rattle.managed_heap_c.proofs.calls.copy_by.Goals as goal

pub returns-in-Some : goal.returns-in-Some
returns-in-Some c =
    let a = c.args in
    let x = c.in-Some.stepper in
    record {
      answers =
          answered (λ came. Operates came (ops.Let a.w a.v)) c.status.result a.hand.now.stepper x c.copy.new.self c.copy.result c.in-Some.is c.status.ensures.number
          (operates-by c.copy.result (ops.Let c.byte_of-w.result c.byte_of-v.result) (ops.Let a.w a.v) x c.copy.new.self (let-one x a.w a.v c.byte_of-w.result c.byte_of-v.result c.byte_of-w.ensures.byte c.byte_of-v.ensures.byte) c.copy.ensures.operates);
    }
