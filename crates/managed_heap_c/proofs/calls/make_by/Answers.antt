use Rattle.plain_heap.specs.declared.operation.Op.TheVariants as ops
use Rattle.seat_steps.specs.Stepping.{StepperMakes}
use Rattle.managed_heap_c.proofs.Widened.{makes-by, new-one}
use Rattle.managed_heap_c.proofs.Answered.{answered}
use Rattle.managed_heap_c.proofs.calls.make_by.Goals as goal

pub returns-in-Some : goal.returns-in-Some
returns-in-Some c =
    let a = c.args in
    let x = c.in-Some.stepper in
    record {
      answers =
          answered (λ came. StepperMakes came (ops.New a.v a.value)) c.status.result a.hand.now.stepper x c.make.new.self c.make.result c.in-Some.is c.status.ensures.number
          (makes-by c.make.result (ops.New c.byte_of-v.result a.value) (ops.New a.v a.value) x c.make.new.self (new-one x a.v c.byte_of-v.result a.value c.byte_of-v.ensures.byte) c.make.ensures.makes);
    }
