use Rattle.std.proofs.Common.{arith}
use Rattle.plain_heap.specs.declared.operation.Op.TheVariants as ops
use Rattle.managed_heap_c.specs.Storing.{Stores}
use Rattle.managed_heap_c.proofs.Widened.{put-one, stores-by}
use Rattle.managed_heap_c.proofs.Answered.{answered}
use Rattle.managed_heap_c.proofs.calls.put_by.Goals as goal

pub returns-in-Some : goal.returns-in-Some
returns-in-Some c =
    let a = c.args in
    let x = c.in-Some.stepper in
    record {
      answers =
          answered (Stores a.v (ops.Put a.v a.value)) c.status.result a.hand.now.stepper x c.put_in.new.stepper c.put_in.result c.in-Some.is c.status.ensures.number
          (stores-by c.put_in.result a.v c.byte_of-v.result (ops.Put c.byte_of-v.result a.value) (ops.Put a.v a.value) x c.put_in.new.stepper (put-one x a.v c.byte_of-v.result a.value c.byte_of-v.ensures.byte) (λ r. c.byte_of-v.ensures.byte.1 (omega (arith, r.0))) c.put_in.ensures.stores);
    }
