use Rattle.std.proofs.Common.{arith}
use Rattle.plain_heap.specs.declared.operation.Op.TheVariants as ops
use Rattle.managed_heap_c.specs.Storing.{Stores}
use Rattle.managed_heap_c.proofs.Widened.{set-one, stores-by}
use Rattle.managed_heap_c.proofs.Answered.{answered}
use Rattle.managed_heap_c.proofs.calls.set_by.Goals as goal

pub returns-in-Some : goal.returns-in-Some
returns-in-Some c =
    let a = c.args in
    let x = c.in-Some.stepper in
    record {
      answers =
          answered (Stores a.v (ops.Set a.v a.i a.w)) c.status.result a.hand.now.stepper x c.set_in.new.stepper c.set_in.result c.in-Some.is c.status.ensures.number
          (stores-by c.set_in.result a.v c.byte_of-v.result (ops.Set c.byte_of-v.result c.byte_of-i.result c.byte_of-w.result) (ops.Set a.v a.i a.w) x c.set_in.new.stepper (set-one x a.v a.i a.w c.byte_of-v.result c.byte_of-i.result c.byte_of-w.result c.byte_of-v.ensures.byte c.byte_of-i.ensures.byte c.byte_of-w.ensures.byte) (λ r. c.byte_of-v.ensures.byte.1 (omega (arith, r.0))) c.set_in.ensures.stores);
    }
