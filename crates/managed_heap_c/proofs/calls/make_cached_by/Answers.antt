use Rattle.plain_heap.specs.declared.operation.Op.TheVariants as ops
use Rattle.seat_steps.specs.Refilling.{MakesCached}
use Rattle.managed_heap_c.proofs.Widened.{caches-by, new-one}
use Rattle.managed_heap_c.proofs.Answered.{answered}
use Rattle.managed_heap_c.proofs.calls.make_cached_by.Goals as goal

pub returns-in-Some : goal.returns-in-Some
returns-in-Some c =
    let a = c.args in
    let x = c.in-Some.stepper in
    record {
      answers =
          answered (λ came. MakesCached came (ops.New a.v a.value)) c.status.result a.hand.now.stepper x c.make_cached.new.self c.make_cached.result c.in-Some.is c.status.ensures.number
          (caches-by c.make_cached.result (ops.New c.byte_of-v.result a.value) (ops.New a.v a.value) x c.make_cached.new.self (new-one x a.v c.byte_of-v.result a.value c.byte_of-v.ensures.byte) c.make_cached.ensures.makes);
    }
