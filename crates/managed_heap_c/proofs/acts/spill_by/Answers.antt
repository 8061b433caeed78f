use Rattle.managed_heap_c.specs.Acting.{Spills}
use Rattle.managed_heap_c.proofs.Answered.{answered}
use Rattle.managed_heap_c.proofs.Numbered.{spill-by}
use Rattle.managed_heap_c.proofs.acts.spill_by.Goals as goal

pub returns-in-Some : goal.returns-in-Some
returns-in-Some c =
    let a = c.args in
    let x = c.in-Some.stepper in
    let b = c.byte_beside-v in
    let h = c.half_of-k in
    record {
      answers =
          answered (Spills a.v a.k) c.status.result a.hand.now.stepper x c.spill.new.self c.spill.result c.in-Some.is c.status.ensures.number
          (spill-by c.spill.result a.v a.k b.result h.result x c.spill.new.self (record { byte = b.ensures.byte; none = b.ensures.none; half = h.ensures.half }) c.spill.ensures.spills);
    }
