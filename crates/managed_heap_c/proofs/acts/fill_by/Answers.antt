use Rattle.managed_heap_c.specs.Acting.{Fills}
use Rattle.managed_heap_c.proofs.Answered.{answered}
use Rattle.managed_heap_c.proofs.Numbered.{fill-by}
use Rattle.managed_heap_c.proofs.acts.fill_by.Goals as goal

pub returns-in-Some : goal.returns-in-Some
returns-in-Some c =
    let a = c.args in
    let x = c.in-Some.stepper in
    let b = c.byte_beside-v in
    let h = c.half_of-k in
    record {
      answers =
          answered (Fills a.v a.k) c.status.result a.hand.now.stepper x c.fill.new.self c.fill.result c.in-Some.is c.status.ensures.number
          (fill-by c.fill.result a.v a.k b.result h.result x c.fill.new.self (record { byte = b.ensures.byte; none = b.ensures.none; half = h.ensures.half }) c.fill.ensures.fills);
    }
