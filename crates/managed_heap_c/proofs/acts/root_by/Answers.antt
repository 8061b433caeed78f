use Rattle.seat_steps.specs.Acting.{TakesRoot}
use Rattle.managed_heap_c.proofs.Answered.{answered}
use Rattle.managed_heap_c.proofs.Numbered.{root-by}
use Rattle.managed_heap_c.proofs.acts.root_by.Goals as goal

pub returns-in-Some : goal.returns-in-Some
returns-in-Some c =
    let a = c.args in
    let x = c.in-Some.stepper in
    record {
      answers =
          answered (λ came. TakesRoot came a.v) c.status.result a.hand.now.stepper x c.root.new.self c.root.result c.in-Some.is c.status.ensures.number
          (root-by c.root.result a.v c.byte_of-v.result x c.root.new.self c.byte_of-v.ensures.byte c.root.ensures.root);
    }
