use Rattle.seat_steps.specs.Weak.{UpgradesTo}
use Rattle.managed_heap_c.proofs.Answered.{answered}
use Rattle.managed_heap_c.proofs.Upgraded.{upgrade-by}
use Rattle.managed_heap_c.proofs.upgrades.upgrade_by.Goals as goal

pub returns-in-Some : goal.returns-in-Some
returns-in-Some c =
    let a = c.args in
    let x = c.in-Some.stepper in
    let u = c.upgrade in
    record {
      answers =
          answered (λ came. UpgradesTo came a.weak.now a.v) c.status.result a.hand.now.stepper x u.new.self u.result c.in-Some.is c.status.ensures.number
          (upgrade-by u.result a.weak.now a.v c.byte_of-v.result x u.new.self c.byte_of-v.ensures.byte u.ensures.upgrades);
    }
