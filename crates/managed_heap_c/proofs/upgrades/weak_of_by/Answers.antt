use Rattle.managed_heap_c.specs.Weak.{WeaksTo}
use Rattle.managed_heap_c.proofs.Answered.{answered}
use Rattle.managed_heap_c.proofs.Upgraded.{weak-by, weakened}
use Rattle.managed_heap_c.proofs.upgrades.weak_of_by.Goals as goal

pub returns-in-Some-clause-answers : goal.returns-in-Some-clause-answers
returns-in-Some-clause-answers c =
    let a = c.args in
    let x = c.in-Some.stepper in
    let y = c.weak.new.self in
    let w = c.write_weak in
    let v = c.byte_of-v.result in
    answered (WeaksTo a.v a.out.now w.new.out) c.status.result a.hand.now.stepper x y w.result c.in-Some.is c.status.ensures.number
    (weak-by w.result a.v v a.out.now w.new.out x y c.byte_of-v.ensures.byte
    (weakened v a.out.now w.new.out w.result c.weak.result x y c.weak.ensures.takes c.weak.ensures.refused w.ensures.writes))
