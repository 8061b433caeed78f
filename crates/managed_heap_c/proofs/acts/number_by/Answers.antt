use Rattle.managed_heap_c.specs.Acting.{NumbersTo}
use Rattle.managed_heap_c.proofs.Acted.{numbered}
use Rattle.managed_heap_c.proofs.Answered.{answered}
use Rattle.managed_heap_c.proofs.Numbered.{number-by}
use Rattle.managed_heap_c.proofs.acts.number_by.Goals as goal

pub returns-in-Some-clause-answers : goal.returns-in-Some-clause-answers
returns-in-Some-clause-answers c =
    let a = c.args in
    let x = c.in-Some.stepper in
    let y = c.number.new.self in
    let w = c.write_number in
    let v = c.byte_of-v.result in
    answered (NumbersTo a.v a.section.now a.number.now w.new.section w.new.number) c.status.result a.hand.now.stepper x y w.result c.in-Some.is c.status.ensures.number
    (number-by w.result a.v v a.section.now a.number.now w.new.section w.new.number x y c.byte_of-v.ensures.byte
    (numbered v a.section.now a.number.now w.new.section w.new.number w.result c.number.result x y c.number.ensures.number c.number.ensures.refused w.ensures.writes))
