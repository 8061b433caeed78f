use Rattle.managed_heap_c.specs.Acting.{ExchangesValueTo}
use Rattle.managed_heap_c.proofs.Acted.{counted}
use Rattle.managed_heap_c.proofs.Answered.{answered}
use Rattle.managed_heap_c.proofs.Numbered.{count-by}
use Rattle.managed_heap_c.proofs.acts.exchange_value_by.Goals as goal

pub returns-in-Some-clause-answers : goal.returns-in-Some-clause-answers
returns-in-Some-clause-answers c =
    let a = c.args in
    let x = c.in-Some.stepper in
    let y = c.exchange_value.new.self in
    let w = c.write_answer in
    let v = c.byte_of-v.result in
    answered (ExchangesValueTo a.v a.expected a.next a.won.now w.new.out) c.status.result a.hand.now.stepper x y w.result c.in-Some.is c.status.ensures.number
    (count-by w.result a.v v a.expected a.next a.won.now w.new.out x y c.byte_of-v.ensures.byte
    (counted v a.expected a.next a.won.now w.new.out w.result c.exchange_value.result x y c.exchange_value.ensures.done c.exchange_value.ensures.refused w.ensures.writes))
