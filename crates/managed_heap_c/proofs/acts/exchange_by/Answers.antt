use Rattle.managed_heap_c.specs.Acting.{ExchangesTo}
use Rattle.managed_heap_c.proofs.Acted.{exchanged}
use Rattle.managed_heap_c.proofs.Answered.{answered}
use Rattle.managed_heap_c.proofs.Numbered.{exchange-by}
use Rattle.managed_heap_c.proofs.acts.exchange_by.Goals as goal

pub returns-in-Some-clause-answers : goal.returns-in-Some-clause-answers
returns-in-Some-clause-answers c =
    let a = c.args in
    let x = c.in-Some.stepper in
    let y = c.exchange.new.self in
    let w = c.write_answer in
    let v = c.byte_of-v.result in
    let i = c.byte_of-i.result in
    let m = c.byte_of-expected.result in
    let n = c.byte_of-next.result in
    answered (ExchangesTo a.v a.i a.expected a.next a.won.now w.new.out) c.status.result a.hand.now.stepper x y w.result c.in-Some.is c.status.ensures.number
    (exchange-by w.result a.v a.i a.expected a.next v i m n a.won.now w.new.out x y
    (record { object = c.byte_of-v.ensures.byte; field = c.byte_of-i.ensures.byte; expected = c.byte_of-expected.ensures.byte; next = c.byte_of-next.ensures.byte })
    (exchanged v i m n a.won.now w.new.out w.result c.exchange.result x y c.exchange.ensures.done c.exchange.ensures.refused w.ensures.writes))
