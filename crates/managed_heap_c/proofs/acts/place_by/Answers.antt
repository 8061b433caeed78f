use Rattle.managed_heap_c.specs.Acting.{PlacesTo}
use Rattle.managed_heap_c.proofs.Acted.{placed}
use Rattle.managed_heap_c.proofs.Answered.{answered}
use Rattle.managed_heap_c.proofs.Numbered.{place-by}
use Rattle.managed_heap_c.proofs.acts.place_by.Goals as goal

pub returns-in-Some-clause-answers : goal.returns-in-Some-clause-answers
returns-in-Some-clause-answers c =
    let a = c.args in
    let x = c.in-Some.stepper in
    let w = c.write_place in
    let v = c.byte_of-v.result in
    let e = c.place.ensures in
    answered (PlacesTo a.v a.place.now w.new.out) c.status.result a.hand.now.stepper x x w.result c.in-Some.is c.status.ensures.number
    (place-by w.result a.v v a.place.now w.new.out x x c.byte_of-v.ensures.byte
    (placed v a.place.now w.new.out w.result c.place.result x e.place e.inside e.may e.refused w.ensures.writes))
