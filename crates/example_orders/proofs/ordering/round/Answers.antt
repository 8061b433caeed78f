use Rattle.std.specs.Arc.{arc_value}
use Rattle.example_orders.specs.Threads.{ReadsFieldFirst, ReadsValueFirst, StoresField, StoresValue}
use Rattle.example_orders.proofs.Ended.{ordered, whole-log}
use Rattle.example_orders.proofs.ordering.round.Goals as goal

pub returns : goal.returns
returns g c =
    let p = c.in_ok-world.field-0 in
    let new = c.in_ok-world.ensures.new in
    let heap = arc_value p.world.heap in
    let name = p.world.sizes.name in
    let r = c.in_ok-readings.readings in
    let a = c.play.new.value in
    let b = c.play.new.field in
    let d = c.play.new.first in
    let e = c.play.new.second in
    let one = whole-log StoresValue heap name 1 p.value a new.value c.in_ok-readings.ensures.value in
    let two = whole-log StoresField heap name 2 p.field b new.field c.in_ok-readings.ensures.field in
    let three = whole-log (ReadsValueFirst r.first) heap name 3 p.first d new.first c.in_ok-readings.ensures.first in
    let four = whole-log (ReadsFieldFirst r.second) heap name 4 p.second e new.second c.in_ok-readings.ensures.second in
    record { ordered = ordered c.threads_run.ensures c.lent_by_log.ensures c.variables_read.ensures p.world a b d e c.in_ok-words.words c.in_ok-words.ensures.ended r one.1 two.1 three.1 four.1 }
