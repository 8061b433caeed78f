use Rattle.std.proofs.Common.{◌+◌}
use Rattle.std.specs.Arc.{arc_value}
use Rattle.example_locks.specs.Visits.{VisitsRoot}
use Rattle.example_locks.proofs.Ended.{guarded, whole-log}
use Rattle.example_locks.proofs.visiting.visit.Goals as goal

pub returns : goal.returns
returns g c =
    let p = c.in_ok-world.field-0 in
    let new = c.in_ok-world.ensures.new in
    let n = c.args.times in
    let a = c.play.new.first in
    let b = c.play.new.second in
    let one = whole-log (λ f. VisitsRoot f (n + n)) (arc_value p.world.heap) p.world.sizes.name 1 p.first a new.first c.in_ok-torn.ensures.first in
    let two = whole-log (λ f. VisitsRoot f (n + n)) (arc_value p.world.heap) p.world.sizes.name 2 p.second b new.second c.in_ok-torn.ensures.second in
    record { guarded = guarded c.threads_run.ensures c.lock_by_log.ensures c.pair_by_log.ensures p.world a b c.in_ok-words.words c.in_ok-words.ensures.ended n one.1 two.1 }
