use Rattle.std.proofs.Common.{◌+◌, [], ◌∷◌}
use Rattle.std.specs.Prelude.{false}
use Rattle.std.specs.Arc.{arc_value}
use Rattle.shared_heap.specs.Closing.{IsSharedEnd}
use Rattle.shared_heap.specs.Logs.{Locks}
use Rattle.example_heaps.specs.Locking.{IsAlone}
use Rattle.example_heaps.proofs.Ended.{if-some, locked, whole-log}
use Rattle.example_heaps.proofs.locking.visit.Goals as goal

pub returns : goal.returns
returns g c =
    let p = c.in_ok-world.field-0 in
    let new = c.in_ok-world.ensures.new in
    let n = c.args.times in
    let a = c.play.new.first in
    let b = c.play.new.second in
    let one = whole-log (λ f. Locks f false false (n + n)) (arc_value p.world.heap) p.world.sizes.name 1 p.first a new.first c.if-not-play.ensures.first in
    let two = whole-log (λ f. Locks f false false (n + n)) (arc_value p.world.heap) p.world.sizes.name 2 p.second b new.second c.if-not-play.ensures.second in
    record { alone = if-some c.close_shared.result (IsSharedEnd p.world (a ∷ b ∷ []) []) (IsAlone n) (λ w end. locked p.world a b w end c.threads_run.ensures c.lock_closed.ensures n one.1 two.1) c.close_shared.ensures.ended }
