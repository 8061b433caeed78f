use Rattle.std.proofs.Common.{◌≡◌, ◌+◌, ◌∙◌, sym}
use Rattle.std.specs.Arc.{arc_value}
use Rattle.shared_heap.specs.Logs.{Raises}
use Rattle.example_heaps.proofs.Ended.{counted, when-some, whole-log}
use Rattle.example_heaps.proofs.counting.count.Goals as goal

pub returns : goal.returns
returns g c =
    let p = c.in_ok-world.field-0 in
    let new = c.in_ok-world.ensures.new in
    let n = c.args.times in
    let a = c.play.new.first in
    let b = c.play.new.second in
    let one = whole-log (λ f. Raises f n) (arc_value p.world.heap) p.world.sizes.name 1 p.first a new.first c.if-not-play.ensures.first in
    let two = whole-log (λ f. Raises f n) (arc_value p.world.heap) p.world.sizes.name 2 p.second b new.second c.if-not-play.ensures.second in
    record {
      counted =
          when-some c.root_value.result (λ v. v ≡ n + n)
          (λ v e. counted p.world a b c.in_ok-words.words c.in_ok-words.ensures.ended c.counter_read.ensures n n v one.1 two.1 (sym c.root_value.ensures.value ∙ e));
    }
