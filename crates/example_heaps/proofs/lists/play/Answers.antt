use Rattle.std.proofs.Common.{[], ◌∷◌}
use Rattle.managed_heap.specs.Closing.{IsWorldEnd}
use Rattle.example_heaps.specs.Ending.{EndsWhole}
use Rattle.example_heaps.proofs.Ended.{if-some}
use Rattle.example_heaps.proofs.Own.{ends-whole}
use Rattle.example_heaps.proofs.lists.play.Goals as goal

pub returns : goal.returns
returns g c =
    let p = c.in_ok-world.field-0 in
    let a = c.act_both.new.first in
    let b = c.act_both.new.second in
    record { ended = if-some c.close.result (IsWorldEnd p.world (a ∷ b ∷ []) []) EndsWhole (ends-whole c.threads_run.ensures p.world a b) c.close.ensures.ended }
