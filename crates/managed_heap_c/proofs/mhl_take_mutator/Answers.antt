use Rattle.std.proofs.Common.{subst}
use Rattle.managed_heap_c.specs.Taking.{TakesMutator}
use Rattle.managed_heap_c.specs.declared.hands.Whole.{Whole}
use Rattle.managed_heap_c.proofs.mhl_take_mutator.Goals as goal

pub returns : goal.returns
returns c =
    let t = c.take_at in
    record { takes = subst (λ (h : Whole). TakesMutator t.result h.world t.new.whole.world c.args.out.now t.new.out) c.lend_whole.ensures.value t.ensures.takes }
