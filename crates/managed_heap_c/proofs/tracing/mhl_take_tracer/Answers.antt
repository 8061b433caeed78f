use Rattle.std.proofs.Common.{subst}
use Rattle.managed_heap_c.specs.Tracers.{TakesTracer}
use Rattle.managed_heap_c.specs.declared.hands.Whole.{Whole}
use Rattle.managed_heap_c.proofs.tracing.mhl_take_tracer.Goals as goal

pub returns : goal.returns
returns c =
    let t = c.take_tracer_at in
    record { takes = subst (λ (h : Whole). TakesTracer t.result h.world t.new.whole.world c.args.out.now t.new.out) c.lend_whole.ensures.value t.ensures.takes }
