use Rattle.std.proofs.Common.{refl, inl}
use Rattle.managed_heap_c.proofs.tracers.take_tracer_at.Goals as goal

pub returns-in-Ok-tracer_of : goal.returns-in-Ok-tracer_of
returns-in-Ok-tracer_of c =
    let i = c.in-Ok-tracer_of in
    record { takes = inl (refl, (i.tracer, i.ensures.lent, c.slot_of.ensures.holds)) }
