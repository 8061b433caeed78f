use Rattle.std.proofs.Common.{refl, inl}
use Rattle.managed_heap_c.proofs.worlds.take_at.Goals as goal

pub returns-in-Ok-mutator_of : goal.returns-in-Ok-mutator_of
returns-in-Ok-mutator_of c =
    let i = c.in-Ok-mutator_of in
    record { takes = inl (refl, (i.stepper, i.ensures.lent, c.slot_of.ensures.holds)) }
