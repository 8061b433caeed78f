use Rattle.std.proofs.Common.{refl, inl}
use Rattle.managed_heap_c.proofs.worlds.open_at.Goals as goal

pub returns-in-Ok-boxed_world : goal.returns-in-Ok-boxed_world
returns-in-Ok-boxed_world c =
    let w = c.in-Ok.world in
    let whole = c.in-Ok-boxed_world.whole.value in
    record { opens = inl (refl, (w, c.in-Ok.ensures.opened, (whole, c.whole_slot.ensures.filled, c.in-Ok-boxed_world.ensures.has))) }
