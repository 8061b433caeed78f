use Rattle.std.proofs.Common.{refl, sym, subst}
use Rattle.std.specs.Prelude.{IsFalse}
use Rattle.managed_heap_c.specs.declared.hands.TracerHand.{TracerHand}
use Rattle.managed_heap_c.proofs.tracers.slot_of.Goals as goal

pub returns : goal.returns
returns c = record { holds = (_, c.tracer_slot.ensures.filled, refl, subst (λ (h : TracerHand). IsFalse h.busy) (sym c.deref_mut.ensures.value) c.requires.rests) }
