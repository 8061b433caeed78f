use Rattle.std.proofs.Common.{refl, sym, subst}
use Rattle.std.specs.Prelude.{IsFalse}
use Rattle.managed_heap_c.specs.declared.hands.Hand.{Hand}
use Rattle.managed_heap_c.proofs.worlds.slot_of.Goals as goal

pub returns : goal.returns
returns c = record { holds = (_, c.hand_slot.ensures.filled, refl, subst (λ (h : Hand). IsFalse h.busy) (sym c.deref_mut.ensures.value) c.requires.rests) }
