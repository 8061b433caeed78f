use Rattle.std.proofs.Common.{ℕ, ◌≡◌, ◌≤◌, ◌-◌, ◌*◌, ◌/◌, ◌%◌, arith, subst}
use Rattle.std.proofs.lemmas.Nat.{div-add-mod'}
use Rattle.mark_core.specs.Numbers.{section_variables}
use Rattle.mark_core.specs.declared.kinds.Shape.{Shape}
use Rattle.gc_table.specs.Seats.{view_of}
use Rattle.card_clean.specs.Drained.{IsNotedRoot, slot_index}
use Rattle.card_clean.proofs.roots.mark_one.Goals as goal

-- the root word of the slot, by its section and its place there
slot-again : (sh s : Shape) (i : ℕ) → s ≡ sh → s.sections * section_variables ≤ i → slot_index sh ((i - s.sections * section_variables) / s.slots) ((i - s.sections * section_variables) % s.slots) ≡ i
slot-again sh s i e l =
    let n : ℕ = i - s.sections * section_variables in
    subst (λ (t : Shape). slot_index t (n / s.slots) (n % s.slots) ≡ i) e (let all = div-add-mod' n s.slots in omega (arith, all, l))

pub returns-clause-noted : goal.returns-clause-noted
returns-clause-noted c = λ alone.
    let past = c.if-i-variables.false in
    subst (λ x. IsNotedRoot x (view_of c.mark_slot.new.seat)) (slot-again c.args.heap.now.shape c.shape-shape.result c.args.i c.shape-shape.ensures (omega (arith, past))) (c.mark_slot.ensures.noted alone)
