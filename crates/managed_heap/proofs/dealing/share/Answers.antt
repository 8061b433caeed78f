use Rattle.std.proofs.Common.{◌≡◌, ◌∙◌, ap, sym, subst}
use Rattle.std.specs.Arc.{arc_value}
use Rattle.mark_core.specs.declared.kinds.Shape.{Shape}
use Rattle.gc_table.specs.declared.seat.Heap.{Heap}
use Rattle.managed_heap.specs.Lending.{shape_for}
use Rattle.managed_heap.specs.Opening.{AreNew}
use Rattle.managed_heap.proofs.dealing.share.Goals as goal

pub deal_mutators-requires-clause-new : goal.deal_mutators-requires-clause-new
deal_mutators-requires-clause-new c = subst (λ (h : Heap). AreNew h 1 c.args.seats.now.items) (sym c.in_ok-heap.ensures.ok) c.requires.new

pub deal_mutators-requires-clause-sections : goal.deal_mutators-requires-clause-sections
deal_mutators-requires-clause-sections c =
    let shape : (arc_value c.in_ok-heap.heap).shape ≡ shape_for c.args.sizes = ap (λ (h : Heap). h.shape) c.in_ok-heap.ensures.ok ∙ c.requires.shape in
    ap (λ (sh : Shape). sh.sections) shape

pub deal_mutators-requires-clause-owned : goal.deal_mutators-requires-clause-owned
deal_mutators-requires-clause-owned c = ap (λ (h : Heap). h.shape.sharing) c.in_ok-heap.ensures.ok ∙ ap (λ (sh : Shape). sh.sharing) c.requires.shape
