use Rattle.std.proofs.Common.{◌∙◌, ap, sym, subst}
use Rattle.mark_core.specs.declared.kinds.Shape.{Shape}
use Rattle.gc_table.specs.declared.seat.Heap.{Heap}
use Rattle.shared_heap.specs.Opening.{AreNew}
use Rattle.shared_heap.proofs.dealing.share.Goals as goal

pub deal_mutators-requires-clause-new : goal.deal_mutators-requires-clause-new
deal_mutators-requires-clause-new c = subst (λ (h : Heap). AreNew h 1 c.args.seats.now.items) (sym c.in_ok-heap.ensures.ok) c.requires.new

pub deal_mutators-requires-clause-sections : goal.deal_mutators-requires-clause-sections
deal_mutators-requires-clause-sections c = ap (λ (h : Heap). h.shape.sections) c.in_ok-heap.ensures.ok ∙ ap (λ (sh : Shape). sh.sections) c.requires.shape

pub deal_mutators-requires-clause-shared : goal.deal_mutators-requires-clause-shared
deal_mutators-requires-clause-shared c = ap (λ (h : Heap). h.shape.sharing) c.in_ok-heap.ensures.ok ∙ ap (λ (sh : Shape). sh.sharing) c.requires.shape
