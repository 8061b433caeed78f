use Rattle.std.proofs.Common.{subst, OnOk}
use Rattle.std.specs.Prelude.{Contains}
use Rattle.plain_heap.specs.declared.object.Ref.TheVariants as refs
use Rattle.plain_heap.specs.PlainHeap.{Heap}
use Rattle.plain_heap.specs.Marking.{Marks}
use Rattle.plain_heap.proofs.heap.PlainHeap.mark_held.Goals as goal

pub returns : goal.returns
returns c = subst (λ (h : Heap). OnOk c.mark_all.result (Marks (λ m. Contains h.variables (refs.Own m)) c.args.marks.now.items c.mark_all.new.marks.items c.args.waiting.now.items c.mark_all.new.waiting.items)) c.self.view_is c.mark_all.ensures
