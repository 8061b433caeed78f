use Rattle.std.proofs.Common.{take}
use Rattle.std.specs.Prelude.{Contains}
use Rattle.plain_heap.specs.declared.object.Ref.TheVariants as refs
use Rattle.plain_heap.specs.Marking.{Marks}
use Rattle.plain_heap.proofs.heap.mark.mark_all.Given as goal

abbrev pub invariant-loop-reference : goal.invariant-loop-reference
invariant-loop-reference l = Marks (λ n. Contains (take l.reference-index l.references) (refs.Own n)) l.initial.marks.items l.marks.items l.initial.waiting.items l.waiting.items
