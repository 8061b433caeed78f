use Rattle.std.proofs.Common.{length, ap, ◌∙◌}
use Rattle.std.proofs.lemmas.Option.{IfSome_then}
use Rattle.mark_core.specs.Start.{start_seat}
use Rattle.mark_core.specs.declared.kinds.Shape.{Shape}
use Rattle.gc_table.specs.declared.view.Meaning.{Meaning}
use Rattle.bench_steps.proofs.table.opening.open.Goals as goal

pub returns-clause-rests : goal.returns-clause-rests
returns-clause-rests c = IfSome_then c.open_one.result c.open_one.ensures (λ r e. (e.0, e.1.0.0, e.1.0.1 ∙ ap (λ (x : Shape). start_seat x 0) e.0))

pub returns-clause-objects : goal.returns-clause-objects
returns-clause-objects c = IfSome_then c.open_one.result c.open_one.ensures (λ r e. ap (λ (m : Meaning). length m.heap.objects) e.1.1)
