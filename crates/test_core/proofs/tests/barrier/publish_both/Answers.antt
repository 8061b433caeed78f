use Rattle.std.proofs.Common.{ap, ◌∙◌}
use Rattle.plain_heap.specs.PlainHeap.{variable, is_own}
use Rattle.gc_table.specs.declared.view.SectionState.{SectionState}
use Rattle.test_core.proofs.tests.barrier.publish_both.Goals as goal

pub returns : goal.returns
returns c = (c.publish.ensures.ready, ap (λ (x : SectionState). is_own (variable x.meaning.heap 0)) c.publish.ensures.section ∙ c.requires.1)
