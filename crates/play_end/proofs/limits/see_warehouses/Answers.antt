use Rattle.std.proofs.Common.{◌≡◌, ◌+◌, ◌∙◌, arith}
use Rattle.plain_heap.specs.Sections.{section_of}
use Rattle.play_end.proofs.SectionLists.{warehouse-is, warehouse-count, fits-more}
use Rattle.play_end.proofs.limits.see_warehouses.Goals as goal

pub loop-section-preserved : goal.loop-section-preserved
loop-section-preserved c =
    let s = c.args.script.now.sections in
    let is : c.section-item.result ≡ section_of s (c.loop-section.section-index + 1) = c.section-item.is ∙ warehouse-is s _ c.loop-section.section-index c.section-item.result c.warehouses-section-items.ensures.same c.loop-section-test.true in
    fits-more s c.loop-section.section-index c.section-item.result is c.see_section.ensures c.loop-section.invariant

pub returns : goal.returns
returns c = λ w below. c.loop-section.invariant w (omega (arith, below, c.loop-section-test.false, warehouse-count c.args.script.now.sections _ c.warehouses-section-items.ensures.same))
