use Rattle.gc_script.proofs.Sectioning.{counted}
use Rattle.gc_script.proofs.section.Section.make.Goals as goal

pub invariant_of-result : goal.invariant_of-result
invariant_of-result c =
    counted c.args.fields c.as_slice.result.now c.as_slice-2.result.now c.as_slice-3.result.now c.args.parts.items _ _ _ c.requires c.as_slice.ensures.value c.as_slice-2.ensures.value c.as_slice-3.ensures.value
    c.count_in_parts-executed.ensures c.count_in_parts-made.ensures c.count_in_parts-printed.ensures
