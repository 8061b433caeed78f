use Rattle.std.proofs.Common.{map}
use Rattle.gc_script.specs.Finished.{parts_shown}
use Rattle.gc_script.proofs.Numbering.{IsNumbered}
use Rattle.gc_script.proofs.finish.numbered_sections.Given as goal

abbrev pub invariant-loop-parts : goal.invariant-loop-parts
invariant-loop-parts l =
    (goal.iterator-loop-parts).can_next l.parts-iterator
    × (goal.iterator-loop-parts).is_finite l.parts-iterator
    × IsNumbered l.fields (map parts_shown l.fn.warehouses.items) l.sections.items (map parts_shown l.parts-iterator.rest.items)
