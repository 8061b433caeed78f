use Rattle.std.proofs.Common.{◌≡◌, min, take, map}
use Rattle.std.specs.Prelude.{option_map}
use Rattle.gc_script.specs.Blocks.{counts}
use Rattle.gc_script.specs.Sectioned.{in_sections}
use Rattle.gc_script.specs.Finished.{parts_shown}
use Rattle.gc_script.proofs.finish.count_in_sections.Given as goal

abbrev pub invariant-loop-parts : goal.invariant-loop-parts
invariant-loop-parts l = l.count ≡ min (in_sections (counts l.kind) (option_map parts_shown l.catalogue) (map parts_shown (take l.parts-index l.warehouses))) 18446744073709551615
