use Rattle.std.proofs.Common.{◌≡◌, min, take}
use Rattle.std.specs.List.{count_by, flat_map}
use Rattle.gc_script.specs.Blocks.{counts, part_shown}
use Rattle.gc_script.proofs.block.count_in_parts.Given as goal

abbrev pub invariant-loop-part : goal.invariant-loop-part
invariant-loop-part l = l.count ≡ min (count_by (counts l.kind) (flat_map part_shown (take l.part-index l.parts))) 18446744073709551615
