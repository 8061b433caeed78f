use Rattle.std.proofs.Common.{◌≡◌, min, take}
use Rattle.std.specs.List.{count_by, flat_map}
use Rattle.gc_script.specs.Blocks.{counts, block_shown}
use Rattle.gc_script.proofs.block.count_in_blocks.Given as goal

abbrev pub invariant-loop-block : goal.invariant-loop-block
invariant-loop-block l = l.count ≡ min (count_by (counts l.kind) (flat_map block_shown (take l.block-index l.blocks))) 18446744073709551615
