use Rattle.std.proofs.Common.{◌≡◌, ◌≤◌, map, take}
use Rattle.std.specs.List.{count_by}
use Rattle.gc_script.specs.Shown.{execution_of}
use Rattle.gc_script.specs.Blocks.{counts}
use Rattle.gc_script.proofs.block.count_in.Given as goal

abbrev pub invariant-loop-command : goal.invariant-loop-command
invariant-loop-command l = (l.count ≡ count_by (counts l.kind) (map execution_of (take l.command-index l.commands))) × (l.count ≤ l.command-index)
