use Rattle.std.proofs.Common.{◌≡◌, take}
use Rattle.std.specs.List.{list_all}
use Rattle.gc_script.specs.ScriptText.{is_allowed}
use Rattle.gc_script.proofs.source.are_allowed.Given as goal

abbrev pub invariant-loop-b : goal.invariant-loop-b
invariant-loop-b l = l.allowed ≡ list_all is_allowed (take l.b-index l.source)
