use Rattle.std.proofs.Common.{length}
use Rattle.mark_core.proofs.failing_part.+first_false_from.Given as goal

abbrev pub decreases-first_false_from : goal.decreases-first_false_from
decreases-first_false_from l = length l.parts.now
