use Rattle.std.proofs.Common.{◌≡◌}
use Rattle.gc_script.specs.Cursor.{commands_left, steps_left}
use Rattle.gc_script.proofs.commands.Cursor.step.Given as goal

abbrev pub invariant-loop-self : goal.invariant-loop-self
invariant-loop-self l = commands_left l.self ≡ commands_left l.initial.self

abbrev pub decreases-loop-self : goal.decreases-loop-self
decreases-loop-self l = steps_left l.self
