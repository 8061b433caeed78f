use Rattle.test_core.specs.Ready.{Ready}
use Rattle.test_core.proofs.tests.blocks.fill.Given as goal

abbrev pub invariant-loop-number : goal.invariant-loop-number
invariant-loop-number l = Ready l.heap l.seat
