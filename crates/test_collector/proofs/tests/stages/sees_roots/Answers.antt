use Rattle.std.proofs.Common.{arith}
use Rattle.test_collector.proofs.tests.stages.sees_roots.Goals as goal

-- no root is seen to at first
pub loop-full-init : goal.loop-full-init
loop-full-init c = (c.requires.0, record { roots = c.requires.1; below = λ i l. absurd (omega (arith, l)) })
