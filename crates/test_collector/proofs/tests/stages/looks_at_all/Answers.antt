use Rattle.std.proofs.Common.{arith}
use Rattle.test_collector.proofs.tests.stages.looks_at_all.Goals as goal

-- no card is seen clean at first
pub loop-full-init : goal.loop-full-init
loop-full-init c = (c.requires.0, record { drains = c.requires.1; below = λ card low high. absurd (omega (arith, low, high)) })
