use Rattle.std.proofs.Common.{take}
use Rattle.example_queues.specs.Logs.{Works}
use Rattle.example_queues.proofs.playing.turns.Given as goal

abbrev pub invariant-loop-number : goal.invariant-loop-number
invariant-loop-number g l = Works (take l.number-index l.numbers) l.taken.items l.fn.m l.m
