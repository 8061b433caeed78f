use Rattle.std.proofs.Common.{arith}
use Rattle.example_heaps.proofs.Joined.{raises-then}
use Rattle.example_heaps.proofs.counting.raise.Goals as goal

pub loop-preserved : goal.loop-preserved
loop-preserved g c =
    let one = c.in-Some-round.ensures.raised in
    let less = c.if-won-times.false in
    record {
      next = tt;
      finite = tt;
      raised = raises-then c.args.m.now c.loop.m c.round.new.m c.loop.won c.in-Some-round.more c.loop.invariant.raised one.1;
      below = let least = one.0 in omega (arith, least, less);
    }
