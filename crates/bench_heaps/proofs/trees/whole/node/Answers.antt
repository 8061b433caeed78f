use Rattle.std.proofs.Common.{arith}
use Rattle.managed_heap.specs.Calls.{heap_of}
use Rattle.bench_heaps.proofs.Building.{node-joined}
use Rattle.bench_heaps.proofs.trees.whole.node.Goals as goal

pub returns-clause-joins : goal.returns-clause-joins
returns-clause-joins g c =
    node-joined c.args.v (heap_of c.args.m.now) (heap_of c.make.new.m) (heap_of c.join.new.m) (heap_of c.join-2.new.m) (omega (arith, c.requires.fits)) c.in_ok-make.ensures.steps c.join.ensures.steps c.join-2.ensures.steps
