use Rattle.std.proofs.Common.{arith}
use Rattle.managed_heap.specs.Calls.{heap_of}
use Rattle.bench_heaps.proofs.Building.{grows-join, grows-leaves, leaves-join, leaves-less}
use Rattle.bench_heaps.proofs.trees.whole.short_lived.Goals as goal

pub returns-clause-grows : goal.returns-clause-grows
returns-clause-grows g c =
    let x = heap_of c.args.m.now in
    let y = heap_of c.build.new.m in
    let z = heap_of c.check-nodes.new.m in
    let w = heap_of c.drop_from.new.m in
    grows-join 1 x y w c.in_ok-build.ensures.builds.grows (grows-leaves 1 y w (leaves-join 1 y z w (leaves-less 2 1 y z (omega arith) c.check-nodes.ensures.leaves) c.drop_from.ensures.leaves))
