use Rattle.std.proofs.Common.{◌<◌, arith}
use Rattle.std.proofs.lemmas.Nat.{mul-le}
use Rattle.managed_heap.specs.Calls.{heap_of}
use Rattle.bench_heaps.specs.Trees.{full}
use Rattle.bench_heaps.proofs.Building.{full-small, grows-join, grows-none}
use Rattle.bench_heaps.proofs.trees.workers.many.Goals as goal

pub loop-tree-init : goal.loop-tree-init
loop-tree-init g c = record { plays = c.requires.plays; counted = omega arith; grows = grows-none 1 (heap_of c.args.m.now) }

pub overflow_add-nodes : goal.overflow_add-nodes
overflow_add-nodes g c =
    let p : full c.args.depth < 32768 = full-small c.args.depth 14 c.requires.few.0 in
    omega (arith, p, c.in_ok-more.ensures.counts, c.loop-tree.invariant.counted, mul-le c.loop-tree._tree (full c.args.depth) 8223 32768 (omega (arith, c.requires.few.1, c.loop-tree-test.true)) (omega (arith, p)))

pub loop-tree-preserved : goal.loop-tree-preserved
loop-tree-preserved g c =
    let i = c.loop-tree.invariant in
    record {
      plays = c.in_ok-more.ensures.ok;
      counted = let e = c.in_ok-more.ensures.counts in grind (arith, i.counted, e);
      grows = grows-join 1 (heap_of c.args.m.now) (heap_of c.loop-tree.m) (heap_of c.short_lived.new.m) i.grows c.in_ok-more.ensures.grows;
    }
