use Rattle.std.proofs.Common.{◌≡◌, ◌+◌, suc, ap, ◌∙◌, arith}
use Rattle.plain_heap.specs.PlainHeap.{variable}
use Rattle.managed_heap.specs.Calls.{heap_of}
use Rattle.bench_heaps.specs.Trees.{nodes}
use Rattle.bench_heaps.proofs.Building.{tree-nodes}
use Rattle.bench_heaps.proofs.trees.whole.check.Goals as goal

pub returns-clause-counts : goal.returns-clause-counts
returns-clause-counts c = λ tree.
    let x = heap_of c.args.m.now in
    let next : c.args.depth + 1 ≡ suc c.args.depth = omega arith in
    c.count.ensures.counts ∙ (ap (λ k. nodes x k (variable x c.args.v)) next ∙ tree-nodes x c.args.depth (variable x c.args.v) tree)
