use Rattle.managed_heap.specs.Calls.{heap_of}
use Rattle.bench_heaps.proofs.Building.{leaves-join, leaves-less, forgotten}
use Rattle.bench_heaps.proofs.trees.whole.drop_from.Goals as goal

pub loop-w-preserved : goal.loop-w-preserved
loop-w-preserved c =
    let x = heap_of c.args.m.now in
    let y = heap_of c.loop-w.m in
    let z = heap_of c.forget.new.m in
    record {
      plays = c.forget.ensures.plays;
      leaves = leaves-join c.args.v x y z c.loop-w.invariant.leaves (leaves-less c.loop-w.w c.args.v y z c.loop-w.auto.w (forgotten c.loop-w.w y z c.forget.ensures.steps));
    }
