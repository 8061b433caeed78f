use Rattle.std.proofs.lemmas.Result.{IfOk-weaker}
use Rattle.plain_heap.specs.declared.operation.Op.TheVariants as ops
use Rattle.managed_heap.specs.Calls.{heap_of}
use Rattle.seat_turns.specs.Plain.{Steps}
use Rattle.bench_heaps.specs.Trees.{Builds}
use Rattle.bench_heaps.proofs.Building.{leaf-built}
use Rattle.bench_heaps.proofs.trees.whole.leaf.Goals as goal

pub returns-clause-builds : goal.returns-clause-builds
returns-clause-builds g c =
    let v = c.args.v in
    let x = heap_of c.args.m.now in
    let y = heap_of c.make.new.m in
    IfOk-weaker c.make.result (λ _. Steps (ops.New v 0) x y) (λ _. Builds 0 v x y) (λ _ steps. leaf-built v x y c.requires.fits steps) c.make.ensures.steps
