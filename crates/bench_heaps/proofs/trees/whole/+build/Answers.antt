use Rattle.std.proofs.Common.{◌≡◌, ◌-◌, suc, sym, subst, arith}
use Rattle.std.specs.Prelude.{IfOk}
use Rattle.std.proofs.lemmas.Result.{IfOk-weaker}
use Rattle.managed_heap.specs.Calls.{heap_of}
use Rattle.bench_heaps.specs.Trees.{Builds, JoinsTrees}
use Rattle.bench_heaps.proofs.Building.{tree-built}
use Rattle.bench_heaps.proofs.trees.whole.+build.Goals as goal

pub returns-then-depth-eq0-clause-builds : goal.returns-then-depth-eq0-clause-builds
returns-then-depth-eq0-clause-builds g t c =
    subst (λ d. IfOk c.leaf.result (λ _. Builds d c.args.v (heap_of c.args.m.now) (heap_of c.leaf.new.m))) (sym c.if-depth-eq0.true) c.leaf.ensures.builds

pub returns-clause-builds : goal.returns-clause-builds
returns-clause-builds g t c =
    let x = heap_of c.args.m.now in
    let a = heap_of c.build.new.m in
    let b = heap_of c.build-2.new.m in
    let w = heap_of c.node.new.m in
    let v = c.args.v in
    let d = c.args.depth - 1 in
    let whole : suc d ≡ c.args.depth = omega (arith, c.if-depth-eq0.false) in
    IfOk-weaker c.node.result (λ _. JoinsTrees v b w) (λ _. Builds c.args.depth v x w)
    (λ _ joins. subst (λ n. Builds n v x w) whole (tree-built d v x a b w c.in_ok-build.ensures.builds c.in_ok-build-2.ensures.builds joins)) c.node.ensures.joins
