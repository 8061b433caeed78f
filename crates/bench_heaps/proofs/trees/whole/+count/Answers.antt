use Rattle.std.proofs.Common.{ℕ, suc, ◌≡◌, ◌+◌, ◌-◌, ◌<◌, ◌≤◌, ap, ◌∙◌, arith}
use Rattle.plain_heap.specs.PlainHeap.{Heap, heap_variables, variable}
use Rattle.plain_heap.specs.declared.object.Ref.{Ref}
use Rattle.plain_heap.specs.declared.object.Ref.TheVariants.{Nil}
use Rattle.plain_heap.specs.declared.operation.Op.TheVariants as ops
use Rattle.managed_heap.specs.Calls.{heap_of}
use Rattle.seat_turns.specs.Plain.{Steps}
use Rattle.bench_heaps.specs.Trees.{LeavesObjects, full, nodes}
use Rattle.bench_heaps.proofs.Building.{full-small, nodes-few, counted-both}
use Rattle.bench_heaps.proofs.trees.whole.+count.Goals as goal

small : (x : Heap) (k n : ℕ) (ref : Ref) → k ≤ 31 → n ≡ nodes x k ref → n < 4294967296
small x k n ref low e = let p : full k < 4294967296 = full-small k 31 low in omega (arith, e, nodes-few x k ref, p)

both :
    (x y z w q : Heap) (v k l r : ℕ) → v + k < heap_variables → 0 < k → (variable x v ≡ Nil → ⊥) → Steps (ops.Get (v + 1) v 0) x y → l ≡ nodes y (k - 1) (variable y (v + 1)) → LeavesObjects (v + 1 + 1) y z → Steps (ops.Get (v + 1) v 1) z w
    → r ≡ nodes w (k - 1) (variable w (v + 1)) → LeavesObjects (v + 1 + 1) w q → (1 + l + r ≡ nodes x k (variable x v)) × LeavesObjects (v + 1) x q
both x y z w q v k l r fits deep some first left leaves second right leaves' =
    let j : suc (k - 1) ≡ k = omega (arith, deep) in
    let m = counted-both v (k - 1) l r x y z w q some (omega (arith, fits, deep)) first left leaves second right leaves' in
    (m.0 ∙ ap (λ n. nodes x n (variable x v)) j, m.1)

pub overflow_add-result : goal.overflow_add-result
overflow_add-result t c =
    let x = heap_of c.look.new.m in
    omega (arith, small x (c.args.steps - 1) c.count-left.result (variable x (c.args.v + 1)) (omega (arith, c.requires.fits)) c.count-left.ensures.counts)

pub overflow_add-result-2 : goal.overflow_add-result-2
overflow_add-result-2 t c =
    let x = heap_of c.look.new.m in
    let w = heap_of c.look-2.new.m in
    omega (
      arith,
      small x (c.args.steps - 1) c.count-left.result (variable x (c.args.v + 1)) (omega (arith, c.requires.fits)) c.count-left.ensures.counts,
      small w (c.args.steps - 1) c.count-right.result (variable w (c.args.v + 1)) (omega (arith, c.requires.fits)) c.count-right.ensures.counts,
    )

pub returns-clause-counts : goal.returns-clause-counts
returns-clause-counts t c =
    (both (heap_of c.args.m.now) (heap_of c.look.new.m) (heap_of c.count-left.new.m) (heap_of c.look-2.new.m) (heap_of c.count-right.new.m) c.args.v c.args.steps c.count-left.result c.count-right.result c.requires.fits (omega (arith, c.if-steps-eq0.false))
    c.if-is_nil.ensures.some c.look.ensures.steps c.count-left.ensures.counts c.count-left.ensures.leaves c.look-2.ensures.steps c.count-right.ensures.counts c.count-right.ensures.leaves).0

pub returns-clause-leaves : goal.returns-clause-leaves
returns-clause-leaves t c =
    (both (heap_of c.args.m.now) (heap_of c.look.new.m) (heap_of c.count-left.new.m) (heap_of c.look-2.new.m) (heap_of c.count-right.new.m) c.args.v c.args.steps c.count-left.result c.count-right.result c.requires.fits (omega (arith, c.if-steps-eq0.false))
    c.if-is_nil.ensures.some c.look.ensures.steps c.count-left.ensures.counts c.count-left.ensures.leaves c.look-2.ensures.steps c.count-right.ensures.counts c.count-right.ensures.leaves).1
