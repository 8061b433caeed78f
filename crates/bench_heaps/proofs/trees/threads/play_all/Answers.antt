use Rattle.std.proofs.Common.{◌≡◌, ◌<◌, List, length, get_or, take, drop, ◌++◌, sym, ap, ◌∙◌, subst, arith, rules}
use Rattle.std.proofs.lemmas.Grind.{common_steps}
use Rattle.bench_heaps.specs.Playing.{WorkerPlayed}
use Rattle.bench_heaps.specs.Standing.{WorkerWaits}
use Rattle.bench_heaps.specs.declared.trees.threads.Worker.{Worker}
use Rattle.bench_heaps.proofs.trees.threads.play_all.Goals as goal

pub for_each_mut-requires-clause-accepts : goal.for_each_mut-requires-clause-accepts
for_each_mut-requires-clause-accepts g c = λ κs lives i p low is.
    let xs : List Worker = c.args.workers.now.items in
    let v = c.as_mut_slice.ensures.value in
    let low' : i < length xs = subst (λ (l : List Worker). i < length l) v low in (
      (
        c.requires.range,
        omega (arith, low', c.requires.some.1, c.args.workers.now.ok),
        subst (λ (x : Worker). WorkerWaits x.mutator) (sym (is ∙ ap (λ (l : List Worker). get_or l i p.now) v)) (c.requires.waits i p.now low'),
      ),
      search rules,
    )

pub returns : goal.returns
returns g c =
    let a = c.args.asked.now in
    let xs : List Worker = c.args.workers.now.items in
    let ys : List Worker = c.for_each_mut.new.s in
    let v = c.as_mut_slice.ensures.value in
    let long : length ys ≡ length xs = c.for_each_mut.auto.s ∙ ap length v in
    record {
      count = grind (arith, common_steps, long);
      each =
          λ i d low.
          let low' : i < length c.as_mut_slice.result.now = subst (λ (l : List Worker). i < length l) (sym v) low in
          let t = (c.for_each_mut.ensures i d low').1 in
          let one : WorkerPlayed a i (get_or xs i d) (get_or ys i d) =
          subst (λ (x : Worker). WorkerPlayed a i x (get_or ys i d)) (t.argument_is ∙ ap (λ (l : List Worker). get_or l i d) v) (subst (WorkerPlayed a i t.argument.now) t.left t.call) in
          let same : get_or (take c.args.workers.now.len (ys ++ drop (length ys) xs)) i d ≡ get_or ys i d = grind (arith, common_steps) in
          subst (WorkerPlayed a i (get_or xs i d)) (sym same) one;
    }
