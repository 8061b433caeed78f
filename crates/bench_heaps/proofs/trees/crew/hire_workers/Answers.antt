use Rattle.std.proofs.Common.{◌≡◌, ◌+◌, All, List, [], ◌∷◌, ◌++◌, length, ap, ◌∙◌, arith}
use Rattle.std.specs.Prelude.{Some}
use Rattle.std.specs.List.{insert}
use Rattle.std.proofs.lemmas.List.{length_push}
use Rattle.std.proofs.lemmas.List.Elements.{All-cons, All-pop, All-same}
use Rattle.managed_heap.specs.declared.mutator.Mutator.{Mutator}
use Rattle.bench_heaps.specs.Standing.{WorkerWaits}
use Rattle.bench_heaps.specs.declared.trees.threads.Worker.{Worker}
use Rattle.bench_heaps.proofs.trees.crew.hire_workers.Goals as goal

-- one more in front
all-first : {A : Type 0} (P : A → Type 0) (xs ys : List A) (x : A) → ys ≡ insert xs 0 x → All P xs → P x → All P ys
all-first P xs ys x e all first = All-same P ys (x ∷ xs) e (All-cons P x xs first all)

pub loop-mutator-preserved : goal.loop-mutator-preserved
loop-mutator-preserved c =
    let i = c.loop-mutator.invariant in
    let xs : List Mutator = c.loop-mutator.world.mutators.items in
    let ys : List Mutator = c.mutator.new.self.mutators.items in
    let m : Mutator = c.in-Some.mutator in
    let taken : xs ≡ ys ++ m ∷ [] = c.in-Some.ensures.some in
    let left = All-pop WorkerWaits xs ys (Some m) taken i.left in
    let fewer : length xs ≡ length ys + 1 = ap length taken ∙ length_push ys m in
    record {
      left = left.0;
      waits = all-first (λ (x : Worker). WorkerWaits x.mutator) c.loop-mutator.workers.items c.insert.new.self.items _ c.in_ok-insert.ensures.items i.waits left.1;
      count = omega (arith, i.count, c.in_ok-insert.ensures.len, fewer, c.loop-mutator.world.mutators.ok, c.mutator.new.self.mutators.ok);
    }
