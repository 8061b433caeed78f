use Rattle.std.proofs.Common.{sym, subst, arith}
use Rattle.std.proofs.lemmas.List.Elements.{All-set}
use Rattle.bench_heaps.specs.Standing.{WorkerWaits}
use Rattle.bench_heaps.specs.declared.trees.threads.Worker.{Worker}
use Rattle.bench_heaps.proofs.trees.threads.work.Goals as goal

pub begin-requires-clause-waits : goal.begin-requires-clause-waits
begin-requires-clause-waits g c =
    subst (λ (x : Worker). WorkerWaits x.mutator) (sym c.index_mut.ensures.value) (c.requires.waits 0 c.index_mut.result.now (omega (arith, c.requires.some.0, c.args.workers.now.ok)))

pub play_all-requires-clause-waits : goal.play_all-requires-clause-waits
play_all-requires-clause-waits g c κs lives = All-set (λ (x : Worker). WorkerWaits x.mutator) c.args.workers.now.items 0 c.begin.new.worker c.begin.ensures.waits c.requires.waits
