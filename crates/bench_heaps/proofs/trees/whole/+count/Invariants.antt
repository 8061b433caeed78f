use Rattle.bench_heaps.proofs.trees.whole.+count.Given as goal

abbrev pub decreases-count : goal.decreases-count
decreases-count l = l.steps
