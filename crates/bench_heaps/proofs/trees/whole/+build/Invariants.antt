use Rattle.bench_heaps.proofs.trees.whole.+build.Given as goal

abbrev pub decreases-build : goal.decreases-build
decreases-build g l = l.depth
