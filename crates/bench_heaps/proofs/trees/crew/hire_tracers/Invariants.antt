use Rattle.std.specs.Prelude.{vec_len}
use Rattle.bench_heaps.proofs.trees.crew.hire_tracers.Given as goal

abbrev pub decreases-loop-tracer : goal.decreases-loop-tracer
decreases-loop-tracer l = vec_len l.world.tracers
