use Rattle.std.proofs.Common.{◌≡◌, ◌++◌, [], map, length}
use Rattle.std.specs.Vec.Iter.{into_iter_items, into_iter_len}
use Rattle.crossbeam_queue.specs.Passes.{view, IsPassOf}
use Rattle.job_pool.specs.Draws.{hand}
use Rattle.job_pool.proofs.line.put_all.Given as goal

abbrev pub invariant-loop-job : goal.invariant-loop-job
invariant-loop-job g l =
    IsPassOf l.line l.me
    × (view l.me ≡ hand 8 (map (λ j. j.script) l.yielded) [])
    × (l.fn.jobs.items ≡ l.yielded ++ into_iter_items l.job-iterator)
    × (into_iter_len l.job-iterator ≡ length (into_iter_items l.job-iterator))
