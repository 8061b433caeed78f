use Rattle.std.specs.Prelude.{false, if◌then◌else◌}
use Rattle.shared_heap.proofs.Logs.{same-quiet, take-locks}
use Rattle.example_heaps.proofs.Joined.{locks-first}
use Rattle.example_heaps.proofs.locking.try_take.Goals as goal

pub returns-in-Ok-safe_point : goal.returns-in-Ok-safe_point
returns-in-Ok-safe_point g c =
    let x = c.args.m.now in
    let y = c.exchange_value.new.self in
    let z = c.safe_point.new.self in
    let had = c.in-Ok.had in
    record { taken = locks-first x y z false had (if had then 1 else 0) (take-locks _ x y 0 had c.in-Ok.ensures.done) (same-quiet y z c.in-Ok-safe_point.ensures.passed.same) }
