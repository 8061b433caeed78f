use Rattle.std.specs.Prelude.{false, if◌then◌else◌}
use Rattle.example_locks.proofs.Calls.{same-spares, take-visits, visits-first}
use Rattle.example_locks.proofs.visiting.try_take.Goals as goal

pub returns-in-Ok-safe_point : goal.returns-in-Ok-safe_point
returns-in-Ok-safe_point g c =
    let x = c.args.m.now in
    let y = c.exchange_value.new.self in
    let z = c.safe_point.new.self in
    let had = c.in-Ok.had in
    record { taken = visits-first x y z false had (if had then 1 else 0) (take-visits _ x y had c.in-Ok.ensures.done) (same-spares y z c.in-Ok-safe_point.ensures.passed.same) }
