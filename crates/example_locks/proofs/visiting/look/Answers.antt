use Rattle.example_locks.specs.Visits.{AddsSpares}
use Rattle.example_locks.proofs.Answered.{ok-always}
use Rattle.example_locks.proofs.Calls.{get-spares, spares-then}
use Rattle.std.proofs.Common.{refl}
use Rattle.example_locks.proofs.visiting.look.Goals as goal

pub returns : goal.returns
returns c =
    let x = c.args.m.now in
    let y = c.get.new.self in
    let z = c.get-2.new.self in
    record { spares = ok-always c.same.result (AddsSpares x z) (spares-then x y z (get-spares _ x y 2 0 0 refl c.in_ok-get.ensures.done) (get-spares _ y z 3 0 1 refl c.in_ok-get-2.ensures.done)) }
