use Rattle.example_locks.specs.Visits.{AddsVisits}
use Rattle.std.specs.Prelude.{true}
use Rattle.example_locks.proofs.Answered.{on-ok}
use Rattle.example_locks.proofs.Calls.{set-both}
use Rattle.example_locks.proofs.visiting.change.Goals as goal

pub returns : goal.returns
returns c =
    let x = c.args.m.now in
    let y = c.set.new.self in
    let z = c.set-2.new.self in
    record { changed = on-ok c.set-2.result _ (AddsVisits true true 0 x z) c.set-2.ensures.done (λ s. set-both _ _ x y z 1 c.in_ok-set.ensures.done s) }
