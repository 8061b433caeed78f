use Rattle.shared_heap.specs.Logs.{AddsQuiet}
use Rattle.shared_heap.proofs.Logs.{get-quiet, set-quiet}
use Rattle.example_heaps.proofs.Ended.{on-ok}
use Rattle.example_heaps.proofs.Joined.{quiet-then}
use Rattle.example_heaps.proofs.locking.flip.Goals as goal

pub returns : goal.returns
returns c =
    let x = c.args.m.now in
    let y = c.get.new.self in
    let z = c.set.new.self in
    record { quiet = on-ok c.set.result _ (AddsQuiet x z) c.set.ensures.done (λ s. quiet-then x y z (get-quiet _ x y 1 0 0 c.in_ok-get.ensures.done) (set-quiet _ y z 0 0 _ s)) }
