use Rattle.std.specs.Prelude.{false, true}
use Rattle.shared_heap.specs.Logs.{AddsLocks}
use Rattle.example_heaps.proofs.Ended.{on-true}
use Rattle.example_heaps.proofs.Joined.{locks-first, locks-then}
use Rattle.example_heaps.proofs.locking.visit_once.Goals as goal

pub returns-in-Ok : goal.returns-in-Ok
returns-in-Ok g c =
    let w = c.args.m.now in
    let x = c.take.new.m in
    let y = c.flip.new.m in
    let z = c.leave.new.m in
    record {
      visited =
          on-true c.leave.result (AddsLocks true false 1 y z) (AddsLocks false false 2 w z) c.leave.ensures.left
          (λ s. locks-then w y z false true false 1 1 (locks-first w x y false true 1 c.if-not-take.ensures.taken c.in-Ok.ensures.quiet) s);
    }
