use Rattle.std.proofs.Common.{refl}
use Rattle.std.specs.Prelude.{false, true}
use Rattle.plain_heap.specs.declared.operation.Op.TheVariants.{New}
use Rattle.seat_turns.specs.Sharing.{MakesSharedAfter}
use Rattle.shared_heap.specs.Calls.{SharerDoes}
use Rattle.example_locks.proofs.Answered.{if-ok}
use Rattle.example_locks.proofs.Calls.{make-spares, visits-last, visits-then}
use Rattle.example_locks.proofs.visiting.visit_once.Goals as goal

pub returns : goal.returns
returns g c =
    let v = c.args.m.now in
    let w = c.make.new.self in
    let x = c.take.new.m in
    let y = c.act_inside.new.m in
    let z = c.leave.new.m in
    let made = if-ok c.make.result (λ _. SharerDoes (MakesSharedAfter 1 0) (New 1 0) v w) c.if-is_err.ensures.value c.make.ensures.made in
    let taken = visits-last v w x false true 1 (make-spares _ v w 1 refl made.1) c.if-not-take.ensures.taken in
    record { visited = visits-then v y z false true false 1 1 (visits-then v x y false true true 1 0 taken c.in-Ok.ensures.changed) c.if-not-leave.ensures.left }
