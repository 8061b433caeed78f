use Rattle.std.proofs.Common.{refl, ap}
use Rattle.std.specs.Arc.{arc_value}
use Rattle.gc_table.specs.Seats.{view_of}
use Rattle.seat_steps.proofs.Few.{stopped-few}
use Rattle.shared_heap.proofs.mutator.SharedMutator.of_steps.Goals as goal

pub returns-in-Ok-clause-ok : goal.returns-in-Ok-clause-ok
returns-in-Ok-clause-ok c =
    let s = c.in-Ok.ensures.ok in
    record { outside = refl; few = stopped-few c.args.stepper.stage (view_of c.args.stepper.seat) (view_of c.in-Ok.resting.seat) s.stopped; stopped = s.stopped; leaves = s.leaves; world = ap (λ h. arc_value h) s.heap; name_is = s.name_is }
