use Rattle.std.proofs.Common.{◌≡◌, refl, sym, subst, true}
use Rattle.mark_core.specs.Steps.WorldSteps.{has_nothing}
use Rattle.mark_core.specs.declared.kinds.Step.TheVariants.{DropStep, LeaveStep}
use Rattle.gc_table.specs.Seats.{view_of}
use Rattle.gc_table.specs.declared.view.View.{View}
use Rattle.gc_cycle.proofs.Stops.OutAndIn.{free-to-leave}
use Rattle.shared_heap.proofs.Rooted.{spares-join, spares-took}
use Rattle.shared_heap.proofs.opening.goes_on.Goals as goal

pub leave-requires-clause-free : goal.leave-requires-clause-free
leave-requires-clause-free c = free-to-leave (view_of c.resume.new.seat) (subst (λ (y : View). has_nothing y.shape y.state ≡ true) (sym c.resume.ensures.step.1.0) c.requires.rest.rest)

pub returns-clause-spares : goal.returns-clause-spares
returns-clause-spares c =
    let u = view_of c.args.seat.now in
    let v = view_of c.resume.new.seat in
    let w = view_of c.leave.new.seat in
    let dropped = spares-took u v DropStep refl c.resume.ensures.ran c.resume.ensures.step in
    let left = spares-took v w LeaveStep refl c.leave.ensures.ran c.leave.ensures.step in
    spares-join u v w dropped left
