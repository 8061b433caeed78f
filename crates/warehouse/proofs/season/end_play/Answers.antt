use Rattle.std.proofs.Common.{◌≡◌, ◌∙◌, ◌%◌, ◌==◌, refl, sym, ap, subst, true}
use Rattle.gc_table.specs.Log.{events}
use Rattle.gc_table.specs.Seats.{view_of}
use Rattle.warehouse.proofs.Pacing.{ends-both, ends-cycle}
use Rattle.gc_table.specs.declared.view.View.{View}
use Rattle.mark_core.specs.declared.kinds.Shape.{Shape}
use Rattle.gc_cycle.specs.Cycles.{collects_exactly}
use Rattle.gc_cycle.specs.Moments.{begins}
use Rattle.warehouse.proofs.Settling.{ends-leaves, even-next, exact-settles}
use Rattle.warehouse.proofs.Stopping.{finishes-unhelped}
use Rattle.warehouse.proofs.season.end_play.Goals as goal

pub leave_stop-requires-in-Done-clause-unhelping : goal.leave_stop-requires-in-Done-clause-unhelping
leave_stop-requires-in-Done-clause-unhelping g c =
    finishes-unhelped (view_of c.end_turn.new.seat) (view_of c.precise.new.seat) c.precise.ensures.ends.ran c.precise.ensures.ends.only ∙ c.in-Done.ensures.ends.unhelping

pub returns-in-Done-clause-keeps : goal.returns-in-Done-clause-keeps
returns-in-Done-clause-keeps g c =
    let p = c.precise.ensures.ends in
    let e = c.in-Done.ensures.ends in
    let z : View = view_of c.leave_stop-in-Done.new.seat in
    (e.ends z (ends-leaves (view_of c.end_turn.new.seat) (view_of c.precise.new.seat) z e.alone p.ran p.spares p.position p.calm p.going c.leave_stop-in-Done.ensures.leaves)).0

pub returns-in-Done-clause-ends : goal.returns-in-Done-clause-ends
returns-in-Done-clause-ends g c =
    let p = c.precise.ensures.ends in
    let e = c.in-Done.ensures.ends in
    let z : View = view_of c.leave_stop-in-Done.new.seat in
    (e.ends z (ends-leaves (view_of c.end_turn.new.seat) (view_of c.precise.new.seat) z e.alone p.ran p.spares p.position p.calm p.going c.leave_stop-in-Done.ensures.leaves)).1

pub returns-in-Done-clause-settles : goal.returns-in-Done-clause-settles
returns-in-Done-clause-settles g c =
    let p = c.precise.ensures.ends in
    let e = c.in-Done.ensures.ends in
    let u : View = view_of c.args.seat.now in
    let x : View = view_of c.end_turn.new.seat in
    let y : View = view_of c.precise.new.seat in
    let z : View = view_of c.leave_stop-in-Done.new.seat in
    let l = c.leave_stop-in-Done.ensures.leaves in (
      (e.ends z (ends-leaves x y z e.alone p.ran p.spares p.position p.calm p.going l)).1.2,
      λ odd.
          l.settled
          (exact-settles x y p.ran p.spares e.catalogue (ap (λ n. n % 2 == 0) (e.turned refl) ∙ even-next u.own.seasons odd)
          (subst (λ (sh : Shape). collects_exactly sh (begins x) (events x y) ≡ true) (sym c.end_turn.ensures.seat.1) c.precise.ensures.collects)),
    )

pub returns-in-Full-clause-paces : goal.returns-in-Full-clause-paces
returns-in-Full-clause-paces g c = ends-both (view_of c.args.seat.now) (view_of c.end_turn.new.seat) (view_of c.leave_stop.new.seat) c.end_turn.ensures.paces c.leave_stop.ensures.paces

pub returns-in-Done-clause-paces : goal.returns-in-Done-clause-paces
returns-in-Done-clause-paces g c =
    let p = c.precise.ensures.ends in
    let u : View = view_of c.args.seat.now in
    let x : View = view_of c.end_turn.new.seat in
    let y : View = view_of c.precise.new.seat in
    let z : View = view_of c.leave_stop-in-Done.new.seat in
    ends-both u y z (ends-both u x y c.end_turn.ensures.paces (ends-cycle x y p)) c.leave_stop-in-Done.ensures.paces
